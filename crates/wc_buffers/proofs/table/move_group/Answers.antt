use Rattle.std.proofs.Common.{◌≡◌, ◌∙◌, List, Some, ap, sym, subst, length, arith, insert}
use Rattle.wc_text.specs.declared.names.Handle.{Handle}
use Rattle.wc_buffers.specs.Groups.{place}
use Rattle.wc_buffers.specs.Table.{key, AreGroups}
use Rattle.wc_buffers.proofs.TableLemmas.{never_nowhere, at, moved_there, moved_length, moved_are}
use Rattle.wc_buffers.proofs.table.move_group.Goals as goal

pub unreachable-requires : goal.unreachable-requires
unreachable-requires c =
    never_nowhere c.args.h.0 c.args.groups.now.items c.requires.there (ap (place key c.args.h.0) (sym c.as_slice.ensures.value) ∙ sym c.place_of.ensures ∙ c.in_default.is)

pub returns-clause-moved : goal.returns-clause-moved
returns-clause-moved c =
    let gs = c.args.groups.now.items in
    let e : place key c.args.h.0 gs ≡ Some c.in-Some.place = ap (place key c.args.h.0) (sym c.as_slice.ensures.value) ∙ sym c.place_of.ensures ∙ c.in-Some.is in
    c.in-Ok.ensures.items ∙ ap (λ l. insert l c.args.before c.remove-group.result) c.remove-group.ensures.items
    ∙ moved_there c.args.h.0 c.in-Some.place gs c.requires.stored.groups_are e c.args.before c.remove-group.result c.remove-group.ensures.value

pub returns-clause-stored : goal.returns-clause-stored
returns-clause-stored c =
    let gs = c.args.groups.now.items in
    let e : place key c.args.h.0 gs ≡ Some c.in-Some.place = ap (place key c.args.h.0) (sym c.as_slice.ensures.value) ∙ sym c.place_of.ensures ∙ c.in-Some.is in
    let are = c.requires.stored.groups_are in
    let shared = c.requires.stored.shared in
    record {
      groups_are = subst AreGroups (sym {A = List (List Handle)} (returns-clause-moved c)) (moved_are c.args.h.0 c.in-Some.place c.args.before gs are (at c.args.h.0 c.in-Some.place gs are e));
      emptied = c.requires.stored.emptied;
      shared = omega (arith, ap length (returns-clause-moved c), moved_length c.args.h.0 c.in-Some.place gs are e c.args.before);
      room = (let r = c.requires.stored.room in omega (arith, c.remove-group.ensures.capacity, c.in-Ok.ensures.capacity));
      spare_room = c.requires.stored.spare_room;
    }

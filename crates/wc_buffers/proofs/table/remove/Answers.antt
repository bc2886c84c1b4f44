use Rattle.std.proofs.Common.{◌≡◌, ◌∷◌, [], ◌∙◌, List, Some, ap, sym, subst, length, arith, length-append, length-set}
use Rattle.wc_text.specs.declared.names.Handle.{Handle}
use Rattle.wc_buffers.specs.Groups.{place, without}
use Rattle.wc_buffers.specs.Table.{key, AllEmpty, AreGroups}
use Rattle.wc_buffers.proofs.TableLemmas.{never_nowhere, read_there, set_left, removed_left, removed_length, empty_there, taken_are, AllEmpty-push}
use Rattle.wc_buffers.proofs.table.remove.Goals as goal

pub unreachable-requires : goal.unreachable-requires
unreachable-requires c =
    never_nowhere c.args.h.0 c.args.groups.now.items c.requires.there (ap (place key c.args.h.0) (sym c.as_slice.ensures.value) ∙ sym c.place_of.ensures ∙ c.in_default.is)

pub returns-else-len-eq0-clause-removed : goal.returns-else-len-eq0-clause-removed
returns-else-len-eq0-clause-removed c =
    let gs = c.args.groups.now.items in
    let e : place key c.args.h.0 gs ≡ Some c.in-Some.place = ap (place key c.args.h.0) (sym c.as_slice.ensures.value) ∙ sym c.place_of.ensures ∙ c.in-Some.is in
    let are = c.requires.stored.groups_are in
    let read = read_there c.args.h.0 c.in-Some.place gs are e c.index_mut-group.result.now c.index_mut-group.ensures.value in
    set_left c.args.h.0 c.in-Some.place gs are e c.remove.new.self (c.remove.ensures ∙ ap (without key c.args.h.0) read) (omega (arith, c.len.ensures, c.if-len-eq0.false))

pub returns-else-len-eq0-clause-stored : goal.returns-else-len-eq0-clause-stored
returns-else-len-eq0-clause-stored c =
    let gs = c.args.groups.now.items in
    let shared = c.requires.stored.shared in
    record {
      groups_are = subst AreGroups (sym {A = List (List Handle)} (returns-else-len-eq0-clause-removed c)) (taken_are c.args.h.0 gs c.requires.stored.groups_are);
      emptied = c.requires.stored.emptied;
      shared = omega (arith, length-set gs c.in-Some.place c.remove.new.self);
      room = c.requires.stored.room;
      spare_room = c.requires.stored.spare_room;
    }

pub returns-then-len-eq0-clause-removed : goal.returns-then-len-eq0-clause-removed
returns-then-len-eq0-clause-removed c =
    let gs = c.args.groups.now.items in
    let e : place key c.args.h.0 gs ≡ Some c.in-Some.place = ap (place key c.args.h.0) (sym c.as_slice.ensures.value) ∙ sym c.place_of.ensures ∙ c.in-Some.is in
    let are = c.requires.stored.groups_are in
    let read = read_there c.args.h.0 c.in-Some.place gs are e c.index_mut-group.result.now c.index_mut-group.ensures.value in
    c.remove-empty.ensures.items ∙ removed_left c.args.h.0 c.in-Some.place gs are e c.remove.new.self (c.remove.ensures ∙ ap (without key c.args.h.0) read) (omega (arith, c.len.ensures, c.if-len-eq0.true))

pub returns-then-len-eq0-clause-stored : goal.returns-then-len-eq0-clause-stored
returns-then-len-eq0-clause-stored c =
    let gs = c.args.groups.now.items in
    let e : place key c.args.h.0 gs ≡ Some c.in-Some.place = ap (place key c.args.h.0) (sym c.as_slice.ensures.value) ∙ sym c.place_of.ensures ∙ c.in-Some.is in
    let are = c.requires.stored.groups_are in
    let empty = empty_there c.args.h.0 c.in-Some.place gs are e c.remove.new.self c.remove-empty.result (omega (arith, c.len.ensures, c.if-len-eq0.true)) c.remove-empty.ensures.value in
    let shared = c.requires.stored.shared in
    record {
      groups_are = subst AreGroups (sym {A = List (List Handle)} (returns-then-len-eq0-clause-removed c)) (taken_are c.args.h.0 gs are);
      emptied = subst AllEmpty (sym c.push_reserved.ensures.items) (AllEmpty-push c.args.spare.now.items c.remove-empty.result c.requires.stored.emptied empty);
      shared = omega (arith, ap length c.remove-empty.ensures.items, removed_length c.args.h.0 c.in-Some.place gs are e c.remove.new.self, ap length c.push_reserved.ensures.items, length-append c.args.spare.now.items (c.remove-empty.result ∷ []));
      room = (let r = c.requires.stored.room in omega (arith, c.remove-empty.ensures.capacity));
      spare_room = (let r = c.requires.stored.spare_room in omega (arith, c.push_reserved.ensures.capacity));
    }

use Rattle.std.proofs.Common.{◌≡◌, ◌++◌, ◌∷◌, [], ◌∙◌, List, Some, ap, sym, subst, length, arith, length-set}
use Rattle.wc_text.specs.declared.names.Handle.{Handle}
use Rattle.wc_buffers.specs.Groups.{place}
use Rattle.wc_buffers.specs.Table.{key, AreGroups}
use Rattle.wc_buffers.proofs.TableLemmas.{never_nowhere, at, read_there, appended_there, appended_are, group-le-rows}
use Rattle.wc_buffers.proofs.table.append.Goals as goal

pub unreachable-requires : goal.unreachable-requires
unreachable-requires c =
    never_nowhere c.args.into.0 c.args.groups.now.items c.requires.there (ap (place key c.args.into.0) (sym c.as_slice.ensures.value) ∙ sym c.place_of.ensures ∙ c.in_default.is)

pub push-requires : goal.push-requires
push-requires c =
    let gs = c.args.groups.now.items in
    let e : place key c.args.into.0 gs ≡ Some c.in-Some.place = ap (place key c.args.into.0) (sym c.as_slice.ensures.value) ∙ sym c.place_of.ensures ∙ c.in-Some.is in
    let are = c.requires.stored.groups_are in
    let read = read_there c.args.into.0 c.in-Some.place gs are e c.index_mut-group.result.now c.index_mut-group.ensures.value in
    let room = c.requires.room in
    omega (arith, ap length read, group-le-rows c.args.into.0 c.in-Some.place gs (at c.args.into.0 c.in-Some.place gs are e))

pub returns-clause-appended : goal.returns-clause-appended
returns-clause-appended c =
    let gs = c.args.groups.now.items in
    let e : place key c.args.into.0 gs ≡ Some c.in-Some.place = ap (place key c.args.into.0) (sym c.as_slice.ensures.value) ∙ sym c.place_of.ensures ∙ c.in-Some.is in
    let are = c.requires.stored.groups_are in
    let read = read_there c.args.into.0 c.in-Some.place gs are e c.index_mut-group.result.now c.index_mut-group.ensures.value in
    appended_there c.args.into.0 c.in-Some.place gs are e (c.args.h ∷ []) c.push.new.self (c.push.ensures ∙ ap (λ (g : List Handle). g ++ c.args.h ∷ []) read)

pub returns-clause-stored : goal.returns-clause-stored
returns-clause-stored c =
    let gs = c.args.groups.now.items in
    let e : place key c.args.into.0 gs ≡ Some c.in-Some.place = ap (place key c.args.into.0) (sym c.as_slice.ensures.value) ∙ sym c.place_of.ensures ∙ c.in-Some.is in
    let are = c.requires.stored.groups_are in
    let shared = c.requires.stored.shared in
    record {
      groups_are = subst AreGroups (sym {A = List (List Handle)} (returns-clause-appended c)) (appended_are c.args.into.0 c.in-Some.place c.args.h gs are (at c.args.into.0 c.in-Some.place gs are e) c.requires.absent c.requires.room);
      emptied = c.requires.stored.emptied;
      shared = omega (arith, length-set gs c.in-Some.place c.push.new.self);
      room = c.requires.stored.room;
      spare_room = c.requires.stored.spare_room;
    }

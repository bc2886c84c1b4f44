use Rattle.std.proofs.Common.{◌≡◌, ◌+◌, ◌++◌, ◌∷◌, [], ◌∙◌, List, Some, ap, sym, subst, length, arith, length-append, insert, set}
use Rattle.wc_text.specs.declared.names.Handle.{Handle}
use Rattle.wc_buffers.specs.Groups.{place, without}
use Rattle.wc_buffers.specs.Table.{key, AllEmpty, AreGroups}
use Rattle.wc_buffers.proofs.TableLemmas.{never_nowhere, at, read_there, unmerged_there, unmerged_length, unmerged_are, leaves_others, fewer, AllEmpty-pop}
use Rattle.wc_buffers.proofs.table.unmerge.Goals as goal

pub unreachable-requires : goal.unreachable-requires
unreachable-requires c =
    never_nowhere c.args.h.0 c.args.groups.now.items c.requires.there (ap (place key c.args.h.0) (sym c.as_slice.ensures.value) ∙ sym c.place_of.ensures ∙ c.in_default.is)

pub unreachable-requires-in_default-pop : goal.unreachable-requires-in_default-pop
unreachable-requires-in_default-pop c =
    let gs = c.args.groups.now.items in
    let e : place key c.args.h.0 gs ≡ Some c.in-Some.place = ap (place key c.args.h.0) (sym c.as_slice.ensures.value) ∙ sym c.place_of.ensures ∙ c.in-Some.is in
    let are = c.requires.stored.groups_are in
    let s = at c.args.h.0 c.in-Some.place gs are e in
    let less = fewer c.args.h.0 c.in-Some.place gs are s (leaves_others c.args.h.0 c.in-Some.place gs s c.requires.merged) in
    let few = are.few in
    let shared = c.requires.stored.shared in
    let long = c.args.spare.now.ok.0 in
    let cases = c.in_default-pop.ensures.cases in
    omega (arith, less, few, cases)

pub push-requires : goal.push-requires
push-requires c =
    let spare = AllEmpty-pop c.pop.new.self.items c.in-Some-pop.alone (subst AllEmpty c.in-Some-pop.ensures.items c.requires.stored.emptied) in
    omega (arith, ap length spare.0)

pub returns-clause-unmerged : goal.returns-clause-unmerged
returns-clause-unmerged c =
    let gs = c.args.groups.now.items in
    let e : place key c.args.h.0 gs ≡ Some c.in-Some.place = ap (place key c.args.h.0) (sym c.as_slice.ensures.value) ∙ sym c.place_of.ensures ∙ c.in-Some.is in
    let are = c.requires.stored.groups_are in
    let s = at c.args.h.0 c.in-Some.place gs are e in
    let rest = leaves_others c.args.h.0 c.in-Some.place gs s c.requires.merged in
    let spare = AllEmpty-pop c.pop.new.self.items c.in-Some-pop.alone (subst AllEmpty c.in-Some-pop.ensures.items c.requires.stored.emptied) in
    let alone : c.push.new.self ≡ c.args.h ∷ [] = c.push.ensures ∙ ap (λ (g : List Handle). g ++ c.args.h ∷ []) spare.0 in
    let read = read_there c.args.h.0 c.in-Some.place gs are e c.index_mut-group.result.now c.index_mut-group.ensures.value in
    let left = c.remove.ensures ∙ ap (without key c.args.h.0) read in
    c.in-Ok.ensures.items ∙ ap (λ g. insert (set gs c.in-Some.place c.remove.new.self) (c.in-Some.place + 1) g) alone
    ∙ unmerged_there c.args.h c.in-Some.place gs are e c.remove.new.self left (omega (arith, rest, ap length left))

pub returns-clause-stored : goal.returns-clause-stored
returns-clause-stored c =
    let gs = c.args.groups.now.items in
    let e : place key c.args.h.0 gs ≡ Some c.in-Some.place = ap (place key c.args.h.0) (sym c.as_slice.ensures.value) ∙ sym c.place_of.ensures ∙ c.in-Some.is in
    let are = c.requires.stored.groups_are in
    let s = at c.args.h.0 c.in-Some.place gs are e in
    let rest = leaves_others c.args.h.0 c.in-Some.place gs s c.requires.merged in
    let spare = AllEmpty-pop c.pop.new.self.items c.in-Some-pop.alone (subst AllEmpty c.in-Some-pop.ensures.items c.requires.stored.emptied) in
    let alone : c.push.new.self ≡ c.args.h ∷ [] = c.push.ensures ∙ ap (λ (g : List Handle). g ++ c.args.h ∷ []) spare.0 in
    let long = ap length (c.in-Ok.ensures.items ∙ ap (λ g. insert (set gs c.in-Some.place c.remove.new.self) (c.in-Some.place + 1) g) alone) in
    let shared = c.requires.stored.shared in
    record {
      groups_are = subst AreGroups (sym {A = List (List Handle)} (returns-clause-unmerged c)) (unmerged_are c.args.h c.in-Some.place gs are s rest);
      emptied = spare.1;
      shared = omega (arith, long, unmerged_length c.args.h c.in-Some.place gs are e c.remove.new.self, ap length c.in-Some-pop.ensures.items, length-append c.pop.new.self.items (c.in-Some-pop.alone ∷ []));
      room = (let r = c.requires.stored.room in omega (arith, c.in-Ok.ensures.capacity));
      spare_room = (let r = c.requires.stored.spare_room in omega (arith, c.pop.ensures.capacity));
    }

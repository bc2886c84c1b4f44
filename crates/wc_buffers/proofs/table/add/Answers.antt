use Rattle.std.proofs.Common.{◌++◌, ◌∷◌, [], ◌∙◌, List, ap, sym, subst, length, arith, length-append}
use Rattle.wc_text.specs.declared.names.Handle.{Handle}
use Rattle.wc_buffers.specs.Table.{AllEmpty, AreGroups}
use Rattle.wc_buffers.proofs.TableLemmas.{groups-le-rows, added_are, AllEmpty-pop}
use Rattle.wc_buffers.proofs.table.add.Goals as goal

pub unreachable-requires : goal.unreachable-requires
unreachable-requires c =
    let few = groups-le-rows c.args.groups.now.items c.requires.stored.groups_are.filled in
    let shared = c.requires.stored.shared in
    let long = c.args.spare.now.ok.0 in
    let cases = c.in_default.ensures.cases in
    let room = c.requires.room in
    omega (arith, few, cases)

pub push-requires : goal.push-requires
push-requires c =
    let spare = AllEmpty-pop c.pop.new.self.items c.in-Some.group (subst AllEmpty c.in-Some.ensures.items c.requires.stored.emptied) in
    omega (arith, ap length spare.0)

pub returns-clause-added : goal.returns-clause-added
returns-clause-added c =
    let spare = AllEmpty-pop c.pop.new.self.items c.in-Some.group (subst AllEmpty c.in-Some.ensures.items c.requires.stored.emptied) in
    c.push_reserved.ensures.items ∙ ap (λ (g : List Handle). c.args.groups.now.items ++ g ∷ []) (c.push.ensures ∙ ap (λ (g : List Handle). g ++ c.args.h ∷ []) spare.0)

pub returns-clause-stored : goal.returns-clause-stored
returns-clause-stored c =
    let spare = AllEmpty-pop c.pop.new.self.items c.in-Some.group (subst AllEmpty c.in-Some.ensures.items c.requires.stored.emptied) in
    let gs = c.args.groups.now.items in
    let shared = c.requires.stored.shared in
    record {
      groups_are = subst AreGroups (sym {A = List (List Handle)} (returns-clause-added c)) (added_are c.args.h gs c.requires.stored.groups_are c.requires.absent c.requires.room);
      emptied = spare.1;
      shared = omega (arith, ap length (returns-clause-added c), length-append gs ((c.args.h ∷ []) ∷ []), ap length c.in-Some.ensures.items, length-append c.pop.new.self.items (c.in-Some.group ∷ []));
      room = (let r = c.requires.stored.room in omega (arith, c.push_reserved.ensures.capacity));
      spare_room = (let r = c.requires.stored.spare_room in omega (arith, c.pop.ensures.capacity));
    }

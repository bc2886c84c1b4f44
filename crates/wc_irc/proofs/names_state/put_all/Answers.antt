use Rattle.std.proofs.Common.{◌≡◌, ◌∷◌, ap, sym, ◌∙◌, subst, List, length, arith}
use Rattle.std.specs.Vec.Iter.{into_iter_items}
use Rattle.wc_ircmsg.specs.declared.case_map.CaseMap.{CaseMap}
use Rattle.wc_irc.specs.declared.names_state.Comer.{Comer}
use Rattle.wc_irc.specs.NamesSeen.{MayCome}
use Rattle.wc_irc.proofs.ComerLemmas.{may_first, comers_put}
use Rattle.wc_irc.proofs.names_state.put_all.Goals as goal

pub put-requires-clause-may : goal.put-requires-clause-may
put-requires-clause-may c =
    let both = may_first c.args.list.now.case_map (into_iter_items c.loop-comer.comer-iterator) (into_iter_items c.next.new.self) c.in-Some.comer c.in-Some.ensures.steps.0 c.loop-comer.invariant.may in
    subst (λ (m : CaseMap). MayCome m c.in-Some.comer) (sym c.loop-comer.invariant.case_map) both.0

pub put-requires-clause-room : goal.put-requires-clause-room
put-requires-clause-room c = omega (arith, ap (λ (l : List Comer). length l) c.in-Some.ensures.steps.0, c.loop-comer.invariant.room)

pub loop-comer-preserved : goal.loop-comer-preserved
loop-comer-preserved c =
    let left = into_iter_items c.loop-comer.comer-iterator in
    let rest = into_iter_items c.next.new.self in
    let first : left ≡ c.in-Some.comer ∷ rest = c.in-Some.ensures.steps.0 in
    record {
      case_map = c.put.ensures.case_map ∙ c.loop-comer.invariant.case_map;
      may = (may_first c.args.list.now.case_map left rest c.in-Some.comer first c.loop-comer.invariant.may).1;
      room = omega (arith, ap (λ (l : List Comer). length l) first, c.loop-comer.invariant.room, c.put.ensures.room);
      same = comers_put c.loop-comer.list.case_map c.args.list.now.case_map left rest c.in-Some.comer c.loop-comer.list.seats c.put.new.list.seats _ c.loop-comer.invariant.case_map first c.put.ensures.seats c.loop-comer.invariant.same;
    }

use Rattle.std.proofs.Common.{◌≡◌, ◌∷◌, ap, sym, ◌∙◌, subst, List, Option, map, drop}
use Rattle.std.specs.Vec.Iter.{into_iter_items}
use Rattle.wc_irc.specs.Channels.{joined}
use Rattle.wc_irc_nicks.specs.Kept.{NewNickValue}
use Rattle.wc_irc.specs.ReadySeen.{AllCanGive}
use Rattle.wc_irc.proofs.ReadyLemmas.{give_from, give_one_more, some_there, can_next, can_others}
use Rattle.wc_irc.proofs.rename_state.give_all.Goals as goal

pub bounds-channels-place : goal.bounds-channels-place
bounds-channels-place c =
    let can = subst (AllCanGive c.args.old.now (drop c.loop-next.place c.loop-next.channels)) c.in-Some.ensures.steps.0 c.loop-next.invariant.can in
    some_there c.args.old.now c.loop-next.channels c.loop-next.place c.in-Some.next (into_iter_items c.next.new.self) can

pub give-requires : goal.give-requires
give-requires c =
    let items = c.loop-next.channels in
    let n = c.loop-next.place in
    let here = c.index-channels-place.result in
    let can = subst (AllCanGive c.args.old.now (drop n items)) c.in-Some.ensures.steps.0 c.loop-next.invariant.can in
    can_next c.args.old.now items n here c.in-Some.next (into_iter_items c.next.new.self) can

pub loop-next-preserved : goal.loop-next-preserved
loop-next-preserved c =
    let old = c.args.old.now in
    let items = c.loop-next.channels in
    let n = c.loop-next.place in
    let left = into_iter_items c.loop-next.next-iterator in
    let rest = into_iter_items c.next.new.self in
    let first : left ≡ c.in-Some.next ∷ rest = c.in-Some.ensures.steps.0 in
    let can = subst (AllCanGive old (drop n items)) first c.loop-next.invariant.can in
    let here = c.index-channels-place.result in
    record {
      can = can_others old items n c.give.new.channel c.in-Some.next rest can;
      same = give_one_more old items n here c.give.new.channel c.in-Some.next rest (some_there old items n c.in-Some.next rest can) c.give.ensures
          ∙ sym (ap (λ (l : List (Option NewNickValue)). give_from old n l (map joined items)) first) ∙ c.loop-next.invariant.same;
    }

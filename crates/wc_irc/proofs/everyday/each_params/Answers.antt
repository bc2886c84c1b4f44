use Rattle.std.proofs.Common.{◌++◌, ◌∷◌, [], ◌<◌, List, ℕ, length, ap, ◌∙◌, arith, map}
use Rattle.std.proofs.lemmas.Bool.Decides.{nat_tests}
use Rattle.wc_irc.specs.CommandActs.{mode_params, fours}
use Rattle.wc_irc.proofs.FourLemmas.{next_four}
use Rattle.wc_irc.proofs.everyday.each_params.Goals as goal

pub loop-rest-preserved : goal.loop-rest-preserved
loop-rest-preserved c =
    let params = mode_params c.args.adds c.args.letter c.args.channel.now in
    let some : 0 < length c.loop-rest.rest.now = grind (arith, nat_tests, c.is_empty.ensures, c.loop-rest-test.true) in
    let more = c.in_ok-push.ensures.ok ∙ ap (λ (p : List (List ℕ)). c.loop-rest.each ++ p ∷ []) c.in_ok-mode_params.ensures in
    next_four params c.loop-rest.rest.now c.cut_four.result.0.now c.cut_four.result.1.now c.loop-rest.each c.push.new.self (map params (fours c.args.names.now)) some c.cut_four.ensures.first c.cut_four.ensures.rest more c.loop-rest.invariant

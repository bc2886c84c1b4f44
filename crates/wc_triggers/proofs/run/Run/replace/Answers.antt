use Rattle.std.proofs.Common.{Some, ap, ap₂, ◌∙◌}
use Rattle.std.proofs.lemmas.Result.{on_ok_weaker}
use Rattle.wc_eval.specs.Names.{facts_of, value_of}
use Rattle.wc_triggers.specs.Reactions.{matched}
use Rattle.wc_eval.proofs.StepLemmas.{stay_both}
use Rattle.wc_triggers.proofs.ReactionLemmas.{variable_there}
use Rattle.wc_triggers.proofs.run.Run.replace.Goals as goal

pub returns-clause-run : goal.returns-clause-run
returns-clause-run c =
    let there = ap Some c.in_ok-text.ensures ∙ c.in-Some.ensures.value ∙ ap₂ value_of c.as_slice-2.ensures c.as_slice.ensures in
    on_ok_weaker c.replace_matches.result (λ given oracle agrees. given oracle agrees
    ∙ ap (λ ms. matched (facts_of c.args.scope) oracle c.args.part.now c.in_ok-text.text ms c.args.self.now) (c.as_slice-3.ensures ∙ c.in_ok-matches.ensures.matches)
    ∙ variable_there (facts_of c.args.scope) oracle c.args.part.now c.args.self.now c.in_ok-text.text there) c.replace_matches.ensures.run

pub returns-clause-stay : goal.returns-clause-stay
returns-clause-stay c =
    stay_both c.args.verdicts.now c.matches_of.new.verdicts c.replace_matches.new.verdicts c.matches_of.ensures.stay c.replace_matches.ensures.stay

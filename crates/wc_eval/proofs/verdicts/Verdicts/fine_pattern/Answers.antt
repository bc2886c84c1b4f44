use Rattle.std.proofs.Common.{ap, ◌∙◌}
use Rattle.wc_eval.specs.Verdicts.{verdict_on}
use Rattle.wc_eval.specs.declared.verdict.Verdict.TheVariants.{Fine}
use Rattle.wc_eval.proofs.VerdictLemmas.{found_right}
use Rattle.wc_eval.proofs.verdicts.Verdicts.fine_pattern.Goals as goal

pub build_again-requires-clause-utf8 : goal.build_again-requires-clause-utf8
build_again-requires-clause-utf8 c =
    (found_right c.args.pattern.now c.self.inside.judged.entries Fine c.self.invariant.0
    (ap (verdict_on c.args.pattern.now) c.self.view_is ∙ c.requires)).0

pub build_again-requires-clause-fine : goal.build_again-requires-clause-fine
build_again-requires-clause-fine c =
    (found_right c.args.pattern.now c.self.inside.judged.entries Fine c.self.invariant.0
    (ap (verdict_on c.args.pattern.now) c.self.view_is ∙ c.requires)).1

use Rattle.std.proofs.Common.{sym, ◌∙◌}
use Rattle.wc_eval.proofs.StepLemmas.{agrees_earlier, stay_both}
use Rattle.wc_filters.proofs.FilterLemmas.{search_later}
use Rattle.wc_filters.proofs.search.Search.build.Goals as goal

pub returns-clause-fine : goal.returns-clause-fine
returns-clause-fine c oracle agrees =
    sym c.if-not-branch.false
    ∙ c.in_ok-judge.ensures.fine oracle (agrees_earlier oracle c.judge.new.verdicts c.of.new.verdicts c.of.ensures.stay agrees)

pub returns-clause-known : goal.returns-clause-known
returns-clause-known c =
    sym (search_later c.judge.new.verdicts c.of.new.verdicts c.of.ensures.stay c.args.self.now
    (sym c.in_ok-judge.ensures.known ∙ c.if-not-branch.false))

pub returns-clause-stay : goal.returns-clause-stay
returns-clause-stay c =
    stay_both c.args.verdicts.now c.judge.new.verdicts c.of.new.verdicts c.judge.ensures.stay c.of.ensures.stay

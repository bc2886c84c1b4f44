-- What contracts see of the rules.
use Rattle.std.specs.Prelude.{List}
use Rattle.wc_eval.specs.Verdicts.{VerdictsView}
use Rattle.wc_filters.specs.declared.filter.Filter.{Filter}

pub record RulesView : Type 0 where
  -- the texts that were judged as patterns
  pub verdicts : VerdictsView
  -- in the order of adding
  pub filters : List Filter

use Rattle.std.proofs.Common.{◌∙◌}
use Rattle.wc_options.proofs.KeptLemmas.{value_of_some, value_of_none}
use Rattle.wc_options.proofs.options.Options.get.Goals as goal

pub returns-in-Some : goal.returns-in-Some
returns-in-Some c = c.value_at.ensures ∙ value_of_some _ _ _ c.in-Some.ensures.place

pub returns-in-None : goal.returns-in-None
returns-in-None c = value_of_none _ _ c.in-None.ensures.place

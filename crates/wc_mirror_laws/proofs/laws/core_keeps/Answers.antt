use Rattle.wc_mirror_laws.proofs.ChangeLemmas.{change_keeps, made_keeps, filters_keep}
use Rattle.wc_mirror_laws.proofs.PushLemmas.{push_keeps}
use Rattle.wc_mirror_laws.proofs.StepLemmas.{step_keeps}
use Rattle.wc_mirror_laws.proofs.RunLemmas.{run_keeps}
use Rattle.wc_mirror_laws.proofs.laws.core_keeps.Goals as goal

pub returns-clause-event : goal.returns-clause-event
returns-clause-event c = λ link state event kept. step_keeps link state event kept

pub returns-clause-run : goal.returns-clause-run
returns-clause-run c = λ oracle options lines commands connects events link most texts. run_keeps oracle options lines commands connects events link most texts

pub returns-clause-change : goal.returns-clause-change
returns-clause-change c = λ link state change kept asked good. change_keeps link state change kept asked good

pub returns-clause-made : goal.returns-clause-made
returns-clause-made c = λ link state change kept told good. made_keeps link state change kept told good

pub returns-clause-filters : goal.returns-clause-filters
returns-clause-filters c = λ link state filters kept. filters_keep link state filters kept

pub returns-clause-push : goal.returns-clause-push
returns-clause-push c = λ link state kept. push_keeps link state kept

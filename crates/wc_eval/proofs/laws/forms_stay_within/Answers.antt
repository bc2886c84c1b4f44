use Rattle.wc_eval.proofs.BoundLemmas.{form_within}
use Rattle.wc_eval.proofs.laws.forms_stay_within.Goals as goal

pub returns : goal.returns
returns c = form_within

use Rattle.wc_eval.proofs.BoundLemmas.{text_short}
use Rattle.wc_eval.proofs.laws.values_stay_short.Goals as goal

pub returns : goal.returns
returns c = text_short

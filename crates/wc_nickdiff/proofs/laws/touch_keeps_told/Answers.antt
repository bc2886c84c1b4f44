use Rattle.wc_nickdiff.proofs.TouchLaw.{touch_law}
use Rattle.wc_nickdiff.proofs.laws.touch_keeps_told.Goals as goal

pub returns : goal.returns
returns c = touch_law

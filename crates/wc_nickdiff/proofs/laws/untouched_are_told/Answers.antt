use Rattle.wc_nickdiff.proofs.TouchLaw.{untouched_told}
use Rattle.wc_nickdiff.proofs.laws.untouched_are_told.Goals as goal

pub returns : goal.returns
returns c = untouched_told

use Rattle.wc_nickdiff.proofs.TouchLaw.{pushed_told}
use Rattle.wc_nickdiff.proofs.laws.pushed_are_told.Goals as goal

pub returns : goal.returns
returns c = pushed_told

use Rattle.wc_nickdiff.proofs.FullLaw.{push_law}
use Rattle.wc_nickdiff.proofs.laws.push_holds.Goals as goal

pub returns : goal.returns
returns c = push_law

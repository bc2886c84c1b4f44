use Rattle.wc_session.proofs.Formed.{null_formed}
use Rattle.wc_session.proofs.sending.null_hdata.Goals as goal

pub returns-clause-formed : goal.returns-clause-formed
returns-clause-formed c = rw c.new.ensures null_formed

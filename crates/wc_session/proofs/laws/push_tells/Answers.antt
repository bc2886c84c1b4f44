use Rattle.wc_session.proofs.SendingLemmas.{push_sends}
use Rattle.wc_session.proofs.laws.push_tells.Goals as goal

pub returns : goal.returns
returns c event buffer push session is = push_sends event buffer push session is

use Rattle.wc_session.proofs.SendingLemmas.{event_sends}
use Rattle.wc_session.proofs.laws.event_tells.Goals as goal

pub returns : goal.returns
returns c event world part session is = event_sends event world part session is

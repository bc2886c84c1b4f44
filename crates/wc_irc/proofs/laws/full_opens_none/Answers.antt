use Rattle.wc_irc.proofs.PrivateLawLemmas.{opens_none}
use Rattle.wc_irc.proofs.laws.full_opens_none.Goals as goal

pub returns : goal.returns
returns c = opens_none

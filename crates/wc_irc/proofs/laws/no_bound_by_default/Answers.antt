use Rattle.wc_irc.proofs.PrivateLawLemmas.{unbound_at_most, most_by_default}
use Rattle.wc_irc.proofs.laws.no_bound_by_default.Goals as goal

pub returns-clause-same : goal.returns-clause-same
returns-clause-same c = unbound_at_most

pub returns-clause-default : goal.returns-clause-default
returns-clause-default c = most_by_default

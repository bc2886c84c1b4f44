use Rattle.wc_session.proofs.LoginLaws.{lets_in_decides}
use Rattle.wc_session.proofs.laws.lets_in_exactly.Goals as goal

pub returns : goal.returns
returns c login password nonce chosen = lets_in_decides login password nonce chosen

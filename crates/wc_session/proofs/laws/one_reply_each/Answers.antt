use Rattle.wc_session.proofs.OneReplyLaws.{one_reply}
use Rattle.wc_session.proofs.laws.one_reply_each.Goals as goal

pub returns : goal.returns
returns c world context client request = one_reply world context client request

use Rattle.wc_mirror_laws.proofs.OneReplyLemmas.{gets_one_reply}
use Rattle.wc_mirror_laws.proofs.laws.each_request_gets_one_reply.Goals as goal

pub returns : goal.returns
returns c = λ world context client request known. gets_one_reply world context client request known

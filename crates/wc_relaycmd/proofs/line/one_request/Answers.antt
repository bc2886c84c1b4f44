use Rattle.wc_relaycmd.proofs.ReadLemmas.{ReadsRequest-one, request_of-reads, reads-request_of}
use Rattle.wc_relaycmd.proofs.line.one_request.Goals as goal

pub returns-clause-one : goal.returns-clause-one
returns-clause-one c = ReadsRequest-one

pub returns-clause-computed : goal.returns-clause-computed
returns-clause-computed c = λ line escaped request. (request_of-reads line escaped request, reads-request_of line escaped request)

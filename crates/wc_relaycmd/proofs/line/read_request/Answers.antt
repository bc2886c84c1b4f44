use Rattle.wc_relaycmd.proofs.ReadLemmas.{read_from, unread_from, without_memory_from}
use Rattle.wc_relaycmd.proofs.RequestTexts.{texts_from}
use Rattle.wc_relaycmd.proofs.line.read_request.Goals as goal

pub returns-clause-read : goal.returns-clause-read
returns-clause-read c = read_from _ c.args.line.now c.args.escaped c.request_in.ensures.computed

pub returns-clause-unread : goal.returns-clause-unread
returns-clause-unread c = unread_from _ c.args.line.now c.args.escaped c.request_in.ensures.computed

pub returns-clause-texts : goal.returns-clause-texts
returns-clause-texts c = texts_from _ c.args.line.now c.args.escaped (read_from _ c.args.line.now c.args.escaped c.request_in.ensures.computed)

pub returns-clause-without_memory : goal.returns-clause-without_memory
returns-clause-without_memory c = without_memory_from _ c.args.line.now c.args.escaped c.request_in.ensures.computed c.request_in.ensures.refused

use Rattle.wc_ws.proofs.HeadLemmas.{line_at}
use Rattle.wc_ws.proofs.head.first_empty_line.Goals as goal

pub returns-clause-first : goal.returns-clause-first
returns-clause-first c = line_at _ _ _ c.min.ensures c.find.ensures

use Rattle.wc_scripted.proofs.RowLemmas.{turn-rows, turn-there, turn-tokens}
use Rattle.wc_scripted.proofs.report.report_rows.Goals as goal

pub returns-clause-tokens : goal.returns-clause-tokens
returns-clause-tokens c = turn-tokens _ _ _ _ _ _ _ c.refill.ensures c.release.ensures c.report.ensures.tokens

pub returns-clause-there : goal.returns-clause-there
returns-clause-there c = turn-there _ _ _ _ _ _ _ _ c.refill.ensures c.release.ensures c.report.ensures.rows

pub returns-clause-rows : goal.returns-clause-rows
returns-clause-rows c = turn-rows _ _ _ _ _ _ _ _ c.refill.ensures c.release.ensures c.report.ensures.rows

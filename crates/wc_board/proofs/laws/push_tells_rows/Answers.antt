use Rattle.wc_board.proofs.TellLaw.{told_rows}
use Rattle.wc_board.proofs.laws.push_tells_rows.Goals as goal

pub returns-clause-only : goal.returns-clause-only
returns-clause-only c = told_rows

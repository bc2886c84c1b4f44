use Rattle.wc_lines.proofs.HistoryLaws.{held_is_last}
use Rattle.wc_lines.proofs.laws.held_is_last.Goals as goal

pub returns : goal.returns
returns c = held_is_last

use Rattle.wc_board.proofs.TellLaw.{change_keeps_told}
use Rattle.wc_board.proofs.laws.tell_keeps_told.Goals as goal

pub returns : goal.returns
returns c = change_keeps_told

use Rattle.wc_board.proofs.StrayTouches.{all_forgotten}
use Rattle.wc_board.proofs.board.Board.forget_touches.Goals as goal

pub returns-in-Err-clause-forgets : goal.returns-in-Err-clause-forgets
returns-in-Err-clause-forgets c = all_forgotten c.self.inside.world c.self.inside.pending c.forget_nicks.new.pending c.self.invariant c.forget_nicks.ensures

use Rattle.wc_board.proofs.board.Board.answer.Goals as goal

pub returns : goal.returns
returns c = rw (← c.self.view_is) (c.answer.ensures c.self.inside.pending)

use Rattle.wc_board.proofs.board.Board.push.Given as goal

abbrev pub ghosts-push_alone : goal.ghosts-push_alone
ghosts-push_alone a = record { name = a.blank.name; parts = a.blank.parts }

use Rattle.wc_board.proofs.board.Board.tell.Given as goal

abbrev pub ghosts-tell_alone : goal.ghosts-tell_alone
ghosts-tell_alone a = record { name = a.blank.name; parts = a.blank.parts }

use Rattle.wc_board.proofs.clients.Clients.serve_all.Given as goal

abbrev pub ghosts-serve_pass : goal.ghosts-serve_pass
ghosts-serve_pass a = record { name = a.blank.name; parts = a.blank.parts }

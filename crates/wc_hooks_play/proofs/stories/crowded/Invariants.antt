use Rattle.wc_hooks_play.proofs.stories.crowded.Given as goal

abbrev pub ghosts-reentrant : goal.ghosts-reentrant
ghosts-reentrant a = record { name = a.blank.name; parts = a.blank.parts }

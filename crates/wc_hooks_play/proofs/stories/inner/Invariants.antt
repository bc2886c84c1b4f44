use Rattle.wc_hooks_play.proofs.stories.inner.Given as goal

abbrev pub ghosts-with_inner_pass : goal.ghosts-with_inner_pass
ghosts-with_inner_pass a = record { name = a.blank.name; parts = a.blank.parts }

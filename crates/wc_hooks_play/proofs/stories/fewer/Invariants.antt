use Rattle.wc_hooks_play.proofs.stories.fewer.Given as goal

abbrev pub ghosts-with_fewer_entries : goal.ghosts-with_fewer_entries
ghosts-with_fewer_entries a = record { name = a.blank.name; parts = a.blank.parts }

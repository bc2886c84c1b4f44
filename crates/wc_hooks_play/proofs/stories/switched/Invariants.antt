use Rattle.wc_hooks_play.proofs.stories.switched.Given as goal

abbrev pub ghosts-with_switched_entries : goal.ghosts-with_switched_entries
ghosts-with_switched_entries a = record { name = a.blank.name; parts = a.blank.parts }

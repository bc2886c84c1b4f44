use Rattle.wc_hooks_play.proofs.stories.late.Given as goal

abbrev pub ghosts-with_late_entry : goal.ghosts-with_late_entry
ghosts-with_late_entry a = record { name = a.blank.name; parts = a.blank.parts }

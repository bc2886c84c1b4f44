use Rattle.wc_hooks_play.proofs.stories.unhooked.Given as goal

abbrev pub ghosts-with_unhooked_entry : goal.ghosts-with_unhooked_entry
ghosts-with_unhooked_entry a = record { name = a.blank.name; parts = a.blank.parts }

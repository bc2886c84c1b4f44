use Rattle.wc_hooks_play.proofs.stories.in_order.Given as goal

abbrev pub ghosts-by_priority : goal.ghosts-by_priority
ghosts-by_priority a = record { name = a.blank.name; parts = a.blank.parts }

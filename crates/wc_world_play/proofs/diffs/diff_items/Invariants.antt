use Rattle.wc_nickdiff.specs.Apply.{AreUtf8}
use Rattle.wc_world_play.proofs.diffs.diff_items.Given as goal

-- the texts so far
abbrev pub invariant-loop-word : goal.invariant-loop-word
invariant-loop-word l = AreUtf8 l.items

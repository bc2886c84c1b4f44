use Rattle.std.proofs.Common.{◌≡◌, length}
use Rattle.wc_eval.specs.Texts.{without_tail}
use Rattle.wc_eval.proofs.blanks.without_tail.Given as goal

abbrev pub invariant-blanks : goal.invariant-blanks
invariant-blanks l = without_tail l.front ≡ without_tail l.text

abbrev pub decreases-blanks : goal.decreases-blanks
decreases-blanks l = length l.front

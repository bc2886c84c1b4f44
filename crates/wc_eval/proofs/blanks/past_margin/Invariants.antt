use Rattle.std.proofs.Common.{◌≡◌, ◌≤◌, length}
use Rattle.wc_eval.specs.Texts.{past_margin}
use Rattle.wc_eval.proofs.blanks.past_margin.Given as goal

abbrev pub invariant-blanks : goal.invariant-blanks
invariant-blanks l = (past_margin l.rest ≡ past_margin l.text) × (length l.rest ≤ length l.text)

abbrev pub decreases-blanks : goal.decreases-blanks
decreases-blanks l = length l.rest

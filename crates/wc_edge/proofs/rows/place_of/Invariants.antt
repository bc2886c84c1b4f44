use Rattle.std.proofs.Common.{ℕ, ◌≤◌, ◌<◌, ◌-◌, length, get_or}
use Rattle.wc_edge.specs.declared.rows.Row.{Row}
use Rattle.wc_edge.specs.Rows.{number_of}
use Rattle.wc_edge.proofs.rows.place_of.Given as goal

abbrev pub invariant-loop-low : goal.invariant-loop-low
invariant-loop-low l = (l.low ≤ l.high) × (l.high ≤ length l.rows) × ((k : ℕ) (d : Row) → k < l.low → number_of (get_or l.rows k d) < l.link.0) × ((k : ℕ) (d : Row) → l.high ≤ k → k < length l.rows → l.link.0 < number_of (get_or l.rows k d))

abbrev pub decreases-loop-low : goal.decreases-loop-low
decreases-loop-low l = l.high - l.low

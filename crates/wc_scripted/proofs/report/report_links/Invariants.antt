use Rattle.std.proofs.Common.{◌≡◌, ◌++◌, ◌≤◌, ℕ, length, take}
use Rattle.wc_scripted.specs.Plays.{links_below}
use Rattle.wc_scripted.specs.Rows.{row_at, is_fresh_row, Reported}
use Rattle.wc_scripted.proofs.report.report_links.Given as goal

abbrev pub invariant-loop-number : goal.invariant-loop-number
invariant-loop-number l = record {
  tokens : take l.ready.count l.ready.tokens ≡ take l.fn.ready.count l.fn.ready.tokens ++ links_below (λ link. is_fresh_row (row_at link l.fn.rows)) l.number;
  rows : Reported l.fn.rows l.rows (take l.ready.count l.ready.tokens);
  ahead : (link : ℕ) → l.number ≤ link → row_at link l.rows ≡ row_at link l.fn.rows;
  filled : length (take l.ready.count l.ready.tokens) ≡ l.ready.count;
}

use Rattle.std.proofs.Common.{◌≡◌, ◌++◌}
use Rattle.std.specs.Prelude.{filter}
use Rattle.wc_nickdiff.specs.Held.{is_untouched}
use Rattle.wc_nickdiff.proofs.told.rows_not_touched.Given as goal

-- the rows so far whose keys were not touched
abbrev pub invariant-loop-view : goal.invariant-loop-view
invariant-loop-view l = record {
  rows : l.rows.items ≡ filter (is_untouched l.touches.touches) l.yielded;
  rest : l.now.rows ≡ l.yielded ++ l.view-iterator;
}

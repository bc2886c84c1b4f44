use Rattle.std.proofs.Common.{◌≡◌, drop}
use Rattle.wc_view.specs.Each.{each, following}
use Rattle.wc_view.specs.Rows.{row_in}
use Rattle.wc_view.proofs.rows.each_row.Given as goal

-- the rows so far and those of the items that are left
abbrev pub invariant-loop-item : goal.invariant-loop-item
invariant-loop-item l = (following l.rows.items (each row_in (drop l.item-index l.item-items)) ≡ each row_in l.items) × (l.item-items ≡ l.items)

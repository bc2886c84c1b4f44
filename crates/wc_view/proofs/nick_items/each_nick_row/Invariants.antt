use Rattle.std.proofs.Common.{◌≡◌, drop}
use Rattle.wc_view.specs.Each.{each, following}
use Rattle.wc_view.specs.NickRows.{nick_row_in}
use Rattle.wc_view.proofs.nick_items.each_nick_row.Given as goal

-- the rows so far and those of the items that are left
abbrev pub invariant-loop-item : goal.invariant-loop-item
invariant-loop-item l = (following l.rows.items (each nick_row_in (drop l.item-index l.item-items)) ≡ each nick_row_in l.items) × (l.item-items ≡ l.items)

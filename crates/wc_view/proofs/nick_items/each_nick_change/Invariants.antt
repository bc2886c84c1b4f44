use Rattle.std.proofs.Common.{◌≡◌, drop}
use Rattle.wc_view.specs.Each.{each, following}
use Rattle.wc_view.specs.NickRows.{nick_change_in}
use Rattle.wc_view.proofs.nick_items.each_nick_change.Given as goal

-- the changes so far and those of the items that are left
abbrev pub invariant-loop-item : goal.invariant-loop-item
invariant-loop-item l = (following l.changes.items (each nick_change_in (drop l.item-index l.item-items)) ≡ each nick_change_in l.items) × (l.item-items ≡ l.items)

use Rattle.std.proofs.Common.{◌≡◌, drop}
use Rattle.wc_view.specs.Each.{each, following}
use Rattle.wc_view.specs.ToldBuffer.{buffer_in}
use Rattle.wc_view.proofs.told.each_buffer.Given as goal

abbrev pub invariant-loop-item : goal.invariant-loop-item
invariant-loop-item l = (following l.rows.items (each (buffer_in l.keys) (drop l.item-index l.item-items)) ≡ each (buffer_in l.keys) l.items) × (l.item-items ≡ l.items)

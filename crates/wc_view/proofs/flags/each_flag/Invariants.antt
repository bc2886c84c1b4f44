use Rattle.std.proofs.Common.{◌≡◌, drop}
use Rattle.wc_view.specs.Each.{each, following}
use Rattle.wc_view.specs.Flags.{flag_in}
use Rattle.wc_view.proofs.flags.each_flag.Given as goal

-- the flags so far and those of the items that are left
abbrev pub invariant-loop-item : goal.invariant-loop-item
invariant-loop-item l = (following l.flags.items (each flag_in (drop l.item-index l.item-items)) ≡ each flag_in l.items) × (l.item-items ≡ l.items)

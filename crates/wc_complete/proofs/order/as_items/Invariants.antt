use Rattle.std.proofs.Common.{◌≡◌, ◌++◌}
use Rattle.std.specs.Vec.Iter.{into_iter_items}
use Rattle.wc_complete.proofs.order.as_items.Given as goal

-- those so far and those that are left
abbrev pub invariant-loop-text : goal.invariant-loop-text
invariant-loop-text l = l.items ++ into_iter_items l.text-iterator ≡ l.fn.texts.items

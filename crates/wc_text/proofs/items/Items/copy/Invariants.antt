use Rattle.std.proofs.Common.{◌≡◌, ◌≤◌, length, take, vec_len, vec_capacity}
use Rattle.wc_text.proofs.items.Items.copy.Given as goal

-- what is copied so far is the front of the list, and there is room for all of it
abbrev pub invariant-loop-item : goal.invariant-loop-item
invariant-loop-item g l =
    (l.items.items ≡ take l.item-index l.item-items) × (vec_len l.items ≡ l.item-index)
    × (length l.item-items ≤ vec_capacity l.items) × (l.item-items ≡ l.fn.self)

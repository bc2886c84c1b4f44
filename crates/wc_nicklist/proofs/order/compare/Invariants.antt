use Rattle.std.proofs.Common.{◌≡◌, drop}
use Rattle.wc_nicklist.specs.Order.{key_at, address_cmp, address_of}
use Rattle.wc_nicklist.proofs.order.compare.Given as goal

-- the names so far are alike
abbrev pub invariant-loop-i : goal.invariant-loop-i
invariant-loop-i l =
    let j = key_at l.a.is_group l.a.name.now in
    let k = key_at l.b.is_group l.b.name.now in
    address_cmp (address_of l.a.path.now j) (address_of l.b.path.now k) ≡ address_cmp (address_of (drop l.i l.a.path.now) j) (address_of (drop l.i l.b.path.now) k)

use Rattle.std.proofs.Common.{◌≡◌, ◌+◌, ◌<◌, length, drop, sym, ap, ◌∙◌, arith}
use Rattle.std.specs.Ordering.{ordering_then}
use Rattle.wc_text.specs.Order.{fold_order}
use Rattle.wc_nicklist.specs.Order.{key_at, address_cmp, address_of}
use Rattle.wc_nicklist.proofs.Addresses.{both_go_on, decided, tied}
use Rattle.wc_nicklist.proofs.order.compare.Goals as goal

-- the names at this place differ, so they decide
pub returns-then-ne : goal.returns-then-ne
returns-then-ne c =
    let p = c.args.a.now.path.now in
    let q = c.args.b.now.path.now in
    let j = key_at c.args.a.now.is_group c.args.a.now.name.now in
    let k = key_at c.args.b.now.is_group c.args.b.now.name.now in
    let n = c.loop-i.i in
    let x = c.index-a-i.result in
    let y = c.index-b-i.result in
    let h : n < length p = omega (arith, c.min-shared.ensures) in
    let l : n < length q = omega (arith, c.min-shared.ensures) in
    let rest = address_cmp (address_of (drop (n + 1) p) j) (address_of (drop (n + 1) q) k) in
    let ex : c.as_slice.result.now ≡ x = c.as_slice.ensures ∙ sym c.index-a-i.is in
    let ey : c.as_slice-in-loop-i.result.now ≡ y = c.as_slice-in-loop-i.ensures ∙ sym c.index-b-i.is in
    decided c.name_cmp-of_groups.result rest c.if-ne.ensures
    ∙ ap (λ o. ordering_then o rest) (c.name_cmp-of_groups.ensures ∙ (λ i. fold_order (ex i) (ey i)))
    ∙ sym (both_go_on p q j k n x y h l c.index-a-i.is c.index-b-i.is)
    ∙ sym c.loop-i.invariant

-- they are alike, so the next ones are compared
pub loop-i-preserved : goal.loop-i-preserved
loop-i-preserved c =
    let p = c.args.a.now.path.now in
    let q = c.args.b.now.path.now in
    let j = key_at c.args.a.now.is_group c.args.a.now.name.now in
    let k = key_at c.args.b.now.is_group c.args.b.now.name.now in
    let n = c.loop-i.i in
    let x = c.index-a-i.result in
    let y = c.index-b-i.result in
    let h : n < length p = omega (arith, c.min-shared.ensures) in
    let l : n < length q = omega (arith, c.min-shared.ensures) in
    let rest = address_cmp (address_of (drop (n + 1) p) j) (address_of (drop (n + 1) q) k) in
    let ex : c.as_slice.result.now ≡ x = c.as_slice.ensures ∙ sym c.index-a-i.is in
    let ey : c.as_slice-in-loop-i.result.now ≡ y = c.as_slice-in-loop-i.ensures ∙ sym c.index-b-i.is in
    c.loop-i.invariant
    ∙ both_go_on p q j k n x y h l c.index-a-i.is c.index-b-i.is
    ∙ ap (λ o. ordering_then o rest) (sym (c.name_cmp-of_groups.ensures ∙ (λ i. fold_order (ex i) (ey i))))
    ∙ tied c.name_cmp-of_groups.result rest c.if-ne.ensures

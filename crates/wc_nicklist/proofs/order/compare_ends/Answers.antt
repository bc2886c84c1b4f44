-- One path has ended, so its own key is compared with the other path's next name.
use Rattle.std.proofs.Common.{◌≤◌, length, arith, sym, ap, ◌∙◌, true}
use Rattle.std.specs.Ordering.{ordering_then}
use Rattle.std.specs.declared.cmp.Ordering.TheVariants.{Less, Greater}
use Rattle.wc_nicklist.specs.Order.{key_at, key_cmp}
use Rattle.wc_nicklist.proofs.Addresses.{first_ends, second_ends, both_end}
use Rattle.wc_nicklist.proofs.order.compare_ends.Goals as goal

pub returns-then-shared-a : goal.returns-then-shared-a
returns-then-shared-a c =
    let x = c.as_slice.ensures in
    let ends : length c.args.b.now.path.now ≤ c.args.shared = omega (arith, c.requires.one_ends) in
    c.then.ensures ∙ ap (λ o. ordering_then o Greater) (c.compare_keys.ensures ∙ ap (λ n. key_cmp (key_at true n) (key_at c.args.b.now.is_group c.args.b.now.name.now)) (c.as_slice.ensures ∙ sym c.index-a-shared.is))
    ∙ sym (second_ends _ _ _ _ _ _ c.if-shared-a.true ends c.index-a-shared.is)

pub returns-then-shared-b : goal.returns-then-shared-b
returns-then-shared-b c =
    c.then-then-shared-b.ensures ∙ ap (λ o. ordering_then o Less) (c.compare_keys-then-shared-b.ensures ∙ ap (λ n. key_cmp (key_at c.args.a.now.is_group c.args.a.now.name.now) (key_at true n)) (c.as_slice-then-shared-b.ensures ∙ sym c.index-b-shared.is))
    ∙ sym (first_ends _ _ _ _ _ _ c.if-shared-a.false c.if-shared-b.true c.index-b-shared.is)

pub returns-else-shared-b : goal.returns-else-shared-b
returns-else-shared-b c =
    c.compare_keys-else-shared-b.ensures ∙ sym (both_end _ _ _ _ _ c.if-shared-a.false c.if-shared-b.false)

use Rattle.std.proofs.Common.{◌≡◌, ap, rules}
use Rattle.std.specs.Prelude.{bytes_eq}
use Rattle.std.specs.Ordering.{is_lt}
use Rattle.std.proofs.lemmas.Fn.{dedup_same}
use Rattle.std.proofs.lemmas.List.Sorted.{answers_always}
use Rattle.wc_text.specs.Order.{fold_order}
use Rattle.wc_complete.proofs.InOrderLaws.{same_order}
use Rattle.wc_complete.proofs.OrderLaws.{is_below, ranks, ordered_once}
use Rattle.wc_complete.proofs.order.in_order.Goals as goal

pub returns-clause-order : goal.returns-clause-order
returns-clause-order c = ordered_once _ _ _ c.sort_unstable_by.ensures.permutation
    (c.sort_unstable_by.ensures.sorted is_below ranks (answers_always _ _ _ (λ f a r f' k. (let e : r ≡ fold_order a.0.now a.1.0.now = search rules in ap is_lt e))))
    (dedup_same _ bytes_eq _ (λ x y b f' x' y' k. search rules) _ _ c.dedup_by.ensures.filtered)

pub returns-clause-value : goal.returns-clause-value
returns-clause-value c = same_order _ _ (returns-clause-order c)

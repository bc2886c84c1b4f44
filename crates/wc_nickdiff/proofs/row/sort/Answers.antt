use Rattle.std.proofs.Common.{◌≡◌, ap, rules}
use Rattle.std.specs.Ordering.{is_lt}
use Rattle.std.proofs.lemmas.List.Sorted.{answers_always}
use Rattle.wc_nicklist.specs.Order.{address, address_cmp, before}
use Rattle.wc_nickdiff.proofs.Sorted.{before_ranks}
use Rattle.wc_nickdiff.proofs.row.sort.Goals as goal

pub returns-clause-sorted : goal.returns-clause-sorted
unfolding before
returns-clause-sorted c =
    c.sort_unstable_by.ensures.sorted before before_ranks
    (answers_always _ _ _ (λ f a r f' k. (let e : r ≡ address_cmp (address a.0.now) (address a.1.0.now) = search rules in ap is_lt e)))

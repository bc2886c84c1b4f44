use Rattle.std.proofs.Common.{◌≡◌, rules, false}
use Rattle.std.proofs.lemmas.List.Sorted.{IsNonDecreasingBy-from_sort_by_key}
use Rattle.wc_buffers.specs.Kept.{handles}
use Rattle.wc_hdata.specs.Listed.{IsMixedList, first_handle, firsts_of, goes_to_lines}
use Rattle.wc_hdata.proofs.FoundLemmas.{all_made_shuffled, all_shuffled}
use Rattle.wc_hdata.proofs.MadeLemmas.{for_all, for_none}
use Rattle.wc_hdata.proofs.lists.mixed_for.Goals as goal

pub returns-then-not-goes_to_lines-clause-made : goal.returns-then-not-goes_to_lines-clause-made
returns-then-not-goes_to_lines-clause-made c =
    let f : goes_to_lines c.args.path.now ≡ false = cc in
    for_none (record { world = c.args.world.now; firsts = firsts_of c.new-mixed.result.items }) c.args.path.now f

pub returns-clause-lists : goal.returns-clause-lists
returns-clause-lists c = all_shuffled (IsMixedList c.args.world.now) c.push_mixed.new.mixed.items c.sort_by_key.new.self.items c.sort_by_key.ensures.permutation c.in_ok-push_mixed.ensures.lists

pub returns-clause-made : goal.returns-clause-made
returns-clause-made c = for_all (record { world = c.args.world.now; firsts = firsts_of c.sort_by_key.new.self.items }) c.args.path.now
    (all_made_shuffled c.push_mixed.new.mixed.items c.sort_by_key.new.self.items (handles c.args.world.now.groups) c.sort_by_key.ensures.permutation c.in_ok-push_mixed.ensures.made)

pub returns-clause-sorted : goal.returns-clause-sorted
returns-clause-sorted c = IsNonDecreasingBy-from_sort_by_key first_handle _ c.in_ok-sort_by_key.ensures.sorted (λ a r q k. search rules)

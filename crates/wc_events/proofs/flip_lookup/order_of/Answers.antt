use Rattle.std.proofs.Common.{◌≡◌, rules, sym, ap, ◌∙◌}
use Rattle.std.specs.Prelude.{◌==◌}
use Rattle.std.proofs.lemmas.List.Sorted.{IsNonDecreasingBy-from_sort_by_key, list_any-IsPermutation}
use Rattle.wc_text.specs.declared.names.Handle.{Handle}
use Rattle.wc_events.specs.FlipOrders.{is_named, number_of}
use Rattle.wc_events.proofs.flip_lookup.order_of.Goals as goal

pub returns : goal.returns
returns c = record {
  rises = IsNonDecreasingBy-from_sort_by_key number_of _ c.sort_unstable_by_key.ensures.sorted (λ a r q k. search rules);
  same = λ content.
      let copied : c.extend_from_slice.new.self.items ≡ c.args.flips.now = search rules in
      sym (list_any-IsPermutation (λ (flip : Handle). flip.0 == content) _ _ c.sort_unstable_by_key.ensures.permutation)
      ∙ ap (λ flips. is_named flips content) copied;
}

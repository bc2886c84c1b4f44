-- The order of buffers by their handles.
use Rattle.std.proofs.Common.{◌≡◌, ℕ, List, [], ◌∷◌, ◌++◌, refl, sym, ap, ◌∙◌}
use Rattle.std.specs.List.{flat_map}
use Rattle.std.proofs.lemmas.List.{map-append}
use Rattle.wc_text.specs.declared.names.Handle.{Handle}
use Rattle.wc_buffers.specs.Calls.{EntryGroups}
use Rattle.wc_buffers.specs.Kept.{handles}
use Rattle.wc_model.specs.Order.{order, before_in, after_in, prev_of, next_of}
use Rattle.wc_world.specs.Near.{numbers, all_numbers}
use Rattle.wc_world.proofs.NearLemmas.{order_handles}
use Rattle.wc_hdata.specs.Steps.{all_buffers}

numbers_of_all : (groups : List (List Handle)) → numbers (flat_map (λ group. group) groups) ≡ all_numbers groups
numbers_of_all [] = refl
numbers_of_all (group ∷ groups) = map-append (λ (h : Handle). h.0) group (flat_map (λ group. group) groups) ∙ ap (λ l. numbers group ++ l) (numbers_of_all groups)

order_is : (groups : EntryGroups) → order groups ≡ numbers (all_buffers groups)
order_is groups = order_handles groups ∙ sym (numbers_of_all (handles groups))

pub prev_is : (groups : EntryGroups) (all : List Handle) (buffer : ℕ) → all ≡ all_buffers groups → before_in 0 buffer (numbers all) ≡ prev_of buffer groups
prev_is groups all buffer e = ap (λ l. before_in 0 buffer (numbers l)) e ∙ ap (before_in 0 buffer) (sym (order_is groups))

pub next_is : (groups : EntryGroups) (all : List Handle) (buffer : ℕ) → all ≡ all_buffers groups → after_in buffer (numbers all) ≡ next_of buffer groups
next_is groups all buffer e = ap (λ l. after_in buffer (numbers l)) e ∙ ap (after_in buffer) (sym (order_is groups))

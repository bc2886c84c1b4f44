-- The order of buffers, group by group.
use Rattle.std.proofs.Common.{◌≡◌, ℕ, ◌++◌, ◌∷◌, [], List, true, false, eqb, map, refl, ◌∙◌}
use Rattle.std.proofs.lemmas.List.{map-append}
use Rattle.wc_buffers.specs.declared.row.BufferEntry.{BufferEntry}
use Rattle.wc_buffers.specs.Calls.{EntryGroups, handle_of}
use Rattle.wc_buffers.specs.Groups.{rows}
use Rattle.wc_buffers.specs.Kept.{handles}
use Rattle.wc_buffers.proofs.GroupLaws.{by_bool}
use Rattle.wc_model.specs.Order.{order, first_of, after_in}
use Rattle.wc_world.specs.Near.{numbers, all_numbers, after_seen}

one_group : (g : List BufferEntry) → map handle_of g ≡ numbers (map (λ (e : BufferEntry). e.row.handle) g)
one_group [] = refl
one_group (e ∷ es) = λ i. handle_of e ∷ one_group es i

pub order_handles : (gs : EntryGroups) → order gs ≡ all_numbers (handles gs)
order_handles [] = refl
order_handles (g ∷ gs) = map-append handle_of g (rows gs) ∙ (λ i. one_group g i ++ order_handles gs i)

firsts : (n : ℕ) (ms : List ℕ) → first_of ms ≡ after_seen true n ms
firsts n [] = refl
firsts n (m ∷ ms) = refl

pub after_first : (n : ℕ) (ms : List ℕ) → after_in n ms ≡ after_seen false n ms
after_first n [] = refl
after_first n (m ∷ ms) = by_bool (eqb m n) _ (λ t. rw t (firsts n ms)) (λ t. rw t (after_first n ms))

-- what `next_of` needs
pub ruleset next_of_facts = (order_handles, after_first)

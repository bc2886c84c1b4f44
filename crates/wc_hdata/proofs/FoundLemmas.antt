-- What a binary search by a number finds.
use Rattle.std.proofs.Common.{◌≡◌, ℕ, zero, suc, ◌<◌, ◌≤◌, Bool, true, List, [], ◌∷◌, length, get_or, arith, refl, sym, ap, ◌∙◌}
use Rattle.std.specs.Prelude.{◌==◌, HoldsAt, nat_lt}
use Rattle.std.specs.List.{AllByRecursion, list_any}
use Rattle.std.specs.List.Sorted.{IsNonDecreasingBy, IsPartitionPoint, IsPermutation}
use Rattle.std.specs.Ordering.{nat_cmp, ordering_index}
use Rattle.std.specs.declared.cmp.Ordering.TheVariants.{Less, Equal, Greater}
use Rattle.std.proofs.lemmas.Bool.Decides.{nat_tests}
use Rattle.std.proofs.lemmas.Cmp.{ranked}
use Rattle.std.proofs.lemmas.List.Elements.{All-from_recursion, recursion_from_All}
use Rattle.std.proofs.lemmas.List.Sorted.{All-permutation, IsPermutation-map, list_any-IsPermutation}
use Rattle.wc_text.specs.declared.names.Handle.{Handle}
use Rattle.wc_buffers.specs.Calls.{EntryGroups}
use Rattle.wc_buffers.proofs.GroupLaws.{by_bool, list_any-map}
use Rattle.wc_model.specs.World.{World}
use Rattle.wc_hdata.specs.declared.lists.MixedList.{MixedList}
use Rattle.wc_hdata.specs.declared.place.LineList.TheVariants.{Mixed}
use Rattle.wc_hdata.specs.Kept.{IsHeld, IsMade, is_made}
use Rattle.wc_hdata.specs.Listed.{IsMixedList, first_handle, first_of, firsts_of}
use Rattle.wc_hdata.specs.Lists.{lines_in, shown_list}
use Rattle.wc_hdata.specs.Reached.{held_lines}
use Rattle.wc_hdata.specs.Shown.{IsShown}
use Rattle.wc_hdata.specs.declared.shown.Shown.{Shown}

-- ---- lists

pub all_at : {X : Type 0} (P : X → Type 0) (xs : List X) (i : ℕ) (d : X) → AllByRecursion P xs → i < length xs → P (get_or xs i d)
all_at P [] i d a within = absurd (omega (arith, within))
all_at P (x ∷ xs) zero d a within = a.0
all_at P (x ∷ xs) (suc i) d a within = all_at P xs i d a.1 (omega (arith, within))

pub all_shuffled : {X : Type 0} (P : X → Type 0) (xs ys : List X) → IsPermutation xs ys → AllByRecursion P xs → AllByRecursion P ys
all_shuffled P xs ys moved a = recursion_from_All P ys (All-permutation P xs ys moved (All-from_recursion P xs a))

-- where an element is that passes a test
record IsSomewhere {X : Type 0} (p : X → Bool) (xs : List X) : Type 0 where
  at : ℕ
  within : at < length xs
  passes : (d : X) → p (get_or xs at d) ≡ true

somewhere : {X : Type 0} (p : X → Bool) (xs : List X) → list_any p xs ≡ true → IsSomewhere p xs
somewhere p [] t = absurd (cc)
somewhere p (x ∷ xs) t = by_bool (p x) _
    (λ here. record { at = 0; within = omega arith; passes = λ d. here })
    (λ gone. let on = somewhere p xs (rw gone at t) in let in_ = on.within in record { at = suc on.at; within = omega (arith, in_); passes = on.passes })

-- ---- a search

pub found : {X : Type 0} (n : X → ℕ) (xs : List X) (k i : ℕ) (d : X) → HoldsAt (λ y. nat_cmp (n y) k ≡ Equal) xs i → n (get_or xs i d) ≡ k
found n xs k i d h = ranked (n (get_or xs i d)) k Equal (sym (h d))

higher : (a b k : ℕ) → a ≤ b → ordering_index (nat_cmp a k) ≤ ordering_index (nat_cmp b k)
higher a b k le = grind (arith, nat_tests)

pub not_found : {X : Type 0} (n : X → ℕ) (xs : List X) (k i : ℕ) → IsNonDecreasingBy n xs
    → (IsNonDecreasingBy (λ y. ordering_index (nat_cmp (n y) k)) xs → IsPartitionPoint (λ y. nat_cmp (n y) k ≡ Less) (λ y. nat_cmp (n y) k ≡ Greater) xs i)
    → list_any (λ y. n y == k) xs ≡ true → ⊥
not_found {X} n xs k i up h t = by xs up h (somewhere (λ y. n y == k) xs t) where
  by : (xs : List X) → IsNonDecreasingBy n xs
      → (IsNonDecreasingBy (λ y. ordering_index (nat_cmp (n y) k)) xs → IsPartitionPoint (λ y. nat_cmp (n y) k ≡ Less) (λ y. nat_cmp (n y) k ≡ Greater) xs i)
      → IsSomewhere (λ y. n y == k) xs → ⊥
  by [] up h s = let w = s.within in omega (arith, w)
  by (x ∷ xs) up h s =
      let all = x ∷ xs in
      let parted = h (λ a b d le lt. higher (n (get_or all a d)) (n (get_or all b d)) k (up a b d le lt)) in
      let w = s.within in
      let t = s.passes x in
      let same : n (get_or all s.at x) ≡ k = grind (arith, nat_tests) in
      by_bool (nat_lt s.at i) _
      (λ below. let lt = ranked (n (get_or all s.at x)) k Less (sym (parted.0 s.at x (omega arith) (grind (arith, nat_tests)))) in omega (arith, lt, same))
      (λ above. let gt = ranked (n (get_or all s.at x)) k Greater (sym (parted.1 s.at x (grind (arith, nat_tests)) w)) in omega (arith, gt, same))

-- ---- what buffers show

abbrev pub buffer_of : Shown → ℕ
buffer_of shown = shown.buffer.0

handle_of : (a b : Handle) → a.0 ≡ b.0 → a ≡ b
handle_of a b e = ap (λ (n : ℕ). record { 0 = n }) e

pub found_list : (groups : EntryGroups) (shown : List Shown) (buffer : Handle) (i : ℕ) (d : Shown) → AllByRecursion (IsShown groups) shown → i < length shown → HoldsAt (λ y. nat_cmp (buffer_of y) buffer.0 ≡ Equal) shown i
    → (get_or shown i d).list ≡ shown_list groups buffer
found_list groups shown buffer i d are within h =
    all_at (IsShown groups) shown i d are within ∙ ap (shown_list groups) (handle_of (get_or shown i d).buffer buffer (found buffer_of shown buffer.0 i d h))

-- ---- mixed lists

pub found_lines : (world : World) (xs : List MixedList) (first : Handle) (i : ℕ) (d : MixedList) → AllByRecursion (IsMixedList world) xs → i < length xs → HoldsAt (λ y. nat_cmp (first_handle y) first.0 ≡ Equal) xs i
    → held_lines (get_or xs i d).lines.items ≡ lines_in world (Mixed first)
found_lines world xs first i d are within h =
    let list = all_at (IsMixedList world) xs i d are within in
    list.lines ∙ ap (λ (f : Handle). lines_in world (Mixed f)) (handle_of (get_or xs i d).first first (found first_handle xs first.0 i d h))

pub found_held : (world : World) (xs : List MixedList) (i : ℕ) (d : MixedList) → AllByRecursion (IsMixedList world) xs → i < length xs → AllByRecursion (IsHeld world) (held_lines (get_or xs i d).lines.items)
found_held world xs i d are within = (all_at (IsMixedList world) xs i d are within).held

-- a list that is made is found
pub not_made : (xs : List MixedList) (first : ℕ) (i : ℕ) → IsNonDecreasingBy first_handle xs
    → (IsNonDecreasingBy (λ y. ordering_index (nat_cmp (first_handle y) first)) xs → IsPartitionPoint (λ y. nat_cmp (first_handle y) first ≡ Less) (λ y. nat_cmp (first_handle y) first ≡ Greater) xs i)
    → is_made (firsts_of xs) first ≡ true → ⊥
not_made xs first i up h made = not_found first_handle xs first i up h (sym (list_any-map first_of (λ (b : Handle). b.0 == first) (λ y. first_handle y == first) (λ y. refl) xs) ∙ made)

-- what is made stays made in another order
made_shuffled : (old new : List Handle) (group : List Handle) → IsPermutation old new → IsMade old group → IsMade new group
made_shuffled old new [] moved m = tt
made_shuffled old new (first ∷ []) moved m = tt
made_shuffled old new (first ∷ (second ∷ others)) moved m = sym (list_any-IsPermutation (λ (h : Handle). h.0 == first.0) old new moved) ∙ m

pub all_made_shuffled : (old new : List MixedList) (groups : List (List Handle)) → IsPermutation old new → AllByRecursion (IsMade (firsts_of old)) groups → AllByRecursion (IsMade (firsts_of new)) groups
all_made_shuffled old new [] moved a = tt
all_made_shuffled old new (group ∷ groups) moved a = (made_shuffled (firsts_of old) (firsts_of new) group (IsPermutation-map first_of old new moved) a.0, all_made_shuffled old new groups moved a.1)

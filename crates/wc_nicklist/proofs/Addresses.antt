-- Two addresses, compared name by name.
use Rattle.std.proofs.Common.{◌≡◌, ℕ, ◌+◌, ◌≤◌, ◌<◌, true, false, not, ◌==◌, List, [], ◌∷◌, length, drop, get_or, refl, sym, ap, ◌∙◌, add-one, Ordering, drop-cons}
use Rattle.std.specs.declared.cmp.Ordering.TheVariants.{Less, Equal, Greater}
use Rattle.std.specs.Ordering.{ordering_then, ordering_index}
use Rattle.std.specs.Cmp.Lexicographic.{slice_cmp}
use Rattle.std.proofs.lemmas.Bool.{true≢false}
use Rattle.std.proofs.lemmas.List.{drop_all}
use Rattle.wc_nicklist.specs.declared.item.Key.{Key}
use Rattle.wc_text.specs.Order.{fold_order}
use Rattle.wc_nicklist.specs.Order.{group_key, key_cmp, address_cmp, address_of}

longer : (xs : List (List ℕ)) (k : Key) → slice_cmp key_cmp (address_of xs k) [] ≡ Greater
longer [] k = refl
longer (x ∷ xs) k = refl

shorter : (xs : List (List ℕ)) (k : Key) → slice_cmp key_cmp [] (address_of xs k) ≡ Less
shorter [] k = refl
shorter (x ∷ xs) k = refl

at_place : (xs : List (List ℕ)) (n : ℕ) (x : List ℕ) → n < length xs → x ≡ get_or xs n x → drop n xs ≡ x ∷ drop (n + 1) xs
at_place xs n x h e = drop-cons xs n x h ∙ rw (sym e, add-one) refl

-- where one path ends
pub first_ends : (p q : List (List ℕ)) (j k : Key) (n : ℕ) (y : List ℕ) → length p ≤ n → n < length q → y ≡ get_or q n y → address_cmp (address_of (drop n p) j) (address_of (drop n q) k) ≡ ordering_then (key_cmp j (group_key y)) Less
unfolding address_cmp
first_ends p q j k n y h l e =
    ap (λ xs. slice_cmp key_cmp (address_of xs j) (address_of (drop n q) k)) (drop_all n p h)
    ∙ ap (λ ys. slice_cmp key_cmp (j ∷ []) (address_of ys k)) (at_place q n y l e)
    ∙ ap (ordering_then (key_cmp j (group_key y))) (shorter (drop (n + 1) q) k)

pub second_ends : (p q : List (List ℕ)) (j k : Key) (n : ℕ) (x : List ℕ) → n < length p → length q ≤ n → x ≡ get_or p n x → address_cmp (address_of (drop n p) j) (address_of (drop n q) k) ≡ ordering_then (key_cmp (group_key x) k) Greater
unfolding address_cmp
second_ends p q j k n x h l e =
    ap (λ xs. slice_cmp key_cmp (address_of xs j) (address_of (drop n q) k)) (at_place p n x h e)
    ∙ ap (λ ys. slice_cmp key_cmp (address_of (x ∷ drop (n + 1) p) j) (address_of ys k)) (drop_all n q l)
    ∙ ap (ordering_then (key_cmp (group_key x) k)) (longer (drop (n + 1) p) j)

then_equal : (r : Ordering) → ordering_then r Equal ≡ r
then_equal Less = refl
then_equal Equal = refl
then_equal Greater = refl

pub both_end : (p q : List (List ℕ)) (j k : Key) (n : ℕ) → length p ≤ n → length q ≤ n → address_cmp (address_of (drop n p) j) (address_of (drop n q) k) ≡ key_cmp j k
unfolding address_cmp
both_end p q j k n h l =
    ap (λ xs. slice_cmp key_cmp (address_of xs j) (address_of (drop n q) k)) (drop_all n p h)
    ∙ ap (λ ys. slice_cmp key_cmp (j ∷ []) (address_of ys k)) (drop_all n q l)
    ∙ then_equal (key_cmp j k)

-- where neither ends
pub both_go_on : (p q : List (List ℕ)) (j k : Key) (n : ℕ) (x y : List ℕ) → n < length p → n < length q → x ≡ get_or p n x → y ≡ get_or q n y → address_cmp (address_of (drop n p) j) (address_of (drop n q) k) ≡ ordering_then (fold_order x y) (address_cmp (address_of (drop (n + 1) p) j) (address_of (drop (n + 1) q) k))
unfolding address_cmp
both_go_on p q j k n x y h l e f =
    ap (λ xs. slice_cmp key_cmp (address_of xs j) (address_of (drop n q) k)) (at_place p n x h e)
    ∙ ap (λ ys. slice_cmp key_cmp (address_of (x ∷ drop (n + 1) p) j) (address_of ys k)) (at_place q n y l f)

-- what a first comparison decides, and what it leaves to the second
pub decided : (r s : Ordering) → true ≡ not (ordering_index r == 1) → r ≡ ordering_then r s
decided Less s e = refl
decided Equal s e = absurd (true≢false e)
decided Greater s e = refl

pub tied : (r s : Ordering) → false ≡ not (ordering_index r == 1) → ordering_then r s ≡ s
tied Less s e = absurd (true≢false (sym e))
tied Equal s e = refl
tied Greater s e = absurd (true≢false (sym e))

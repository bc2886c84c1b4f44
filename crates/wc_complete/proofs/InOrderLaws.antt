-- Texts in order, each once, are one list, and `in_order` gives it.
use Rattle.std.proofs.Common.{◌≡◌, ℕ, zero, suc, ◌<◌, ◌⊎◌, List, [], ◌∷◌, inl, inr, length, get_or, refl, sym, ap, ap₂, subst, ◌∙◌, arith}
use Rattle.std.specs.Prelude.{Contains}
use Rattle.std.specs.List.{AllByRecursion}
use Rattle.std.specs.List.Sorted.{IsStrictlySortedBy}
use Rattle.std.specs.Ordering.{ordering_reverse}
use Rattle.std.specs.declared.cmp.Ordering.{Ordering}
use Rattle.std.specs.declared.cmp.Ordering.TheVariants.{Less, Equal, Greater}
use Rattle.std.proofs.lemmas.List.Elements.{All-contains, All-from_recursion}
use Rattle.wc_text.specs.Order.{fold_order}
use Rattle.wc_text.proofs.OrderLemmas.{fold_order_total, fold_order_itself, same_from_fold_order}
use Rattle.wc_complete.specs.Order.{IsInOrder, put_by, put, in_order}

-- ---- what a list contains

first_in : (x : List ℕ) (xs : List (List ℕ)) → Contains (x ∷ xs) x
first_in x xs = (0, omega arith, refl)

later_in : (x z : List ℕ) (xs : List (List ℕ)) → Contains xs z → Contains (x ∷ xs) z
later_in x z xs c = (suc c.0, omega (arith, c.1), c.2)

none_in : (z : List ℕ) → Contains [] z → ⊥
none_in z c = absurd (omega (arith, c.1))

in_cases : (x z : List ℕ) (xs : List (List ℕ)) → Contains (x ∷ xs) z → (x ≡ z) ⊎ Contains xs z
in_cases x z xs c = by c.0 c.1 c.2 where
  by : (k : ℕ) → k < length (x ∷ xs) → get_or (x ∷ xs) k z ≡ z → (x ≡ z) ⊎ Contains xs z
  by zero inside e = inl e
  by (suc k) inside e = inr (k, omega arith, e)

-- ---- what is sorted

abbrev IsBelow : List ℕ → List ℕ → Type 0
IsBelow a b = fold_order a b ≡ Less

abbrev IsSorted : List (List ℕ) → Type 0
IsSorted = IsStrictlySortedBy fold_order

not_both : (o : Ordering) → o ≡ Less → o ≡ Equal → ⊥
not_both o less equal = absurd (let a = less in let b = equal in cc)

turned : (a b : List ℕ) → fold_order a b ≡ Greater → IsBelow b a
turned a b e = fold_order_total.antisymm b a ∙ ap ordering_reverse e

not_turned : (a b : List ℕ) → IsBelow a b → IsBelow b a → ⊥
not_turned a b e f =
    let g : Greater ≡ Less = sym (fold_order_total.antisymm b a ∙ ap ordering_reverse e) ∙ f in
    absurd (let h = g in cc)

not_itself : (a b : List ℕ) → a ≡ b → IsBelow a b → ⊥
not_itself a b e f = not_both (fold_order a b) f (ap (fold_order a) (sym e) ∙ fold_order_itself a)

head_below : (x : List ℕ) (xs : List (List ℕ)) → IsSorted (x ∷ xs) → AllByRecursion (IsBelow x) xs
unfolding IsStrictlySortedBy
head_below x xs sorted = sorted.0

tail_sorted : (x : List ℕ) (xs : List (List ℕ)) → IsSorted (x ∷ xs) → IsSorted xs
unfolding IsStrictlySortedBy
tail_sorted x xs sorted = sorted.1

cons_sorted : (x : List ℕ) (xs : List (List ℕ)) → AllByRecursion (IsBelow x) xs → IsSorted xs → IsSorted (x ∷ xs)
unfolding IsStrictlySortedBy
cons_sorted x xs below sorted = (below, sorted)

none_sorted : IsSorted []
unfolding IsStrictlySortedBy
none_sorted = tt

below_in : (x z : List ℕ) (xs : List (List ℕ)) → IsSorted (x ∷ xs) → Contains xs z → IsBelow x z
below_in x z xs sorted c = All-contains (IsBelow x) xs z (All-from_recursion (IsBelow x) xs (head_below x xs sorted)) c

-- ---- one list alone

-- the head of one list is not below that of the other
not_first : (x y : List ℕ) (xs ys : List (List ℕ)) → IsSorted (y ∷ ys) → Contains (y ∷ ys) x → IsBelow x y → ⊥
not_first x y xs ys sorted c below = by (in_cases y x ys c) where
  by : (y ≡ x) ⊎ Contains ys x → ⊥
  by (inl same) = not_itself x y (sym same) below
  by (inr later) = not_turned x y below (below_in y x ys sorted later)

heads_same : (x y : List ℕ) (xs ys : List (List ℕ)) → IsSorted (x ∷ xs) → IsSorted (y ∷ ys) → Contains (y ∷ ys) x → Contains (x ∷ xs) y → x ≡ y
heads_same x y xs ys one other c d = by (fold_order x y) refl where
  by : (o : Ordering) → fold_order x y ≡ o → x ≡ y
  by Less e = absurd (not_first x y xs ys other c e)
  by Equal e = same_from_fold_order x y e
  by Greater e = absurd (not_first y x ys xs one d (turned x y e))

tail_in : (x y z : List ℕ) (xs ys : List (List ℕ)) → IsSorted (x ∷ xs) → x ≡ y → ((z : List ℕ) → Contains (x ∷ xs) z → Contains (y ∷ ys) z) → Contains xs z → Contains ys z
tail_in x y z xs ys sorted same among c = by (in_cases y z ys (among z (later_in x z xs c))) where
  by : (y ≡ z) ⊎ Contains ys z → Contains ys z
  by (inl e) = absurd (not_itself x z (same ∙ e) (below_in x z xs sorted c))
  by (inr later) = later

same_list : (xs ys : List (List ℕ)) → IsSorted xs → IsSorted ys → ((z : List ℕ) → Contains xs z → Contains ys z) → ((z : List ℕ) → Contains ys z → Contains xs z) → xs ≡ ys
same_list [] [] one other among back = refl
same_list [] (y ∷ ys) one other among back = absurd (none_in y (back y (first_in y ys)))
same_list (x ∷ xs) [] one other among back = absurd (none_in x (among x (first_in x xs)))
same_list (x ∷ xs) (y ∷ ys) one other among back =
    let same = heads_same x y xs ys one other (among x (first_in x xs)) (back y (first_in y ys)) in
    ap₂ (λ first others. first ∷ others) same
    (same_list xs ys (tail_sorted x xs one) (tail_sorted y ys other) (λ z c. tail_in x y z xs ys one same among c) (λ z c. tail_in y x z ys xs other (sym same) back c))

-- two lists that have the texts of a third, each once, in order are the same
pub one_order : (texts one other : List (List ℕ)) → IsInOrder texts one → IsInOrder texts other → one ≡ other
one_order texts one other is_one is_other =
    same_list one other is_one.sorted is_other.sorted (λ z c. (is_other.same z).1 ((is_one.same z).0 c)) (λ z c. (is_one.same z).1 ((is_other.same z).0 c))

-- ---- one text more

all_put : (P : List ℕ → Type 0) (text : List ℕ) (texts : List (List ℕ)) → P text → AllByRecursion P texts → AllByRecursion P (put text texts)
unfolding put
all_put P text [] h all = (h, tt)
all_put P text (first ∷ others) h all = by (fold_order text first) (all_put P text others h all.1) where
  by : (o : Ordering) → AllByRecursion P (put text others) → AllByRecursion P (put_by o text first others (put text others))
  by Less rest = (h, all)
  by Equal rest = all
  by Greater rest = (all.0, rest)

below_all : (text first : List ℕ) (others : List (List ℕ)) → IsBelow text first → AllByRecursion (IsBelow first) others → AllByRecursion (IsBelow text) others
below_all text first [] below all = tt
below_all text first (other ∷ others) below all = (fold_order_total.trans text first other below all.0, below_all text first others below all.1)

put_sorted : (text : List ℕ) (texts : List (List ℕ)) → IsSorted texts → IsSorted (put text texts)
unfolding put
put_sorted text [] sorted = cons_sorted text [] tt none_sorted
put_sorted text (first ∷ others) sorted = by (fold_order text first) refl (put_sorted text others (tail_sorted first others sorted)) where
  above : AllByRecursion (IsBelow first) others
  above = head_below first others sorted

  by : (o : Ordering) → fold_order text first ≡ o → IsSorted (put text others) → IsSorted (put_by o text first others (put text others))
  by Less e rest = cons_sorted text (first ∷ others) (e, below_all text first others e above) sorted
  by Equal e rest = sorted
  by Greater e rest = cons_sorted first (put text others) (all_put (IsBelow first) text others (turned text first e) above) rest

-- the text and the others are there
put_text : (text : List ℕ) (texts : List (List ℕ)) → Contains (put text texts) text
unfolding put
put_text text [] = first_in text []
put_text text (first ∷ others) = by (fold_order text first) refl (put_text text others) where
  by : (o : Ordering) → fold_order text first ≡ o → Contains (put text others) text → Contains (put_by o text first others (put text others)) text
  by Less e rest = first_in text (first ∷ others)
  by Equal e rest = subst (λ t. Contains (t ∷ others) text) (same_from_fold_order text first e) (first_in text others)
  by Greater e rest = later_in first text (put text others) rest

put_other : (text z : List ℕ) (texts : List (List ℕ)) → Contains texts z → Contains (put text texts) z
unfolding put
put_other text z [] c = absurd (none_in z c)
put_other text z (first ∷ others) c = by (fold_order text first) (in_cases first z others c) (put_other text z others) where
  at_rest : (first ≡ z) ⊎ Contains others z → (Contains others z → Contains (put text others) z) → Contains (first ∷ put text others) z
  at_rest (inl e) rest = subst (λ t. Contains (t ∷ put text others) z) (sym e) (first_in z (put text others))
  at_rest (inr later) rest = later_in first z (put text others) (rest later)

  by : (o : Ordering) → (first ≡ z) ⊎ Contains others z → (Contains others z → Contains (put text others) z) → Contains (put_by o text first others (put text others)) z
  by Less at rest = later_in text z (first ∷ others) c
  by Equal at rest = c
  by Greater at rest = at_rest at rest

-- and nothing else
put_cases : (text z : List ℕ) (texts : List (List ℕ)) → Contains (put text texts) z → (text ≡ z) ⊎ Contains texts z
unfolding put
put_cases text z [] c = in_cases text z [] c
put_cases text z (first ∷ others) c = by (fold_order text first) (put_cases text z others) c where
  further : (text ≡ z) ⊎ Contains others z → (text ≡ z) ⊎ Contains (first ∷ others) z
  further (inl e) = inl e
  further (inr later) = inr (later_in first z others later)

  at_rest : (Contains (put text others) z → (text ≡ z) ⊎ Contains others z) → (first ≡ z) ⊎ Contains (put text others) z → (text ≡ z) ⊎ Contains (first ∷ others) z
  at_rest rest (inl e) = inr (subst (λ t. Contains (t ∷ others) z) (sym e) (first_in z others))
  at_rest rest (inr later) = further (rest later)

  by : (o : Ordering) → (Contains (put text others) z → (text ≡ z) ⊎ Contains others z) → Contains (put_by o text first others (put text others)) z → (text ≡ z) ⊎ Contains (first ∷ others) z
  by Less rest c = in_cases text z (first ∷ others) c
  by Equal rest c = inr c
  by Greater rest c = at_rest rest (in_cases first z (put text others) c)

-- ---- all of them

order_sorted : (texts : List (List ℕ)) → IsSorted (in_order texts)
unfolding in_order
order_sorted [] = none_sorted
order_sorted (text ∷ texts) = put_sorted text (in_order texts) (order_sorted texts)

order_from : (texts : List (List ℕ)) (z : List ℕ) → Contains (in_order texts) z → Contains texts z
unfolding in_order
order_from [] z c = c
order_from (text ∷ texts) z c = by (put_cases text z (in_order texts) c) (order_from texts z) where
  by : (text ≡ z) ⊎ Contains (in_order texts) z → (Contains (in_order texts) z → Contains texts z) → Contains (text ∷ texts) z
  by (inl e) rest = subst (λ t. Contains (t ∷ texts) z) (sym e) (first_in z texts)
  by (inr later) rest = later_in text z texts (rest later)

order_has : (texts : List (List ℕ)) (z : List ℕ) → Contains texts z → Contains (in_order texts) z
unfolding in_order
order_has [] z c = c
order_has (text ∷ texts) z c = by (in_cases text z texts c) (order_has texts z) where
  by : (text ≡ z) ⊎ Contains texts z → (Contains texts z → Contains (in_order texts) z) → Contains (put text (in_order texts)) z
  by (inl e) rest = subst (λ t. Contains (put text (in_order texts)) t) e (put_text text (in_order texts))
  by (inr later) rest = put_other text z (in_order texts) (rest later)

pub order_is : (texts : List (List ℕ)) → IsInOrder texts (in_order texts)
order_is texts = record {
  same = λ z. (order_from texts z, order_has texts z);
  sorted = order_sorted texts;
}

pub same_order : (texts ordered : List (List ℕ)) → IsInOrder texts ordered → ordered ≡ in_order texts
same_order texts ordered is = one_order texts ordered (in_order texts) is (order_is texts)

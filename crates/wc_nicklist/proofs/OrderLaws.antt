-- What the tests of rows tell, and the laws of their order.
use Rattle.std.proofs.Common.{◌≡◌, ℕ, Bool, true, false, List, [], ◌∷◌, ◌++◌, ◌⊎◌, map, refl, sym, ap, ◌∙◌, arith, inl, inr, Ordering}
use Rattle.std.specs.Prelude.{bytes_eq}
use Rattle.std.specs.declared.cmp.Ordering.TheVariants.{Less, Equal, Greater}
use Rattle.std.specs.Ordering.{nat_cmp, ordering_then, is_lt, ordering_reverse}
use Rattle.std.specs.Cmp.{IsTotalOrder, nat_cmp_total}
use Rattle.std.specs.FinMap.{IsAntisymmetric, nat_cmp-IsAntisymmetric, slice_cmp-IsAntisymmetric}
use Rattle.std.specs.Cmp.Lexicographic.{slice_cmp, pointwise_decides, bytes_decides}
use Rattle.std.proofs.lemmas.Cmp.{then_total, on_total, lists_total, nat_list_cmp_total, tied_itself}
use Rattle.std.proofs.lemmas.Bool.{true≢false, false≢true, and_parts, false_from_ne_true, and_from}
use Rattle.wc_nicklist.specs.declared.item.Key.{Key}
use Rattle.wc_nicklist.specs.declared.item.Row.{Row}
use Rattle.wc_text.specs.Order.{lower_case, fold_order}
use Rattle.wc_nicklist.specs.Order.{key, group_key, kind, key_cmp, address, address_cmp, is_before, before}
use Rattle.wc_nicklist.specs.Rows.{below, bool_eq, key_eq, path_eq}
use Rattle.std.proofs.lemmas.List.{map-append}

bool_eq-true : (a b : Bool) → bool_eq a b ≡ true → a ≡ b
bool_eq-true true true e = refl
bool_eq-true true false e = absurd (false≢true e)
bool_eq-true false true e = absurd (false≢true e)
bool_eq-true false false e = refl

bool_eq-same : (a : Bool) → bool_eq a a ≡ true
bool_eq-same true = refl
bool_eq-same false = refl

bytes_same : (a : List ℕ) → bytes_eq a a ≡ true
bytes_same a = (bytes_decides a a).1 refl

pub bytes_true : (a b : List ℕ) → bytes_eq a b ≡ true → a ≡ b
bytes_true a b e = (bytes_decides a b).0 e

pub key_eq-true : (a b : Key) → key_eq a b ≡ true → a ≡ b
unfolding key_eq
key_eq-true a b e =
    let p = and_parts _ _ e in
    let g : a.is_group ≡ b.is_group = bool_eq-true a.is_group b.is_group p.0 in
    let n : a.name ≡ b.name = (bytes_decides a.name b.name).0 p.1 in
    λ i. record { is_group = g i; name = n i }

pub key_eq-same : (a : Key) → key_eq a a ≡ true
unfolding key_eq
key_eq-same a = and_from _ _ (bool_eq-same a.is_group) (bytes_same a.name)

pub key_eq-other : (a b : Key) → (a ≡ b → ⊥) → key_eq a b ≡ false
key_eq-other a b n = false_from_ne_true _ (λ e. n (key_eq-true a b e))

pub path_eq-true : (a b : List (List ℕ)) → path_eq a b ≡ true → a ≡ b
unfolding path_eq
path_eq-true a b e = (pointwise_decides bytes_decides a b).0 e

pub path_eq-same : (a : List (List ℕ)) → path_eq a a ≡ true
unfolding path_eq
path_eq-same a = (pointwise_decides bytes_decides a a).1 refl

pub path_eq-other : (a b : List (List ℕ)) → (a ≡ b → ⊥) → path_eq a b ≡ false
path_eq-other a b n = false_from_ne_true _ (λ e. n (path_eq-true a b e))

pub by_bool : (b : Bool) (P : Type 0) → (b ≡ true → P) → (b ≡ false → P) → P
by_bool true P at_true at_false = at_true refl
by_bool false P at_true at_false = at_false refl

-- the orders
pub fold_total : IsTotalOrder fold_order
unfolding fold_order
fold_total = then_total (on_total lower_case nat_list_cmp_total) nat_list_cmp_total

pub key_total : IsTotalOrder key_cmp
key_total = then_total (on_total (λ k. kind k.is_group) nat_cmp_total) (on_total (λ k. k.name) fold_total)

then_parts : (r s : Ordering) → ordering_then r s ≡ Equal → (r ≡ Equal) × (s ≡ Equal)
then_parts Less s e = absurd cc
then_parts Equal s e = (refl, e)
then_parts Greater s e = absurd cc

pub kind_exact : (a b : Bool) → kind a ≡ kind b → a ≡ b
kind_exact true true e = refl
kind_exact true false e = absurd (omega arith)
kind_exact false true e = absurd (omega arith)
kind_exact false false e = refl

key_exact : IsAntisymmetric key_cmp
unfolding fold_order
key_exact a b e =
    let p = then_parts (nat_cmp (kind a.is_group) (kind b.is_group)) (fold_order a.name b.name) e in
    let q = then_parts (slice_cmp nat_cmp (lower_case a.name) (lower_case b.name)) (slice_cmp nat_cmp a.name b.name) p.1 in
    let g : a.is_group ≡ b.is_group = kind_exact _ _ (nat_cmp-IsAntisymmetric _ _ p.0) in
    let n : a.name ≡ b.name = slice_cmp-IsAntisymmetric nat_cmp-IsAntisymmetric a.name b.name q.1 in
    λ i. record { is_group = g i; name = n i }

address_total : IsTotalOrder (slice_cmp key_cmp)
address_total = lists_total key_total

is_less : (r : Ordering) → is_lt r ≡ true → r ≡ Less
is_less Less e = refl
is_less Equal e = absurd (false≢true e)
is_less Greater e = absurd (false≢true e)

-- the laws of the rows' order
pub before_chain : (a b c : Row) → before a b ≡ true → before b c ≡ true → before a c ≡ true
unfolding before address_cmp
before_chain a b c x y = ap is_lt (address_total.trans (address a) (address b) (address c) (is_less _ x) (is_less _ y))

-- `before` is to be before the other's address
pub before_is : (a b : Row) → before a b ≡ is_before a (address b)
unfolding before
before_is a b = refl

pub before_chain_at : (a b : Row) (at : List Key) → before a b ≡ true → is_before b at ≡ true → is_before a at ≡ true
unfolding before address_cmp
before_chain_at a b at x y = ap is_lt (address_total.trans (address a) (address b) at (is_less _ x) (is_less _ y))

turned : (r s : Ordering) → r ≡ ordering_reverse s → is_lt r ≡ true → is_lt s ≡ false
turned r Less e x = absurd (false≢true (sym (ap is_lt e) ∙ x))
turned r Equal e x = refl
turned r Greater e x = refl

pub before_one_way : (a b : Row) → before a b ≡ true → before b a ≡ false
unfolding before address_cmp
before_one_way a b x = turned _ _ (address_total.antisymm (address a) (address b)) x

pub before_itself : (a : Row) → before a a ≡ false
unfolding before address_cmp
before_itself a = ap is_lt (tied_itself address_total (address a))

last_key : Key → List Key → Key
last_key d [] = d
last_key d (x ∷ xs) = last_key x xs

last_push : (d : Key) (xs : List Key) (k : Key) → last_key d (xs ++ k ∷ []) ≡ k
unfolding last_key
last_push d [] k = refl
last_push d (x ∷ xs) k = last_push x xs k

same_key : (a b : Row) → address a ≡ address b → key a ≡ key b
same_key a b e = sym (last_push (key a) (map group_key a.path) (key a)) ∙ ap (last_key (key a)) e ∙ last_push (key a) (map group_key b.path) (key b)

other_way : (r s : Ordering) → r ≡ ordering_reverse s → is_lt r ≡ false → (r ≡ Equal → ⊥) → is_lt s ≡ true
other_way Less s e x n = absurd (true≢false x)
other_way Equal s e x n = absurd (n refl)
other_way Greater Less e x n = refl
other_way Greater Equal e x n = absurd cc
other_way Greater Greater e x n = absurd cc

pub before_other : (a b : Row) → before a b ≡ false → (key a ≡ key b → ⊥) → before b a ≡ true
unfolding before address_cmp
before_other a b x n = other_way _ _ (address_total.antisymm (address a) (address b)) x (λ e. n (same_key a b (slice_cmp-IsAntisymmetric key_exact (address a) (address b) e)))

prefix_less : (xs : List Key) (y : Key) (ys : List Key) → slice_cmp key_cmp xs (xs ++ y ∷ ys) ≡ Less
prefix_less [] y ys = refl
prefix_less (x ∷ xs) y ys = rw (tied_itself key_total x) (prefix_less xs y ys)

-- a group's address is the path of what is below it
pub group_address : (g : Row) → g.item.is_group ≡ true → address g ≡ map group_key (below g)
group_address g e =
    let k : key g ≡ group_key g.item.name = λ i. record { is_group = e i; name = g.item.name } in
    ap (λ x. map group_key g.path ++ x ∷ []) k ∙ sym (map-append group_key g.path (g.item.name ∷ []))

-- a group is before what is below it
pub before_below : (g r : Row) → g.item.is_group ≡ true → r.path ≡ g.path ++ g.item.name ∷ [] → before g r ≡ true
unfolding before address_cmp
before_below g r e p =
    ap is_lt (ap (λ x. slice_cmp key_cmp x (address r)) (group_address g e ∙ ap (map group_key) (sym p)) ∙ prefix_less (map group_key r.path) (key r) [])

-- and before a group further below
pub before_further : (g p : Row) (n : List ℕ) (ns : List (List ℕ)) → g.item.is_group ≡ true → p.item.is_group ≡ true → below p ≡ below g ++ n ∷ ns → before g p ≡ true
unfolding before address_cmp
before_further g p n ns e i b =
    let a : address p ≡ map group_key (below g) ++ group_key n ∷ map group_key ns = group_address p i ∙ ap (map group_key) b ∙ map-append group_key (below g) (n ∷ ns) in
    ap is_lt (ap (λ x. slice_cmp key_cmp x (address p)) (group_address g e) ∙ ap (slice_cmp key_cmp (map group_key (below g))) a ∙ prefix_less (map group_key (below g)) (group_key n) (map group_key ns))

-- the order sees paths and keys alone
pub before_like : (x a b : Row) → a.path ≡ b.path → key a ≡ key b → before x a ≡ before x b
unfolding before address_cmp
before_like x a b p k = ap (λ l. is_lt (slice_cmp key_cmp (address x) l)) (λ i. map group_key (p i) ++ k i ∷ [])

pub before_like_left : (a b x : Row) → a.path ≡ b.path → key a ≡ key b → before a x ≡ before b x
unfolding before address_cmp
before_like_left a b x p k = ap (λ l. is_lt (slice_cmp key_cmp l (address x))) (λ i. map group_key (p i) ++ k i ∷ [])

-- what lies between a list and that list with one more key begins with the list
less_both : {P : Type 0} (x y : Key) → key_cmp x y ≡ Less → key_cmp y x ≡ Less → P
less_both x y e f = absurd (true≢false (sym (ap is_lt e) ∙ turned (key_cmp y x) (key_cmp x y) (key_total.antisymm y x) (ap is_lt f)))

less_then : (r s : Ordering) → ordering_then r s ≡ Less → (r ≡ Less) ⊎ ((r ≡ Equal) × (s ≡ Less))
less_then Less s e = inl refl
less_then Equal s e = inr (refl, e)
less_then Greater s e = absurd cc

not_below_nil : {P : Type 0} (xs : List Key) → slice_cmp key_cmp xs [] ≡ Less → P
not_below_nil [] e = absurd cc
not_below_nil (x ∷ xs) e = absurd cc

less_equal : {P : Type 0} (x y : Key) → key_cmp x y ≡ Less → key_cmp y x ≡ Equal → P
less_equal x y e f = let i : x ≡ y = sym (key_exact y x f) in absurd (let j : key_cmp x x ≡ Less = ap (key_cmp x) i ∙ e in let k : Less ≡ Equal = sym j ∙ tied_itself key_total x in cc)

pub between : (a c : List Key) (k : Key) → slice_cmp key_cmp a c ≡ Less → slice_cmp key_cmp c (a ++ k ∷ []) ≡ Less → (d : Key) × (rest : List Key) × (c ≡ a ++ d ∷ rest) × (key_cmp d k ≡ Less)
between [] [] k e f = absurd cc
between [] (d ∷ rest) k e f = elim (less_then (key_cmp d k) (slice_cmp key_cmp rest []) f) [
  | inl l ↦ (d, rest, refl, l)
  | inr p ↦ not_below_nil rest p.1
]
between (x ∷ xs) [] k e f = absurd cc
between (x ∷ xs) (y ∷ ys) k e f = elim (less_then (key_cmp x y) (slice_cmp key_cmp xs ys) e) [
  | inl l ↦ elim (less_then (key_cmp y x) (slice_cmp key_cmp ys (xs ++ k ∷ [])) f) [ inl m ↦ less_both x y l m | inr q ↦ less_equal x y l q.0 ]
  | inr p ↦ elim (less_then (key_cmp y x) (slice_cmp key_cmp ys (xs ++ k ∷ [])) f) [
    | inl m ↦ less_equal y x m p.0
    | inr q ↦ (let r = between xs ys k p.1 q.1 in let i : y ≡ x = sym (key_exact x y p.0) in (r.0, r.1, (λ j. i j ∷ r.2 j), r.3))
  ]
]

pub before_less : (a b : Row) → before a b ≡ true → slice_cmp key_cmp (address a) (address b) ≡ Less
unfolding before address_cmp
before_less a b e = is_less _ e

pub nick_below_group : (a b : Key) → a.is_group ≡ true → b.is_group ≡ false → key_cmp a b ≡ Less → ⊥
nick_below_group a b g n e =
    let i : nat_cmp (kind a.is_group) (kind b.is_group) ≡ Greater = ap (λ z. nat_cmp (kind z) (kind b.is_group)) g ∙ ap (λ z. nat_cmp 1 (kind z)) n in
    let j : ordering_then Greater (fold_order a.name b.name) ≡ Less = ap (λ z. ordering_then z (fold_order a.name b.name)) (sym i) ∙ e in
    let k : Greater ≡ Less = j in cc

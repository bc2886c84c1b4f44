-- The row that comes after rows that are read.
use Rattle.std.proofs.Common.{◌≡◌, ℕ, zero, suc, ◌+◌, ◌-◌, ◌<◌, ◌≤◌, Bool, true, false, Option, Some, None, List, [], ◌∷◌, ◌++◌, ◌⊎◌, length, map, take, drop, refl, sym, ap, ◌∙◌, subst, inl, inr, arith, append_assoc, Ordering, ◌&&◌}
use Rattle.std.specs.List.{slice_get}
use Rattle.std.specs.declared.cmp.Ordering.TheVariants.{Less, Equal, Greater}
use Rattle.std.specs.Ordering.{nat_cmp, ordering_then, is_lt}
use Rattle.std.specs.Cmp.Lexicographic.{slice_cmp}
use Rattle.std.proofs.lemmas.Bool.{true≢false}
use Rattle.std.proofs.lemmas.Cmp.{tied_itself}
use Rattle.std.proofs.lemmas.List.{append-nil, map-append, take_all, length-append, take-append-le}
use Rattle.wc_text.specs.Order.{fold_order}
use Rattle.wc_nicklist.specs.declared.item.Item.{Item}
use Rattle.wc_nicklist.specs.declared.item.Key.{Key}
use Rattle.wc_nicklist.specs.declared.item.Row.{Row}
use Rattle.wc_nicklist.specs.Order.{key, group_key, kind, key_cmp, address, address_cmp, is_before, before}
use Rattle.wc_nicklist.specs.Rows.{find_row, root_name, is_root, last_or, parent_of, below, below_row, path_below}
use Rattle.wc_nicklist.proofs.OrderLaws.{by_bool, key_total, group_address, before_chain, before_below}
use Rattle.wc_nicklist.proofs.Held.{by_row, parent_found}
use Rattle.wc_nicklist.proofs.Refusals.{is_name}
use Rattle.wc_nicklist.proofs.RowLaws.{find_key}
use Rattle.wc_nickdiff.proofs.Split.{one_row, split_of}
use Rattle.wc_view.specs.NickLists.{last_from, last_row, path_after, nick_name, comes_after}
use Rattle.wc_view.proofs.NickStands.{Stands, Good, alone, found_left, found_right}

-- ---- the last row
pub last-append : (d : Option Row) (xs : List Row) (r : Row) → last_from d (xs ++ r ∷ []) ≡ Some r
last-append d [] r = refl
last-append d (x ∷ xs) r = last-append (Some x) xs r

last_split : (d : Option Row) (x : Row) (xs : List Row) (l : Row) → last_from d (x ∷ xs) ≡ Some l → (front : List Row) × (x ∷ xs ≡ front ++ l ∷ [])
last_split d x [] l e = ([], ap (λ z. z ∷ []) (one_row x l e))
last_split d x (y ∷ ys) l e = let r = last_split (Some x) y ys l e in (x ∷ r.0, ap (λ rows. x ∷ rows) r.1)

front_of : (rows : List Row) (l : Row) → last_row rows ≡ Some l → (front : List Row) × (rows ≡ front ++ l ∷ [])
front_of [] l e = absurd cc
front_of (x ∷ xs) l e = last_split None x xs l e

last_some : (x : Row) (xs : List Row) → last_from (Some x) xs ≡ None → ⊥
last_some x [] e = cc
last_some x (y ∷ ys) e = last_some y ys e

pub no_rows : (rows : List Row) → last_row rows ≡ None → rows ≡ []
no_rows [] e = refl
no_rows (x ∷ xs) e = absurd (last_some x xs e)

pub last_found : (rows : List Row) (l : Row) → Good rows → last_row rows ≡ Some l → find_row (key l) rows ≡ Some l
last_found rows l g e = let f = front_of rows l e in (split_of rows f.0 l [] f.1 g.ascending g.keyed).there

-- what comes after the last row comes after each
pub after_all : (rows : List Row) (l r : Row) → Good rows → last_row rows ≡ Some l → before l r ≡ true → (k : Key) (x : Row) → find_row k rows ≡ Some x → before x r ≡ true
after_all rows l r g e b k x f =
    let split = front_of rows l e in
    let s = split_of rows split.0 l [] split.1 g.ascending g.keyed in
    let h : find_row k (split.0 ++ l ∷ []) ≡ Some x = ap (find_row k) (sym split.1) ∙ f in
    by_row (find_row k split.0) _
    (λ n. ap (λ z. before z r) (sym (alone l k x (found_right split.0 (l ∷ []) k x h n))) ∙ b)
    (λ y n. before_chain x l r (ap (λ z. before z l) (sym (found_left split.0 (l ∷ []) k x y h n)) ∙ s.left_before k y n) b)

-- ---- its place
ends : (o : Ordering) (more : List Key) → is_lt (ordering_then o (slice_cmp key_cmp more [])) ≡ is_lt o
ends Less more = refl
ends Equal [] = refl
ends Equal (a ∷ more) = refl
ends Greater more = refl

-- after a common front the next keys decide
sibling : (xs : List Key) (a : Key) (more : List Key) (b : Key) → is_lt (slice_cmp key_cmp (xs ++ a ∷ more) (xs ++ b ∷ [])) ≡ is_lt (key_cmp a b)
sibling [] a more b = ends (key_cmp a b) more
sibling (x ∷ xs) a more b = rw (tied_itself key_total x) (sibling xs a more b)

-- the order of two keys of one kind, and of a nick and a group
same_kind : (a b : Key) (g : Bool) → a.is_group ≡ g → b.is_group ≡ g → is_lt (key_cmp a b) ≡ is_lt (fold_order a.name b.name)
same_kind a b true e f = (λ i. is_lt (ordering_then (nat_cmp (kind (e i)) (kind (f i))) (fold_order a.name b.name)))
same_kind a b false e f = (λ i. is_lt (ordering_then (nat_cmp (kind (e i)) (kind (f i))) (fold_order a.name b.name)))

nick_first : (a b : Key) → a.is_group ≡ false → b.is_group ≡ true → is_lt (key_cmp a b) ≡ true
nick_first a b e f = (λ i. is_lt (ordering_then (nat_cmp (kind (e i)) (kind (f i))) (fold_order a.name b.name)))

path_of_group : (l : Row) → l.item.is_group ≡ true → path_after (Some l) ≡ below l
path_of_group l e = rw e refl

path_of_nick : (l : Row) → l.item.is_group ≡ false → path_after (Some l) ≡ l.path
path_of_nick l e = rw e refl

name_of_group : (l : Row) → l.item.is_group ≡ true → nick_name (Some l) ≡ None
name_of_group l e = rw e refl

name_of_nick : (l : Row) → l.item.is_group ≡ false → nick_name (Some l) ≡ Some l.item.name
name_of_nick l e = rw e refl

-- a nick after the last row
pub nick_place : (l r : Row) → r.item.is_group ≡ false → r.path ≡ path_after (Some l) → before l r ≡ comes_after (nick_name (Some l)) r.item.name
unfolding before address_cmp
nick_place l r nick p = by_bool l.item.is_group _
    (λ g. before_below l r g (p ∙ path_of_group l g) ∙ sym (ap (λ o. comes_after o r.item.name) (name_of_group l g)))
    (λ g.
    let q : r.path ≡ l.path = p ∙ path_of_nick l g in
    ap (λ z. is_lt (slice_cmp key_cmp (address l) (map group_key z ++ key r ∷ []))) q
    ∙ sibling (map group_key l.path) (key l) [] (key r)
    ∙ same_kind (key l) (key r) false g nick
    ∙ sym (ap (λ o. comes_after o r.item.name) (name_of_nick l g)))

-- a path at a depth
data At (path : List (List ℕ)) (depth : ℕ) : Type 0 where
  at_end : take depth path ≡ path → slice_get path depth ≡ None → At path depth
  within : (n : List ℕ) (rest : List (List ℕ)) → path ≡ take depth path ++ n ∷ rest → slice_get path depth ≡ Some n → At path depth

at_depth : (path : List (List ℕ)) (depth : ℕ) → depth ≤ length path → At path depth
at_depth [] zero h = at_end refl refl
at_depth [] (suc d) h = absurd (omega arith)
at_depth (n ∷ ns) zero h = within n ns refl refl
at_depth (n ∷ ns) (suc d) h = elim (at_depth ns d (omega arith)) [
  | at_end p s ↦ at_end (ap (λ z. n ∷ z) p) s
  | within m rest p s ↦ within m rest (ap (λ z. n ∷ z) p) s
]

-- an address begins with the path after its row
address_is : (l : Row) → (tail : List Key) × (address l ≡ map group_key (path_after (Some l)) ++ tail)
address_is l = by_group l.item.is_group refl
  where
    by_group : (b : Bool) → l.item.is_group ≡ b → (tail : List Key) × (address l ≡ map group_key (path_after (Some l)) ++ tail)
    by_group true g = ([], group_address l g ∙ ap (map group_key) (sym (path_of_group l g)) ∙ sym (append-nil (map group_key (path_after (Some l)))))
    by_group false g = (key l ∷ [], ap (λ z. map group_key z ++ key l ∷ []) (sym (path_of_nick l g)))

-- a group after the last row
pub group_place : (l r : Row) (depth : ℕ) → r.item.is_group ≡ true → depth ≤ length (path_after (Some l)) → r.path ≡ take depth (path_after (Some l))
    → before l r ≡ comes_after (slice_get (path_after (Some l)) depth) r.item.name
unfolding before address_cmp
group_place l r depth group h p = elim (at_depth (path_after (Some l)) depth h) [
  | at_end all none ↦ following (p ∙ all) ∙ sym (ap (λ o. comes_after o r.item.name) none)
  | within n rest split some ↦ (
      let a = address_is l in
      let front = map group_key (take depth (path_after (Some l))) in
      let left : address l ≡ front ++ group_key n ∷ (map group_key rest ++ a.0) =
      a.1 ∙ ap (λ z. map group_key z ++ a.0) split ∙ ap (λ z. z ++ a.0) (map-append group_key (take depth (path_after (Some l))) (n ∷ rest))
      ∙ append_assoc front (group_key n ∷ map group_key rest) a.0 in
      let right : address r ≡ front ++ key r ∷ [] = ap (λ z. map group_key z ++ key r ∷ []) p in
      (λ i. is_lt (slice_cmp key_cmp (left i) (right i)))
      ∙ sibling front (group_key n) (map group_key rest ++ a.0) (key r)
      ∙ same_kind (group_key n) (key r) true refl group
      ∙ sym (ap (λ o. comes_after o r.item.name) some))
]
  where
    after_nick : r.path ≡ l.path → l.item.is_group ≡ false → before l r ≡ true
    after_nick q g =
        ap (λ z. is_lt (slice_cmp key_cmp (address l) (map group_key z ++ key r ∷ []))) q
        ∙ sibling (map group_key l.path) (key l) [] (key r)
        ∙ nick_first (key l) (key r) g group

    following : r.path ≡ path_after (Some l) → before l r ≡ true
    following q = by_bool l.item.is_group _
        (λ g. before_below l r g (q ∙ path_of_group l g))
        (λ g. after_nick (q ∙ path_of_nick l g) g)

-- ---- its parent
pub root_below : (rows : List Row) → path_below root_name rows ≡ Some []
unfolding path_below
root_below rows = refl

le_or_lt : (k n : ℕ) → (n ≤ k) ⊎ (k < n)
le_or_lt zero zero = inl (omega arith)
le_or_lt zero (suc n) = inr (omega arith)
le_or_lt (suc k) zero = inl (omega arith)
le_or_lt (suc k) (suc n) = elim (le_or_lt k n) [ inl h ↦ inl (omega arith) | inr h ↦ inr (omega arith) ]

abbrev PathStands : List Row → List (List ℕ) → Type 0
PathStands rows path = path_below (last_or root_name path) rows ≡ Some path

whole : (rows : List Row) (path : List (List ℕ)) (k : ℕ) → length path ≤ k → PathStands rows path → PathStands rows (take k path)
whole rows path k l e = subst (PathStands rows) (sym (take_all k path l)) e

-- each front of a path that is is
pub fronts : (rows : List Row) → Good rows → (n : ℕ) (path : List (List ℕ)) → length path ≡ n → path_below (last_or root_name path) rows ≡ Some path
    → (k : ℕ) → path_below (last_or root_name (take k path)) rows ≡ Some (take k path)
fronts rows g zero path len e k = whole rows path k (omega arith) e
fronts rows g (suc n) path len e k = elim (le_or_lt k (suc n)) [
  | inl h ↦ whole rows path k (omega arith) e
  | inr h ↦ elim (parent_found (last_or root_name path) rows path e) [
    | inl z ↦ absurd (omega (arith, len, ap length z))
    | inr x ↦ (
        let s = g.stand (group_key (last_or root_name path)) x.0 x.1 in
        let long : length x.0.path ≡ n = omega (arith, ap length x.2, length-append x.0.path (x.0.item.name ∷ []), len) in
        let t : take k path ≡ take k x.0.path = ap (take k) (sym x.2) ∙ take-append-le k x.0.path (x.0.item.name ∷ []) (omega arith) in
        subst (PathStands rows) (sym t) (fronts rows g n x.0.path long s.parent k))
  ]
]

last_or-push : (d : List ℕ) (xs : List (List ℕ)) (x : List ℕ) → last_or d (xs ++ x ∷ []) ≡ x
last_or-push d [] x = refl
last_or-push d (y ∷ ys) x = last_or-push y ys x

not_root : (g b : Bool) → (g && b) ≡ false → g ≡ true → b ≡ false
not_root true b e t = e
not_root false b e t = absurd (true≢false (sym t))

-- the path below a group that is
own_below : (rows : List Row) (l : Row) → Stands rows l → find_row (key l) rows ≡ Some l → l.item.is_group ≡ true → path_below l.item.name rows ≡ Some (below l)
unfolding path_below
own_below rows l s f g =
    let n = not_root l.item.is_group (is_root l.item.name) (is_name l.item.is_group l.item.name s.named).no_root g in
    let k : key l ≡ group_key l.item.name = λ i. record { is_group = g i; name = l.item.name } in
    let there : find_row (group_key l.item.name) rows ≡ Some l = ap (λ q. find_row q rows) (sym k) ∙ f in
    rw (n, there) refl

-- the path after the last row is
pub after_stands : (rows : List Row) → Good rows → path_below (last_or root_name (path_after (last_row rows))) rows ≡ Some (path_after (last_row rows))
after_stands rows g = by_row (last_row rows) _
    (λ n. subst (PathStands rows) (ap path_after (sym n)) (root_below rows))
    (λ l e.
    let f = last_found rows l g e in
    let s = g.stand (key l) l f in
    subst (PathStands rows) (ap path_after (sym e)) (by_bool l.item.is_group _
    (λ t. subst (PathStands rows) (sym (path_of_group l t)) (ap (λ n. path_below n rows) (last_or-push root_name l.path l.item.name) ∙ own_below rows l s f t))
    (λ t. subst (PathStands rows) (sym (path_of_nick l t)) s.parent)))

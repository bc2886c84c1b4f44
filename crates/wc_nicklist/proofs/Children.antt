-- The children of a group come after it, and the first of them right after it.
use Rattle.std.proofs.Common.{◌≡◌, ℕ, true, false, Option, Some, List, [], ◌∷◌, ◌++◌, ◌⊎◌, map, refl, sym, ap, ◌∙◌, subst, inl, inr, suc, drop, append_assoc}
use Rattle.std.proofs.lemmas.List.{map-append}
use Rattle.std.specs.Prelude.{IfSome, slice_get}
use Rattle.std.specs.Cmp.Lexicographic.{slice_cmp}
use Rattle.std.specs.declared.cmp.Ordering.TheVariants.{Less}
use Rattle.std.proofs.lemmas.Bool.{true≢false, false_from_ne_true}
use Rattle.wc_nicklist.specs.declared.item.Key.{Key}
use Rattle.wc_nicklist.specs.declared.item.Row.{Row}
use Rattle.wc_nicklist.specs.declared.store.Store.{Store}
use Rattle.wc_nicklist.specs.Order.{key, key_at, group_key, key_cmp, address, before}
use Rattle.wc_nicklist.specs.Rows.{key_eq, path_eq, find_row, parent_of, below, has_child, AllAfter, Ascending, Keyed, IsRows}
use Rattle.wc_nicklist.specs.Stored.{entry_row, begins_below}
use Rattle.wc_nicklist.specs.Tree.{Leaf, entries_in, rows_in, IsInTree}
use Rattle.wc_nicklist.proofs.OrderLaws.{by_bool, path_eq-true, path_eq-same, before_below, before_further, before_itself, before_less, before_one_way, between, group_address}
use Rattle.wc_nicklist.proofs.RowLaws.{after_found, find_key}
use Rattle.wc_nicklist.proofs.Held.{parent_found}
use Rattle.wc_nicklist.proofs.Leaves.{ascending_right, after_in, front, back}
use Rattle.wc_nicklist.proofs.Places.{find_place}
use Rattle.wc_nicklist.proofs.TreeLaws.{whole_entry}

-- nothing is between two neighbours
none_between : (a b : List Row) (g y p : Row) (k : Key) → Ascending (a ++ g ∷ y ∷ b) → find_row k (a ++ g ∷ y ∷ b) ≡ Some p → before g p ≡ true → before p y ≡ true → ⊥
none_between [] b g y p k h f l r = by_bool (key_eq (key g) k) _
    (λ t. let i : Some g ≡ Some p = rw t at f in let j : g ≡ p = cc in true≢false (sym l ∙ ap (before g) (sym j) ∙ before_itself g))
    (λ t. by_bool (key_eq (key y) k) _
    (λ u. let i : Some y ≡ Some p = rw (t, u) at f in let j : y ≡ p = cc in true≢false (sym r ∙ ap (λ z. before z y) (sym j) ∙ before_itself y))
    (λ u. true≢false (sym (after_found y k b p h.1.0 (rw (t, u) at f)) ∙ before_one_way p y r)))
none_between (z ∷ zs) b g y p k h f l r = by_bool (key_eq (key z) k) _
    (λ t. let i : Some z ≡ Some p = rw t at f in let j : z ≡ p = cc in true≢false (sym (ap (λ w. before w g) (sym j) ∙ after_mid z zs h.0) ∙ before_one_way g p l))
    (λ t. none_between zs b g y p k h.1 (rw t at f) l r)
  where
    after_mid : (x : Row) (xs : List Row) → AllAfter x (xs ++ g ∷ y ∷ b) → before x g ≡ true
    after_mid x [] h = h.0
    after_mid x (w ∷ ws) h = after_mid x ws h.1

-- a path of names that goes on as another one is that one, or goes further
not_nil : {A : Type 0} (xs ys : List A) (x : A) → [] ≡ xs ++ x ∷ ys → ⊥
not_nil [] ys x e = cc
not_nil (z ∷ zs) ys x e = cc

goes_on : (ys gs : List (List ℕ)) (k d : Key) (rest : List Key) → map group_key ys ++ k ∷ [] ≡ map group_key gs ++ d ∷ rest → (ys ≡ gs) ⊎ ((n : List ℕ) × (ns : List (List ℕ)) × (ys ≡ gs ++ n ∷ ns))
goes_on [] [] k d rest e = inl refl
goes_on [] (g ∷ gs) k d rest e = let i : [] ≡ map group_key gs ++ d ∷ rest = cc in absurd (not_nil (map group_key gs) rest d i)
goes_on (y ∷ ys) [] k d rest e = inr (y, ys, refl)
goes_on (y ∷ ys) (g ∷ gs) k d rest e =
    let i : group_key y ≡ group_key g = cc in
    let first : y ≡ g = ap (λ z. z.name) i in
    let others : map group_key ys ++ k ∷ [] ≡ map group_key gs ++ d ∷ rest = cc in
    elim (goes_on ys gs k d rest others) [
      | inl s ↦ inl (λ j. first j ∷ s j)
      | inr r ↦ inr (r.0, r.1, (λ j. first j ∷ r.2 j))
    ]

-- where a later row is right below the group, so does the next one
module _ (a b : List Row) (g y x : Row) (ok : IsRows (a ++ g ∷ y ∷ b)) (e : g.item.is_group ≡ true) (p : x.path ≡ below g) (h : before y x ≡ true) where
  next_before : before g y ≡ true
  next_before = (ascending_right a (g ∷ y ∷ b) ok.ascending).0.0

  between_them : (d : Key) × (rest : List Key) × (address y ≡ map group_key (below g) ++ d ∷ rest) × (key_cmp d (key x) ≡ Less)
  between_them = between (map group_key (below g)) (address y) (key x)
      (subst (λ z. slice_cmp key_cmp z (address y) ≡ Less) (group_address g e) (before_less g y next_before))
      (subst (λ z. slice_cmp key_cmp (address y) (map group_key z ++ key x ∷ []) ≡ Less) p (before_less y x h))

  next_found : find_row (key y) (a ++ g ∷ y ∷ b) ≡ Some y
  next_found =
      let w : (a ++ g ∷ []) ++ y ∷ b ≡ a ++ g ∷ y ∷ b = append_assoc a (g ∷ []) (y ∷ b) in
      ap (find_row (key y)) (sym w) ∙ find_place (a ++ g ∷ []) b y (subst Keyed (sym w) ok.keyed)

  not_further : (n : List ℕ) (ns : List (List ℕ)) → y.path ≡ below g ++ n ∷ ns → ⊥
  not_further n ns i = elim (parent_found (parent_of y) (a ++ g ∷ y ∷ b) y.path (ok.held (key y) y next_found).parent) [
    | inl r ↦ not_nil (below g) ns n (sym r ∙ i)
    | inr q ↦ (let group : q.0.item.is_group ≡ true = ap (λ k. k.is_group) (find_key (group_key (parent_of y)) (a ++ g ∷ y ∷ b) q.0 q.1) in
        none_between a b g y q.0 (group_key (parent_of y)) ok.ascending q.1
        (before_further g q.0 n ns e group (q.2 ∙ i))
        (before_below q.0 y group (sym q.2)))
  ]

  pub next_below : path_eq y.path (below g) ≡ true
  next_below =
      let m = between_them in
      elim (goes_on y.path (below g) (key y) m.0 m.1 m.2) [
        | inl s ↦ ap (λ z. path_eq z (below g)) s ∙ path_eq-same (below g)
        | inr r ↦ absurd (not_further r.0 r.1 r.2)
      ]

-- no row in front is a child
none_in_front : (a b : List Row) (g : Row) → Ascending (a ++ g ∷ b) → g.item.is_group ≡ true → has_child (below g) (a ++ g ∷ b) ≡ has_child (below g) b
none_in_front [] b g h e =
    let own : path_eq g.path (below g) ≡ false = false_from_ne_true _ (λ t. true≢false (sym (before_below g g e (path_eq-true _ _ t)) ∙ before_itself g)) in
    rw own refl
none_in_front (z ∷ zs) b g h e =
    let other : path_eq z.path (below g) ≡ false = false_from_ne_true _ (λ t. true≢false (sym (after_in z g zs b h.0) ∙ before_one_way g z (before_below g z e (path_eq-true _ _ t)))) in
    rw other (none_in_front zs b g h.1 e)

some_child : (path : List (List ℕ)) (y : Row) (rows : List Row) → AllAfter y rows → has_child path rows ≡ true → (x : Row) × (x.path ≡ path) × (before y x ≡ true)
some_child path y [] h e = absurd (true≢false (sym e))
some_child path y (x ∷ xs) h e = by_bool (path_eq x.path path) _
    (λ t. (x, path_eq-true _ _ t, h.0))
    (λ t. some_child path y xs h.1 (rw t at e))

-- so the next row tells whether there is one
pub next_tells : (a b : List Row) (g : Row) → IsRows (a ++ g ∷ b) → g.item.is_group ≡ true → has_child (below g) (a ++ g ∷ b) ≡ begins_below (below g) b
next_tells a [] g ok e = none_in_front a [] g ok.ascending e
next_tells a (y ∷ b) g ok e = none_in_front a (y ∷ b) g ok.ascending e ∙ by_bool (path_eq y.path (below g)) _
    (λ t. rw t refl)
    (λ t. by_bool (has_child (below g) b) _
    (λ u. let s = some_child (below g) y b (ascending_right a (g ∷ y ∷ b) ok.ascending).1.0 u in
    absurd (true≢false (sym (next_below a b g y s.0 ok e s.1 s.2) ∙ t)))
    (λ u. rw (t, u) refl))

-- the row under a group's key is a group
pub is_its_group : (s : Store) (leaves : List Leaf) (g : Row) → find_row (key_at true g.item.name) (rows_in s leaves) ≡ Some g → g.item.is_group ≡ true
is_its_group s leaves g found = ap (λ k. k.is_group) (find_key (key_at true g.item.name) (rows_in s leaves) g found)

-- the rows after a place of a leaf
pub children_after : (s : Store) (leaves : List Leaf) (c n : ℕ) (g : Row) (following : List Row) (t : IsInTree s leaves c n (key_at true g.item.name)) → IsRows (rows_in s leaves) → find_row (key_at true g.item.name) (rows_in s leaves) ≡ Some g → IfSome (slice_get leaves c) (λ l. following ≡ map (entry_row s) (drop (suc n) l.items ++ entries_in (drop (suc c) leaves))) → has_child (below g) (rows_in s leaves) ≡ begins_below (below g) following
children_after s leaves c n g following t ok found is =
    let f = entry_row s in
    let k = key_at true g.item.name in
    let one : Some (f t.entry) ≡ Some g = sym t.found ∙ found in
    let same : f t.entry ≡ g = cc in
    let group = is_its_group s leaves g found in
    let P : Option Leaf → Type 0 = λ o. IfSome o (λ l. following ≡ map f (drop (suc n) l.items ++ entries_in (drop (suc c) leaves))) in
    let b : following ≡ map f (back leaves c t.leaf (suc n)) = subst P t.outer.got is in
    let w : rows_in s leaves ≡ map f (front leaves c t.leaf n) ++ g ∷ map f (back leaves c t.leaf (suc n)) =
    ap (map f) (whole_entry s leaves c n k t)
    ∙ map-append f (front leaves c t.leaf n) (t.entry ∷ back leaves c t.leaf (suc n))
    ∙ ap (λ z. map f (front leaves c t.leaf n) ++ z ∷ map f (back leaves c t.leaf (suc n))) same
    in
    ap (has_child (below g)) w
    ∙ next_tells (map f (front leaves c t.leaf n)) (map f (back leaves c t.leaf (suc n))) g (subst IsRows w ok) group
    ∙ ap (begins_below (below g)) (sym b)

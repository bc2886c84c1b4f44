-- The edits of a tree of leaves are those of its entries.
use Rattle.std.proofs.Common.{◌≡◌, ℕ, zero, suc, ◌+◌, ◌≤◌, ◌<◌, false, Some, List, [], ◌∷◌, ◌++◌, length, take, drop, map, refl, sym, ap, ◌∙◌, subst, arith, append_assoc, append-nil, length-take, length-append}
use Rattle.std.specs.Prelude.{slice_set, insert, remove, IsSomeAnd, vec_len, vec_capacity}
use Rattle.std.specs.Prelude.{◌==◌}
use Rattle.std.proofs.lemmas.Bool.{true≢false}
use Rattle.std.proofs.lemmas.List.{take_at, drop_at, map-append, drop-map}
use Rattle.wc_nicklist.specs.declared.store.Entry.{Entry}
use Rattle.wc_nicklist.specs.declared.item.Key.{Key}
use Rattle.wc_nicklist.specs.declared.item.Row.{Row}
use Rattle.wc_nicklist.specs.declared.store.Store.{Store}
use Rattle.wc_nicklist.specs.Order.{address_of}
use Rattle.wc_nicklist.specs.Rows.{find_row, IsRows}
use Rattle.wc_nicklist.specs.Stored.{entry_row, AllBefore, FirstNotBefore, IsRowPlace, IsSplitAt}
use Rattle.wc_nicklist.specs.Tree.{Leaf, leaf_rows, entries_in, rows_in, IsLeaf, AreLeaves, IsLeafPlace, IsRoomyPlace, AreNearlyLeaves, IsInTree, IsInserted, IsRemoved}
use Rattle.wc_nicklist.proofs.Leaves.{entries_in-append, rows_in-append, entries_at, cut_at, front, back, leaves_left, leaves_right, leaves-append, all_before-append, take_when_none}
use Rattle.wc_nicklist.proofs.Places.{found_place, split_at}
use Rattle.wc_nicklist.proofs.RowLaws.{find_key}

-- What is first after a cut tells whether there is such a row.
cut_found : (a b : List Row) (path : List (List ℕ)) (k : Key) (r : Row) → IsRows (a ++ b) → AllBefore a (address_of path k) → FirstNotBefore b (address_of path k) → find_row k (a ++ b) ≡ Some r → r.path ≡ path → (rest : List Row) × (b ≡ r ∷ rest)
cut_found a b path k r ok l f e i = found_place a b (address_of path k) k r ok.ascending l f e (λ j. address_of (i j) (find_key k (a ++ b) r e j))

pub some_leaves : (s : Store) (P : Row → Type 0) (k : Key) (leaves : List Leaf) → IsSomeAnd (find_row k (rows_in s leaves)) P → 0 < length leaves
some_leaves s P k [] h = absurd h
some_leaves s P k (l ∷ ls) h = omega arith

-- The same in a leaf, where there is such a row: its entry is at the place of its address.
module _ (s : Store) (leaves : List Leaf) (path : List (List ℕ)) (k : Key) (c : ℕ) (p : IsLeafPlace s leaves (address_of path k) c) (ok : IsRows (rows_in s leaves)) where
  -- what is at the place in the leaf
  at_place : (n : ℕ) (q : IsRowPlace (leaf_rows s p.leaf) (address_of path k) n) (r : Row) → find_row k (rows_in s leaves) ≡ Some r → r.path ≡ path → (b : List Entry) → drop n p.leaf.items ≡ b → (e : Entry) × (xs : List Entry) × (b ≡ e ∷ xs) × (entry_row s e ≡ r)
  at_place n q r e i b d =
      let f = entry_row s in
      let cut = cut_at s leaves (address_of path k) c n p q in
      let parts : rows_in s leaves ≡ map f (front leaves c p.leaf n) ++ map f (back leaves c p.leaf n) = ap (map f) cut.whole ∙ map-append f (front leaves c p.leaf n) (back leaves c p.leaf n) in
      let g = cut_found (map f (front leaves c p.leaf n)) (map f (back leaves c p.leaf n)) path k r (subst IsRows parts ok) cut.before_all cut.first_not (ap (find_row k) (sym parts) ∙ e) i in
      go b d (ap (λ z. map f (z ++ entries_in (drop (suc c) leaves))) (sym d) ∙ g.1)
    where
      go : (b : List Entry) → drop n p.leaf.items ≡ b → {rest : List Row} → map (entry_row s) (b ++ entries_in (drop (suc c) leaves)) ≡ r ∷ rest → (e : Entry) × (xs : List Entry) × (b ≡ e ∷ xs) × (entry_row s e ≡ r)
      go [] d {rest} g =
          let last : drop (suc c) leaves ≡ [] = p.right (take_when_none (leaf_rows s p.leaf) n (address_of path k) (drop-map (entry_row s) n p.leaf.items ∙ ap (map (entry_row s)) d) q.left) in
          let none : [] ≡ r ∷ rest = sym (ap (λ z. map (entry_row s) (entries_in z)) last) ∙ g in
          absurd cc
      go (x ∷ xs) d g = let first : entry_row s x ≡ r = cc in (x, xs, refl, first)

  pub lies_in : (n : ℕ) (q : IsRowPlace (leaf_rows s p.leaf) (address_of path k) n) (r : Row) → find_row k (rows_in s leaves) ≡ Some r → r.path ≡ path → IsInTree s leaves c n k
  lies_in n q r e i =
      let g = at_place n q r e i (drop n p.leaf.items) refl in
      let t = split_at p.leaf.items n g.0 g.1 g.2 in
      record {
        leaf = p.leaf;
        outer = p.split;
        entry = g.0;
        found = e ∙ ap Some (sym g.3);
        inner = subst (IsSplitAt p.leaf.items n g.0) (sym t.following) t;
      }

-- Leaves with one leaf replaced.
pub entries_set : (leaves : List Leaf) (c : ℕ) (l m : Leaf) → IsSplitAt leaves c l (drop (suc c) leaves) → entries_in (slice_set leaves c m) ≡ entries_in (take c leaves) ++ (m.items ++ entries_in (drop (suc c) leaves))
entries_set leaves c l m s = ap entries_in (s.written m) ∙ entries_in-append (take c leaves) (m ∷ drop (suc c) leaves)

pub leaves_set : (leaves : List Leaf) (c : ℕ) (l m : Leaf) → AreLeaves leaves → IsSplitAt leaves c l (drop (suc c) leaves) → IsLeaf m → AreLeaves (slice_set leaves c m)
leaves_set leaves c l m h s i =
    let parts = subst AreLeaves s.whole h in
    subst AreLeaves (sym (s.written m)) (leaves-append (take c leaves) (m ∷ drop (suc c) leaves) (leaves_left (take c leaves) _ parts) (i, (leaves_right (take c leaves) (l ∷ drop (suc c) leaves) parts).1))

-- a list that is made of two parts and an element between them
pub made_at : {A : Type 0} (xs pre rest : List A) (x : A) (n : ℕ) → xs ≡ pre ++ x ∷ rest → length pre ≡ n → IsSplitAt xs n x (drop (suc n) xs)
made_at xs pre rest x n e h =
    let s = split_at xs n x rest (ap (drop n) e ∙ drop_at pre (x ∷ rest) n h) in
    subst (IsSplitAt xs n x) (sym s.following) s

pub after_made : {A : Type 0} (xs pre rest : List A) (x : A) (n : ℕ) → xs ≡ pre ++ x ∷ rest → length pre ≡ n → drop (suc n) xs ≡ rest
after_made xs pre rest x n e h = (split_at xs n x rest (ap (drop n) e ∙ drop_at pre (x ∷ rest) n h)).following

pub before_made : {A : Type 0} (xs pre rest : List A) (n : ℕ) → xs ≡ pre ++ rest → length pre ≡ n → take n xs ≡ pre
before_made xs pre rest n e h = ap (take n) e ∙ take_at pre rest n h

pub front_length : {A : Type 0} (xs : List A) (n : ℕ) → n < length xs → length (take n xs) ≡ n
front_length xs n h = omega (arith, length-take n xs)

regroup : (p f y q : List Entry) → p ++ ((f ++ y) ++ q) ≡ (p ++ f) ++ (y ++ q)
regroup p f y q = simp append_assoc

-- the entries before and after one of a leaf
pub whole_entry : (s : Store) (leaves : List Leaf) (c n : ℕ) (k : Key) (t : IsInTree s leaves c n k) → entries_in leaves ≡ front leaves c t.leaf n ++ t.entry ∷ back leaves c t.leaf (suc n)
whole_entry s leaves c n k t =
    entries_at leaves c t.leaf t.outer
    ∙ ap (λ z. entries_in (take c leaves) ++ (z ++ entries_in (drop (suc c) leaves))) t.inner.whole
    ∙ regroup (entries_in (take c leaves)) (take n t.leaf.items) (t.entry ∷ drop (suc n) t.leaf.items) (entries_in (drop (suc c) leaves))

pub tree_removed : (s : Store) (leaves : List Leaf) (c n : ℕ) (k : Key) (m : Leaf) (t : IsInTree s leaves c n k) → m.items ≡ remove t.leaf.items n → IsRemoved (entries_in leaves) (entries_in (slice_set leaves c m)) t.entry
tree_removed s leaves c n k m t e = record {
  front = front leaves c t.leaf n;
  back = back leaves c t.leaf (suc n);
  was = whole_entry s leaves c n k t;
  is =
      entries_set leaves c t.leaf m t.outer
      ∙ ap (λ z. entries_in (take c leaves) ++ (z ++ entries_in (drop (suc c) leaves))) e
      ∙ regroup (entries_in (take c leaves)) (take n t.leaf.items) (drop (suc n) t.leaf.items) (entries_in (drop (suc c) leaves));
}

pub tree_nearly : (leaves : List Leaf) (c : ℕ) (l m : Leaf) → AreLeaves leaves → IsSplitAt leaves c l (drop (suc c) leaves) → vec_len m ≤ 64 → 64 ≤ vec_capacity m → AreNearlyLeaves (slice_set leaves c m) c
tree_nearly leaves c l m h s fits roomy =
    let parts = subst AreLeaves s.whole h in
    let made = s.written m in
    let len = front_length leaves c s.within in
    record {
      leaf = m;
      split = made_at (slice_set leaves c m) (take c leaves) (drop (suc c) leaves) m c made len;
      fits = fits;
      roomy = roomy;
      before = subst AreLeaves (sym (before_made (slice_set leaves c m) (take c leaves) (m ∷ drop (suc c) leaves) c made len)) (leaves_left (take c leaves) _ parts);
      following = subst AreLeaves (sym (after_made (slice_set leaves c m) (take c leaves) (drop (suc c) leaves) m c made len)) (leaves_right (take c leaves) (l ∷ drop (suc c) leaves) parts).1;
    }

pub tree_inserted : (s : Store) (leaves : List Leaf) (c : ℕ) (a : List Key) (e : Entry) (m : Leaf) (p : IsLeafPlace s leaves a c) (n : ℕ) → IsRowPlace (leaf_rows s p.leaf) a n → m.items ≡ insert p.leaf.items n e → IsInserted s (entries_in leaves) (entries_in (slice_set leaves c m)) e a
tree_inserted s leaves c a e m p n q i =
    let cut = cut_at s leaves a c n p q in
    let l = p.leaf in
    record {
      front = front leaves c l n;
      back = back leaves c l n;
      was = cut.whole;
      is =
          entries_set leaves c l m p.split
          ∙ ap (λ z. entries_in (take c leaves) ++ (z ++ entries_in (drop (suc c) leaves))) i
          ∙ regroup (entries_in (take c leaves)) (take n l.items) (e ∷ drop n l.items) (entries_in (drop (suc c) leaves));
      left = cut.before_all;
      right = cut.first_not;
    }

-- a leaf in two halves
pub split_made : (leaves : List Leaf) (c : ℕ) (l lower upper : Leaf) → IsSplitAt leaves c l (drop (suc c) leaves) → insert (slice_set leaves c lower) (c + 1) upper ≡ take c leaves ++ lower ∷ upper ∷ drop (suc c) leaves
split_made leaves c l lower upper s =
    let made = s.written lower in
    let xs = slice_set leaves c lower in
    let len = front_length leaves c s.within in
    let one : xs ≡ (take c leaves ++ lower ∷ []) ++ drop (suc c) leaves = made ∙ sym (append_assoc (take c leaves) (lower ∷ []) (drop (suc c) leaves)) in
    let more : length (take c leaves ++ lower ∷ []) ≡ c + 1 = simp length-append (omega arith) in
    (λ i. before_made xs (take c leaves ++ lower ∷ []) (drop (suc c) leaves) (c + 1) one more i ++ upper ∷ (ap (drop (c + 1)) one ∙ drop_at (take c leaves ++ lower ∷ []) (drop (suc c) leaves) (c + 1) more) i)
    ∙ append_assoc (take c leaves) (lower ∷ []) (upper ∷ drop (suc c) leaves)

pub split_leaves : (leaves : List Leaf) (c : ℕ) (l lower upper : Leaf) (new : List Leaf) → AreLeaves leaves → IsSplitAt leaves c l (drop (suc c) leaves) → IsLeaf lower → IsLeaf upper → new ≡ take c leaves ++ lower ∷ upper ∷ drop (suc c) leaves → AreLeaves new
split_leaves leaves c l lower upper new h s i j made =
    let parts = subst AreLeaves s.whole h in
    subst AreLeaves (sym made) (leaves-append (take c leaves) (lower ∷ upper ∷ drop (suc c) leaves) (leaves_left (take c leaves) _ parts) (i, (j, (leaves_right (take c leaves) (l ∷ drop (suc c) leaves) parts).1)))

pub lower_place : (s : Store) (leaves : List Leaf) (a : List Key) (c : ℕ) (p : IsLeafPlace s leaves a c) (lower upper : Leaf) (new : List Leaf) → vec_len lower < 64 → (AllBefore (leaf_rows s lower) a → ⊥) → new ≡ take c leaves ++ lower ∷ upper ∷ drop (suc c) leaves → IsRoomyPlace s new a c
lower_place s leaves a c p lower upper new room differs made =
    let len = front_length leaves c p.split.within in
    let P : List Leaf → Type 0 = λ z. AllBefore (rows_in s z) a in
    record {
      place = record {
        leaf = lower;
        split = made_at new (take c leaves) (upper ∷ drop (suc c) leaves) lower c made len;
        left = subst P (sym (before_made new (take c leaves) (lower ∷ upper ∷ drop (suc c) leaves) c made len)) p.left;
        right = λ b. absurd (differs b);
      };
      room = room;
    }

pub upper_place : (s : Store) (leaves : List Leaf) (a : List Key) (c : ℕ) (p : IsLeafPlace s leaves a c) (lower upper : Leaf) (new : List Leaf) → vec_len upper < 64 → p.leaf.items ≡ lower.items ++ upper.items → AllBefore (leaf_rows s lower) a → new ≡ take c leaves ++ lower ∷ upper ∷ drop (suc c) leaves → IsRoomyPlace s new a (c + 1)
upper_place s leaves a c p lower upper new room halves all made =
    let len = front_length leaves c p.split.within in
    let pre = take c leaves ++ lower ∷ [] in
    let one : new ≡ pre ++ upper ∷ drop (suc c) leaves = made ∙ sym (append_assoc (take c leaves) (lower ∷ []) (upper ∷ drop (suc c) leaves)) in
    let more : length pre ≡ c + 1 = simp length-append (omega arith) in
    let P : List Leaf → Type 0 = λ z. AllBefore (rows_in s z) a in
    let R : List Row → Type 0 = λ z. AllBefore z a in
    let rows : rows_in s pre ≡ rows_in s (take c leaves) ++ leaf_rows s lower = rows_in-append s (take c leaves) (lower ∷ []) ∙ ap (λ z. rows_in s (take c leaves) ++ map (entry_row s) z) (append-nil lower.items) in
    let both : leaf_rows s p.leaf ≡ leaf_rows s lower ++ leaf_rows s upper = ap (map (entry_row s)) halves ∙ map-append (entry_row s) lower.items upper.items in
    record {
      place = record {
        leaf = upper;
        split = made_at new pre (drop (suc c) leaves) upper (c + 1) one more;
        left = subst P (sym (before_made new pre (upper ∷ drop (suc c) leaves) (c + 1) one more)) (subst R (sym rows) (all_before-append (rows_in s (take c leaves)) (leaf_rows s lower) a p.left all));
        right = λ b. after_made new pre (drop (suc c) leaves) upper (c + 1) one more ∙ p.right (subst R (sym both) (all_before-append (leaf_rows s lower) (leaf_rows s upper) a all b));
      };
      room = room;
    }

pub moved_leaf_place : {s : Store} {leaves now : List Leaf} {a b : List Key} {c : ℕ} → leaves ≡ now → a ≡ b → IsLeafPlace s leaves a c → IsLeafPlace s now b c
moved_leaf_place {s} {leaves} {now} {a} {b} {c} e i p = subst (λ z. IsLeafPlace s now z c) i (subst (λ z. IsLeafPlace s z a c) e p)

pub moved_stands_in : {s : Store} {leaves now : List Leaf} {j k : Key} {c n : ℕ} → leaves ≡ now → j ≡ k → IsInTree s leaves c n j → IsInTree s now c n k
moved_stands_in {s} {leaves} {now} {j} {k} {c} {n} e i t = subst (λ z. IsInTree s now c n z) i (subst (λ z. IsInTree s z c n j) e t)

pub some_rows : (n : ℕ) → false ≡ (n == 0) → 0 < n
some_rows zero e = absurd (true≢false (sym e))
some_rows (suc n) e = omega arith

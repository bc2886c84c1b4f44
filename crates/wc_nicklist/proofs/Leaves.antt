-- Leaves of entries, one after the other, and the rows of these.
use Rattle.std.proofs.Common.{◌≡◌, ℕ, zero, suc, ◌+◌, ◌-◌, ◌<◌, true, List, [], ◌∷◌, ◌++◌, length, take, drop, get_or, map, refl, sym, ap, ◌∙◌, subst, arith, add-one, drop-cons, append_assoc, append-nil, take-append-drop, length-drop}
use Rattle.std.specs.Prelude.{vec_len}
use Rattle.std.proofs.lemmas.List.{length-map, take_all, map-append, take-map, drop-map}
use Rattle.std.proofs.lemmas.List.Concat.{flat_map-append}
use Rattle.wc_nicklist.specs.declared.store.Entry.{Entry}
use Rattle.wc_nicklist.specs.declared.item.Key.{Key}
use Rattle.wc_nicklist.specs.declared.item.Row.{Row}
use Rattle.wc_nicklist.specs.declared.store.Store.{Store}
use Rattle.wc_nicklist.specs.Order.{is_before, before}
use Rattle.wc_nicklist.specs.Rows.{Ascending, AllAfter}
use Rattle.wc_nicklist.specs.Stored.{entry_row, AllEntriesLead, AllBefore, FirstNotBefore, IsRowPlace, IsSplitAt}
use Rattle.wc_nicklist.specs.Tree.{Leaf, leaf_entries, leaf_rows, entries_in, rows_in, IsLeaf, AreLeaves, IsLeafPlace}
use Rattle.wc_nicklist.proofs.OrderLaws.{before_chain_at}
use Rattle.wc_nicklist.proofs.Places.{split_at}

-- all of a leaf's rows are before the address only if it is the last leaf
abbrev pub EndsAt : Store → List Leaf → List Key → ℕ → Type 0
EndsAt s leaves a c = (l : Leaf) → l ≡ get_or leaves c l → AllBefore (leaf_rows s l) a → drop (suc c) leaves ≡ []

pub entries_in-append : (xs ys : List Leaf) → entries_in (xs ++ ys) ≡ entries_in xs ++ entries_in ys
entries_in-append xs ys = flat_map-append leaf_entries xs ys

pub rows_in-append : (s : Store) (xs ys : List Leaf) → rows_in s (xs ++ ys) ≡ rows_in s xs ++ rows_in s ys
rows_in-append s xs ys = ap (map (entry_row s)) (entries_in-append xs ys) ∙ map-append (entry_row s) (entries_in xs) (entries_in ys)

-- what holds of all entries holds of those of a part
pub stand_left : (s : Store) (xs ys : List Entry) → AllEntriesLead s (xs ++ ys) → AllEntriesLead s xs
stand_left s [] ys h = tt
stand_left s (x ∷ xs) ys h = (h.0, stand_left s xs ys h.1)

pub stand_right : (s : Store) (xs ys : List Entry) → AllEntriesLead s (xs ++ ys) → AllEntriesLead s ys
stand_right s [] ys h = h
stand_right s (x ∷ xs) ys h = stand_right s xs ys h.1

pub all_before-append : (xs ys : List Row) (a : List Key) → AllBefore xs a → AllBefore ys a → AllBefore (xs ++ ys) a
all_before-append [] ys a h l = l
all_before-append (x ∷ xs) ys a h l = (h.0, all_before-append xs ys a h.1 l)

pub all_before_left : (xs ys : List Row) (a : List Key) → AllBefore (xs ++ ys) a → AllBefore xs a
all_before_left [] ys a h = tt
all_before_left (x ∷ xs) ys a h = (h.0, all_before_left xs ys a h.1)

pub all_before_right : (xs ys : List Row) (a : List Key) → AllBefore (xs ++ ys) a → AllBefore ys a
all_before_right [] ys a h = h
all_before_right (x ∷ xs) ys a h = all_before_right xs ys a h.1

pub after_in : (x r : Row) (xs b : List Row) → AllAfter x (xs ++ r ∷ b) → before x r ≡ true
after_in x r [] b h = h.0
after_in x r (y ∷ ys) b h = after_in x r ys b h.1

-- rows in order are before an address if the last one does
pub all_with_last : (xs : List Row) (r : Row) (a : List Key) → Ascending (xs ++ r ∷ []) → is_before r a ≡ true → AllBefore (xs ++ r ∷ []) a
all_with_last [] r a h b = (b, tt)
all_with_last (x ∷ xs) r a h b = (before_chain_at x r a (after_in x r xs [] h.0) b, all_with_last xs r a h.1 b)

pub ascending_left : (xs ys : List Row) → Ascending (xs ++ ys) → Ascending xs
ascending_left [] ys h = tt
ascending_left (x ∷ xs) ys h = (after_left xs h.0, ascending_left xs ys h.1)
  where
    after_left : (zs : List Row) → AllAfter x (zs ++ ys) → AllAfter x zs
    after_left [] b = tt
    after_left (z ∷ zs) b = (b.0, after_left zs b.1)

pub ascending_right : (xs ys : List Row) → Ascending (xs ++ ys) → Ascending ys
ascending_right [] ys h = h
ascending_right (x ∷ xs) ys h = ascending_right xs ys h.1

-- a leaf among the leaves
pub leaf_at : (leaves : List Leaf) (c : ℕ) (l : Leaf) → c < length leaves → l ≡ get_or leaves c l → IsSplitAt leaves c l (drop (suc c) leaves)
leaf_at leaves c l h e = split_at leaves c l (drop (suc c) leaves) (drop-cons leaves c l h ∙ ap (λ z. z ∷ drop (suc c) leaves) (sym e))

pub entries_at : (leaves : List Leaf) (c : ℕ) (l : Leaf) → IsSplitAt leaves c l (drop (suc c) leaves) → entries_in leaves ≡ entries_in (take c leaves) ++ (l.items ++ entries_in (drop (suc c) leaves))
entries_at leaves c l p = ap entries_in p.whole ∙ entries_in-append (take c leaves) (l ∷ drop (suc c) leaves)

pub rows_at : (s : Store) (leaves : List Leaf) (c : ℕ) (l : Leaf) → IsSplitAt leaves c l (drop (suc c) leaves) → rows_in s leaves ≡ rows_in s (take c leaves) ++ (leaf_rows s l ++ rows_in s (drop (suc c) leaves))
rows_at s leaves c l p =
    ap (map (entry_row s)) (entries_at leaves c l p)
    ∙ map-append (entry_row s) (entries_in (take c leaves)) (l.items ++ entries_in (drop (suc c) leaves))
    ∙ ap (λ z. rows_in s (take c leaves) ++ z) (map-append (entry_row s) l.items (entries_in (drop (suc c) leaves)))

pub stand_leaf : (s : Store) (leaves : List Leaf) (c : ℕ) (l : Leaf) → AllEntriesLead s (entries_in leaves) → IsSplitAt leaves c l (drop (suc c) leaves) → AllEntriesLead s l.items
stand_leaf s leaves c l h p = stand_left s l.items _ (stand_right s (entries_in (take c leaves)) _ (subst (AllEntriesLead s) (entries_at leaves c l p) h))

pub ascending_leaf : (s : Store) (leaves : List Leaf) (c : ℕ) (l : Leaf) → Ascending (rows_in s leaves) → IsSplitAt leaves c l (drop (suc c) leaves) → Ascending (leaf_rows s l)
ascending_leaf s leaves c l h p = ascending_left (leaf_rows s l) _ (ascending_right (rows_in s (take c leaves)) _ (subst Ascending (rows_at s leaves c l p) h))

pub leaves_left : (xs ys : List Leaf) → AreLeaves (xs ++ ys) → AreLeaves xs
leaves_left [] ys h = tt
leaves_left (x ∷ xs) ys h = (h.0, leaves_left xs ys h.1)

pub leaves_right : (xs ys : List Leaf) → AreLeaves (xs ++ ys) → AreLeaves ys
leaves_right [] ys h = h
leaves_right (x ∷ xs) ys h = leaves_right xs ys h.1

pub leaves-append : (xs ys : List Leaf) → AreLeaves xs → AreLeaves ys → AreLeaves (xs ++ ys)
leaves-append [] ys h l = l
leaves-append (x ∷ xs) ys h l = (h.0, leaves-append xs ys h.1 l)

pub is_leaf_at : (leaves : List Leaf) (c : ℕ) (l : Leaf) → AreLeaves leaves → IsSplitAt leaves c l (drop (suc c) leaves) → IsLeaf l
is_leaf_at leaves c l h s = (leaves_right (take c leaves) (l ∷ drop (suc c) leaves) (subst AreLeaves s.whole h)).0

-- one step of a search by halves
pub leaves_grow : (s : Store) (leaves : List Leaf) (a : List Key) (c : ℕ) (l : Leaf) → IsSplitAt leaves c l (drop (suc c) leaves) → AllBefore (rows_in s (take c leaves)) a → AllBefore (leaf_rows s l) a → AllBefore (rows_in s (take (c + 1) leaves)) a
leaves_grow s leaves a c l p h b =
    let e : take (c + 1) leaves ≡ take c leaves ++ l ∷ [] = ap (λ n. take n leaves) (add-one c) ∙ take_next leaves c l p in
    subst (λ z. AllBefore z a) (sym (ap (rows_in s) e ∙ rows_in-append s (take c leaves) (l ∷ []) ∙ ap (λ z. rows_in s (take c leaves) ++ map (entry_row s) z) (append-nil l.items))) (all_before-append (rows_in s (take c leaves)) (leaf_rows s l) a h b)
  where
    take_next : (xs : List Leaf) (n : ℕ) (x : Leaf) → IsSplitAt xs n x (drop (suc n) xs) → take (suc n) xs ≡ take n xs ++ x ∷ []
    take_next [] n x s = absurd (omega (arith, s.within))
    take_next (y ∷ ys) zero x s = ap (λ z. z ∷ []) (s.value y)
    take_next (y ∷ ys) (suc n) x s = ap (λ z. y ∷ z) (take_next ys n x (inner ys n x y s))
      where
        inner : (ys : List Leaf) (n : ℕ) (x y : Leaf) → IsSplitAt (y ∷ ys) (suc n) x (drop (suc (suc n)) (y ∷ ys)) → IsSplitAt ys n x (drop (suc n) ys)
        inner ys n x y s = split_at ys n x (drop (suc n) ys) (same ys n (s.within) ∙ ap (λ z. z ∷ drop (suc n) ys) (s.value x))
          where
            same : (zs : List Leaf) (m : ℕ) → suc m < length (y ∷ zs) → drop m zs ≡ get_or zs m x ∷ drop (suc m) zs
            same zs m h = drop-cons zs m x (omega arith)

pub place_of : (s : Store) (leaves : List Leaf) (a : List Key) (c : ℕ) (l : Leaf) → c < length leaves → l ≡ get_or leaves c l → AllBefore (rows_in s (take c leaves)) a → EndsAt s leaves a c → IsLeafPlace s leaves a c
place_of s leaves a c l h e left right = record {
  leaf = l;
  split = leaf_at leaves c l h e;
  left = left;
  right = right l e;
}

-- The entries before and after an address, in a leaf and around it.
abbrev pub front : List Leaf → ℕ → Leaf → ℕ → List Entry
front leaves c l n = entries_in (take c leaves) ++ take n l.items

abbrev pub back : List Leaf → ℕ → Leaf → ℕ → List Entry
back leaves c l n = drop n l.items ++ entries_in (drop (suc c) leaves)

pub record IsCut (s : Store) (leaves : List Leaf) (a : List Key) (c : ℕ) (l : Leaf) (n : ℕ) : Type 0 where
  pub whole : entries_in leaves ≡ front leaves c l n ++ back leaves c l n
  pub before_all : AllBefore (map (entry_row s) (front leaves c l n)) a
  pub first_not : FirstNotBefore (map (entry_row s) (back leaves c l n)) a

first_of_two : (s : Store) (xs : List Row) (ls : List Leaf) (a : List Key) → FirstNotBefore xs a → (xs ≡ [] → ls ≡ []) → FirstNotBefore (xs ++ rows_in s ls) a
first_of_two s [] ls a f h = subst (λ z. FirstNotBefore (rows_in s z) a) (sym (h refl)) tt
first_of_two s (x ∷ xs) ls a f h = f

pub take_when_none : (xs : List Row) (n : ℕ) (a : List Key) → drop n xs ≡ [] → AllBefore (take n xs) a → AllBefore xs a
take_when_none xs n a e h = subst (λ z. AllBefore z a) (ap (λ z. take n xs ++ z) (sym e) ∙ take-append-drop n xs) (subst (λ z. AllBefore z a) (sym (append-nil (take n xs))) h)

pub cut_at : (s : Store) (leaves : List Leaf) (a : List Key) (c n : ℕ) (p : IsLeafPlace s leaves a c) → IsRowPlace (leaf_rows s p.leaf) a n → IsCut s leaves a c p.leaf n
cut_at s leaves a c n p q =
    let l = p.leaf in
    let f = entry_row s in
    let before : map f (front leaves c l n) ≡ rows_in s (take c leaves) ++ take n (leaf_rows s l) = map-append f (entries_in (take c leaves)) (take n l.items) ∙ ap (λ z. rows_in s (take c leaves) ++ z) (sym (take-map f n l.items)) in
    let following : map f (back leaves c l n) ≡ drop n (leaf_rows s l) ++ rows_in s (drop (suc c) leaves) = map-append f (drop n l.items) (entries_in (drop (suc c) leaves)) ∙ ap (λ z. z ++ rows_in s (drop (suc c) leaves)) (sym (drop-map f n l.items)) in
    record {
      whole =
          entries_at leaves c l p.split
          ∙ ap (λ z. entries_in (take c leaves) ++ (z ++ entries_in (drop (suc c) leaves))) (sym (take-append-drop n l.items))
          ∙ ap (λ z. entries_in (take c leaves) ++ z) (append_assoc (take n l.items) (drop n l.items) (entries_in (drop (suc c) leaves)))
          ∙ sym (append_assoc (entries_in (take c leaves)) (take n l.items) (drop n l.items ++ entries_in (drop (suc c) leaves)));
      before_all = subst (λ z. AllBefore z a) (sym before) (all_before-append (rows_in s (take c leaves)) (take n (leaf_rows s l)) a p.left q.left);
      first_not = subst (λ z. FirstNotBefore z a) (sym following) (first_of_two s (drop n (leaf_rows s l)) (drop (suc c) leaves) a q.right (λ e. p.right (take_when_none (leaf_rows s l) n a e q.left)));
    }

-- rows in front of one that is before an address
front_before : (xs : List Row) (x : Row) (rest : List Row) (a : List Key) → Ascending (xs ++ x ∷ rest) → is_before x a ≡ true → AllBefore xs a
front_before [] x rest a h b = tt
front_before (y ∷ ys) x rest a h b = (before_chain_at y x a (after_in y x ys rest h.0) b, front_before ys x rest a h.1 b)

front_of_rows : (xs ys rest : List Row) (a : List Key) → 0 < length ys → Ascending (xs ++ (ys ++ rest)) → AllBefore ys a → AllBefore xs a
front_of_rows xs [] rest a n h b = absurd (omega arith)
front_of_rows xs (y ∷ ys) rest a n h b = front_before xs y (ys ++ rest) a h b.0

pub vec_filled : (l : Leaf) → 0 < vec_len l → 0 < length l.items
vec_filled l h = let e = l.ok in omega arith

pub leaves_before : (s : Store) (leaves : List Leaf) (a : List Key) (c : ℕ) (l : Leaf) → AreLeaves leaves → Ascending (rows_in s leaves) → IsSplitAt leaves c l (drop (suc c) leaves) → AllBefore (leaf_rows s l) a → AllBefore (rows_in s (take (c + 1) leaves)) a
leaves_before s leaves a c l are h p b =
    let some = vec_filled l (is_leaf_at leaves c l are p).filled in
    let rows : 0 < length (leaf_rows s l) = omega (arith, some, length-map l.items (entry_row s)) in
    leaves_grow s leaves a c l p
    (front_of_rows (rows_in s (take c leaves)) (leaf_rows s l) (rows_in s (drop (suc c) leaves)) a rows (subst Ascending (rows_at s leaves c l p) h) b)
    b

pub some_leaf : (leaves : List Leaf) (c : ℕ) → c < length leaves → (l : Leaf) × (l ≡ get_or leaves c l)
some_leaf [] c h = absurd (omega arith)
some_leaf (l ∷ ls) zero h = (l, refl)
some_leaf (l ∷ ls) (suc c) h = some_leaf ls c (omega arith)

pub last_before : (xs : List Row) (r : Row) (a : List Key) → AllBefore (xs ++ r ∷ []) a → is_before r a ≡ true
last_before xs r a h = (all_before_right xs (r ∷ []) a h).0

-- what comes after a place of a leaf
pub rest_is : {A : Type 0} (xs : List A) (n : ℕ) → take (length xs - n) (drop n xs) ≡ drop n xs
rest_is xs n = take_all (length xs - n) (drop n xs) (omega (arith, length-drop n xs))

pub stand_after : (s : Store) (leaves : List Leaf) (c n : ℕ) (l : Leaf) → AllEntriesLead s (entries_in leaves) → IsSplitAt leaves c l (drop (suc c) leaves) → AllEntriesLead s (drop n l.items ++ entries_in (drop (suc c) leaves))
stand_after s leaves c n l h p =
    let rest = entries_in (drop (suc c) leaves) in
    let all : AllEntriesLead s (l.items ++ rest) = stand_right s (entries_in (take c leaves)) (l.items ++ rest) (subst (AllEntriesLead s) (entries_at leaves c l p) h) in
    let parts : l.items ++ rest ≡ take n l.items ++ (drop n l.items ++ rest) = ap (λ z. z ++ rest) (sym (take-append-drop n l.items)) ∙ append_assoc (take n l.items) (drop n l.items) rest in
    stand_right s (take n l.items) (drop n l.items ++ rest) (subst (AllEntriesLead s) parts all)

-- A store and entries that own its rows: what each edit leaves of both.
use Rattle.std.proofs.Common.{◌≡◌, ℕ, ◌+◌, Bool, true, cond, Some, None, List, [], ◌∷◌, ◌++◌, ◌⊎◌, length, map, refl, sym, ap, ◌∙◌, subst, inl, inr, arith, length-append}
use Rattle.std.specs.Prelude.{nat_eq}
use Rattle.std.proofs.lemmas.Bool.{eqb-true, eq-eqb, true≢false}
use Rattle.std.proofs.lemmas.List.{map-append}
use Rattle.wc_nicklist.specs.declared.digest.Digest.{Digest}
use Rattle.wc_nicklist.specs.declared.store.Entry.{Entry}
use Rattle.wc_nicklist.specs.declared.item.Item.{Item}
use Rattle.wc_nicklist.specs.declared.item.Key.{Key}
use Rattle.wc_nicklist.specs.declared.item.Row.{Row}
use Rattle.wc_nicklist.specs.declared.store.Store.{Store}
use Rattle.wc_nicklist.specs.Digest.{IsPathDigest}
use Rattle.wc_nicklist.specs.Order.{key, address}
use Rattle.wc_nicklist.specs.Rows.{key_eq, find_row, insert_row, remove_row, replace_row, changed_row, change_found, change_row, Keyed, IsRows}
use Rattle.wc_nicklist.specs.Stored.{row_at, row_or, entry_row, EntryLeads, AllEntriesLead, IdIn}
use Rattle.wc_nicklist.specs.Tree.{Leaf, entries_in, AreLeaves, IsTree, IsInserted, IsRemoved}
use Rattle.wc_nicklist.proofs.OrderLaws.{by_bool, key_eq-true}
use Rattle.wc_nicklist.proofs.Places.{insert_place, remove_place}
use Rattle.wc_nicklist.proofs.RowLaws.{key_eq-at, find-remove, keyed-remove}

abbrev pub Among : Entry → List Entry → Type 0
Among e [] = ⊥
Among e (x ∷ xs) = (e ≡ x) ⊎ Among e xs

-- each row of the store has one of these entries
abbrev pub Owns : Store → List Entry → Type 0
Owns s es = (n : ℕ) (r : Row) → row_at s n ≡ Some r → IdIn n es

with_id : (n : ℕ) (es : List Entry) → IdIn n es → (e : Entry) × Among e es × (e.id.0 ≡ n)
with_id n [] h = absurd h
with_id n (x ∷ xs) (inl e) = (x, inl refl, e)
with_id n (x ∷ xs) (inr h) = let w = with_id n xs h in (w.0, inr w.1, w.2)

among_left : (e : Entry) (xs ys : List Entry) → Among e xs → Among e (xs ++ ys)
among_left e [] ys h = absurd h
among_left e (x ∷ xs) ys (inl i) = inl i
among_left e (x ∷ xs) ys (inr h) = inr (among_left e xs ys h)

among_middle : (e : Entry) (xs ys : List Entry) → Among e (xs ++ e ∷ ys)
among_middle e [] ys = inl refl
among_middle e (x ∷ xs) ys = inr (among_middle e xs ys)

among_without : (e x : Entry) (xs ys : List Entry) → Among e (xs ++ ys) → Among e (xs ++ x ∷ ys)
among_without e x [] ys h = inr h
among_without e x (y ∷ xs) ys (inl i) = inl i
among_without e x (y ∷ xs) ys (inr h) = inr (among_without e x xs ys h)

id_with : (n : ℕ) (x : Entry) (xs ys : List Entry) → IdIn n (xs ++ ys) → IdIn n (xs ++ x ∷ ys)
id_with n x [] ys h = inr h
id_with n x (y ∷ xs) ys (inl e) = inl e
id_with n x (y ∷ xs) ys (inr h) = inr (id_with n x xs ys h)

id_middle : (n : ℕ) (x : Entry) (xs ys : List Entry) → x.id.0 ≡ n → IdIn n (xs ++ x ∷ ys)
id_middle n x [] ys e = inl e
id_middle n x (y ∷ xs) ys e = inr (id_middle n x xs ys e)

id_without : (n : ℕ) (x : Entry) (xs ys : List Entry) → (x.id.0 ≡ n → ⊥) → IdIn n (xs ++ x ∷ ys) → IdIn n (xs ++ ys)
id_without n x [] ys o (inl e) = absurd (o e)
id_without n x [] ys o (inr h) = h
id_without n x (y ∷ xs) ys o (inl e) = inl e
id_without n x (y ∷ xs) ys o (inr h) = inr (id_without n x xs ys o h)

-- the row of an entry is found under its key, and no other entry has one of that key
row_found : (s : Store) (es : List Entry) (e : Entry) → Keyed (map (entry_row s) es) → Among e es → find_row (key (entry_row s e)) (map (entry_row s) es) ≡ Some (entry_row s e)
row_found s [] e h a = absurd a
row_found s (x ∷ xs) e h (inl i) =
    let t : key_eq (key (entry_row s x)) (key (entry_row s e)) ≡ true = key_eq-at _ _ (ap (λ z. key (entry_row s z)) (sym i)) in
    rw t (ap (λ z. Some (entry_row s z)) (sym i))
row_found s (x ∷ xs) e h (inr a) = by_bool (key_eq (key (entry_row s x)) (key (entry_row s e))) _
    (λ t.
    let k = key_eq-true _ _ t in
    let none : find_row (key (entry_row s e)) (map (entry_row s) xs) ≡ None = ap (λ z. find_row z (map (entry_row s) xs)) (sym k) ∙ h.0 in
    let i : None ≡ Some (entry_row s e) = sym none ∙ row_found s xs e h.1 a in
    cc)
    (λ t. rw t (row_found s xs e h.1 a))

key_apart : (s : Store) (x : Entry) (xs : List Entry) (e : Entry) → Keyed (map (entry_row s) (x ∷ xs)) → Among e xs → key (entry_row s x) ≡ key (entry_row s e) → ⊥
key_apart s x xs e h a k = let i : None ≡ Some (entry_row s e) = sym (ap (λ z. find_row z (map (entry_row s) xs)) (sym k) ∙ h.0) ∙ row_found s xs e h.1 a in cc

one_of_key : (s : Store) (es : List Entry) (a b : Entry) → Keyed (map (entry_row s) es) → Among a es → Among b es → key (entry_row s a) ≡ key (entry_row s b) → a ≡ b
one_of_key s [] a b h p q e = absurd p
one_of_key s (x ∷ xs) a b h (inl i) (inl j) e = i ∙ sym j
one_of_key s (x ∷ xs) a b h (inl i) (inr q) e = absurd (key_apart s x xs b h q (ap (λ z. key (entry_row s z)) (sym i) ∙ e))
one_of_key s (x ∷ xs) a b h (inr p) (inl j) e = absurd (key_apart s x xs a h p (ap (λ z. key (entry_row s z)) (sym j) ∙ sym e))
one_of_key s (x ∷ xs) a b h (inr p) (inr q) e = one_of_key s xs a b h.1 p q e

row_of_id : (s : Store) (e : Entry) (n : ℕ) (r : Row) → e.id.0 ≡ n → row_at s n ≡ Some r → entry_row s e ≡ r
row_of_id s e n r i h = ap row_or (ap (row_at s) i ∙ h)

all_stand-at : (s : Store) (e : Entry) (es : List Entry) → AllEntriesLead s es → Among e es → EntryLeads s e
all_stand-at s e [] h a = absurd a
all_stand-at s e (x ∷ xs) h (inl i) = subst (EntryLeads s) (sym i) h.0
all_stand-at s e (x ∷ xs) h (inr a) = all_stand-at s e xs h.1 a

-- Another store that has the same under the numbers of these entries.
module _ (s t : Store) where
  abbrev Agree : List Entry → Type 0
  Agree es = (e : Entry) → Among e es → row_at t e.id.0 ≡ row_at s e.id.0

  pub same_rows : (es : List Entry) → Agree es → map (entry_row t) es ≡ map (entry_row s) es
  same_rows [] h = refl
  same_rows (x ∷ xs) h = λ i. ap row_or (h x (inl refl)) i ∷ same_rows xs (λ e a. h e (inr a)) i

  pub same_stand : (es : List Entry) → Agree es → AllEntriesLead s es → AllEntriesLead t es
  same_stand [] h a = tt
  same_stand (x ∷ xs) h a = (record { row = a.0.row; found = h x (inl refl) ∙ a.0.found; digest = a.0.digest }, same_stand xs (λ e m. h e (inr m)) a.1)

-- a row came into the store under a new number
module _ (s t : Store) (n : ℕ) (r : Row) (fresh : row_at s n ≡ None) (after : (m : ℕ) → row_at t m ≡ cond (nat_eq n m) (Some r) (row_at s m)) where
  pub new_row : row_at t n ≡ Some r
  new_row = let e = eq-eqb n n refl in after n ∙ rw e refl

  pub agree_put : (es : List Entry) → AllEntriesLead s es → (e : Entry) → Among e es → row_at t e.id.0 ≡ row_at s e.id.0
  agree_put es h e a = after e.id.0 ∙ by_bool (nat_eq n e.id.0) _
      (λ y.
      let stands = all_stand-at s e es h a in
      let i : None ≡ Some stands.row = sym fresh ∙ ap (row_at s) (eqb-true n e.id.0 y) ∙ stands.found in
      cc)
      (λ y. rw y refl)

  pub owns_put : (es new : List Entry) (e : Entry) (a : List Key) → e.id.0 ≡ n → IsInserted t es new e a → Owns s es → Owns t new
  owns_put es new e a i came owns m q h = by_bool (nat_eq n m) _
      (λ y. subst (IdIn m) (sym came.is) (id_middle m e came.front came.back (i ∙ eqb-true n m y)))
      (λ y. subst (IdIn m) (sym came.is) (id_with m e came.front came.back (subst (IdIn m) came.was (owns m q (let w : cond (nat_eq n m) (Some r) (row_at s m) ≡ Some q = sym (after m) ∙ h in rw y at w)))))

-- the entry of a row came in at its place
pub rows_inserted : (s : Store) (old new : List Entry) (e : Entry) (r : Row) → entry_row s e ≡ r → IsInserted s old new e (address r) → find_row (key r) (map (entry_row s) old) ≡ None → map (entry_row s) new ≡ insert_row r (map (entry_row s) old)
rows_inserted s old new e r i came absent =
    let f = entry_row s in
    let parts = ap (map f) came.was ∙ map-append f came.front came.back in
    ap (map f) came.is ∙ map-append f came.front (e ∷ came.back) ∙ ap (λ z. map f came.front ++ z ∷ map f came.back) i
    ∙ sym (insert_place (map f came.front) (map f came.back) r came.left came.right (ap (find_row (key r)) (sym parts) ∙ absent))
    ∙ ap (insert_row r) (sym parts)

pub stand_inserted : (s : Store) (old new : List Entry) (e : Entry) (a : List Key) → IsInserted s old new e a → AllEntriesLead s old → EntryLeads s e → AllEntriesLead s new
stand_inserted s old new e a came h stands =
    let parts = subst (AllEntriesLead s) came.was h in
    subst (AllEntriesLead s) (sym came.is) (put came.front came.back parts)
  where
    put : (xs ys : List Entry) → AllEntriesLead s (xs ++ ys) → AllEntriesLead s (xs ++ e ∷ ys)
    put [] ys p = (stands, p)
    put (x ∷ xs) ys p = (p.0, put xs ys p.1)

pub length_inserted : (s : Store) (old new : List Entry) (e : Entry) (a : List Key) → IsInserted s old new e a → length new ≡ length old + 1
length_inserted s old new e a came =
    let o : length old ≡ length came.front + length came.back = ap length came.was ∙ length-append came.front came.back in
    let n : length new ≡ length came.front + length (e ∷ came.back) = ap length came.is ∙ length-append came.front (e ∷ came.back) in
    omega (arith, o, n)

-- The entry of a row went, and then the row from the store.
module _ (s : Store) (old new : List Entry) (e : Entry) (n : ℕ) (r : Row) (rows : IsRows (map (entry_row s) old)) (owns : Owns s old) (there : row_at s n ≡ Some r) (known : find_row (key r) (map (entry_row s) old) ≡ Some r) (gone : IsRemoved old new e) (found : find_row (key r) (map (entry_row s) old) ≡ Some (entry_row s e)) where
  gone_row : entry_row s e ≡ r
  gone_row = let i : Some (entry_row s e) ≡ Some r = sym found ∙ known in cc

  pub rows_removed : map (entry_row s) new ≡ remove_row (key r) (map (entry_row s) old)
  rows_removed =
      let f = entry_row s in
      let parts = ap (map f) gone.was ∙ map-append f gone.front (e ∷ gone.back) in
      ap (map f) gone.is ∙ map-append f gone.front gone.back
      ∙ sym (remove_place (map f gone.front) (map f gone.back) (f e) (subst Keyed parts rows.keyed))
      ∙ (λ i. remove_row (key (gone_row i)) (sym parts i))

  -- the entry has the number of the row
  pub gone_id : e.id.0 ≡ n
  gone_id =
      let w = with_id n old (owns n r there) in
      let one = one_of_key s old w.0 e rows.keyed w.1 (subst (Among e) (sym gone.was) (among_middle e gone.front gone.back)) (ap key (row_of_id s w.0 n r w.2 there ∙ sym gone_row)) in
      ap (λ z. z.id.0) (sym one) ∙ w.2

  -- no entry that is left has it
  pub left_apart : (x : Entry) → Among x new → x.id.0 ≡ n → ⊥
  left_apart x a i =
      let row : entry_row s x ≡ r = row_of_id s x n r i there in
      let keyed = subst Keyed (sym rows_removed) (keyed-remove (key r) (map (entry_row s) old) rows.keyed) in
      let here : find_row (key r) (map (entry_row s) new) ≡ Some r = ap (λ z. find_row (key z) (map (entry_row s) new)) (sym row) ∙ row_found s new x keyed a ∙ ap Some row in
      let none : find_row (key r) (map (entry_row s) new) ≡ None = ap (find_row (key r)) rows_removed ∙ find-remove (key r) (key r) (map (entry_row s) old) ∙ (let t = key_eq-at (key r) (key r) refl in rw t refl) in
      let j : Some r ≡ None = sym here ∙ none in
      cc

  pub stand_removed : AllEntriesLead s old → AllEntriesLead s new
  stand_removed h =
      let parts = subst (AllEntriesLead s) gone.was h in
      subst (AllEntriesLead s) (sym gone.is) (without gone.front gone.back parts)
    where
      without : (xs ys : List Entry) → AllEntriesLead s (xs ++ e ∷ ys) → AllEntriesLead s (xs ++ ys)
      without [] ys p = p.1
      without (x ∷ xs) ys p = (p.0, without xs ys p.1)

  module _ (t : Store) (after : (m : ℕ) → row_at t m ≡ cond (nat_eq n m) None (row_at s m)) where
    pub agree_take : (x : Entry) → Among x new → row_at t x.id.0 ≡ row_at s x.id.0
    agree_take x a = after x.id.0 ∙ by_bool (nat_eq n x.id.0) _
        (λ y. absurd (left_apart x a (sym (eqb-true n x.id.0 y))))
        (λ y. rw y refl)

    pub owns_take : Owns t new
    owns_take m q h = by_bool (nat_eq n m) _
        (λ y. let w : cond (nat_eq n m) None (row_at s m) ≡ Some q = sym (after m) ∙ h in let i : None ≡ Some q = rw y at w in absurd cc)
        (λ y.
        let w : cond (nat_eq n m) None (row_at s m) ≡ Some q = sym (after m) ∙ h in
        let there : row_at s m ≡ Some q = rw y at w in
        let other : e.id.0 ≡ m → ⊥ = λ i. true≢false (sym (eq-eqb n m (sym gone_id ∙ i)) ∙ y) in
        subst (IdIn m) (sym gone.is) (id_without m e gone.front gone.back other (subst (IdIn m) gone.was (owns m q there))))

pub length_removed : (old new : List Entry) (e : Entry) → IsRemoved old new e → length new + 1 ≡ length old
length_removed old new e gone =
    let o : length old ≡ length gone.front + length (e ∷ gone.back) = ap length gone.was ∙ length-append gone.front (e ∷ gone.back) in
    let n : length new ≡ length gone.front + length gone.back = ap length gone.is ∙ length-append gone.front gone.back in
    omega (arith, o, n)

-- A row of the store got other fields.
module _ (s t : Store) (n : ℕ) (r : Row) (i : Item) (there : row_at s n ≡ Some r) (after : (m : ℕ) → row_at t m ≡ cond (nat_eq n m) (Some (changed_row r i)) (row_at s m)) where
  row_of-changed : (e : Entry) → (e.id.0 ≡ n) → entry_row t e ≡ changed_row r i
  row_of-changed e h =
      let y = eq-eqb n e.id.0 (sym h) in
      let row : row_at t e.id.0 ≡ Some (changed_row r i) = after e.id.0 ∙ rw y refl in
      ap row_or row

  row_of-kept : (e : Entry) → (e.id.0 ≡ n → ⊥) → entry_row t e ≡ entry_row s e
  row_of-kept e h =
      let row : row_at t e.id.0 ≡ row_at s e.id.0 = after e.id.0 ∙ by_bool (nat_eq n e.id.0) _ (λ y. absurd (h (sym (eqb-true n e.id.0 y)))) (λ y. rw y refl) in
      ap row_or row

  pub stand_changed : (es : List Entry) → AllEntriesLead s es → AllEntriesLead t es
  stand_changed [] h = tt
  stand_changed (x ∷ xs) h = (
    by_bool (nat_eq n x.id.0) _
        (λ y.
        let same : Some r ≡ Some h.0.row = sym there ∙ ap (row_at s) (eqb-true n x.id.0 y) ∙ h.0.found in
        let one : h.0.row ≡ r = cc in
        record {
          row = changed_row r i;
          found = after x.id.0 ∙ rw y refl;
          digest = subst (λ (z : Row). IsPathDigest x.digest z.path z.item.is_group z.item.name) one h.0.digest;
        })
        (λ y. record { row = h.0.row; found = after x.id.0 ∙ rw y h.0.found; digest = h.0.digest }),
    stand_changed xs h.1,
  )

  rows_replaced : (es : List Entry) → ((e : Entry) → Among e es → key (entry_row s e) ≡ key r → e.id.0 ≡ n) → map (entry_row t) es ≡ replace_row (changed_row r i) (map (entry_row s) es)
  rows_replaced [] h = refl
  rows_replaced (x ∷ xs) h =
      let rest = rows_replaced xs (λ e a. h e (inr a)) in
      by_bool (key_eq (key (entry_row s x)) (key (changed_row r i))) _
      (λ y. let own = h x (inl refl) (key_eq-true _ _ y) in rw y (λ j. row_of-changed x own j ∷ rest j))
      (λ y.
      let other : x.id.0 ≡ n → ⊥ = λ e. true≢false (sym (key_eq-at (key (entry_row s x)) (key r) (ap key (row_of_id s x n r e there))) ∙ y) in
      rw y (λ j. row_of-kept x other j ∷ rest j))

  pub rows_changed : (es : List Entry) → Keyed (map (entry_row s) es) → Owns s es → find_row (key r) (map (entry_row s) es) ≡ Some r → map (entry_row t) es ≡ change_row (key r) i (map (entry_row s) es)
  rows_changed es keyed owns known =
      let w = with_id n es (owns n r there) in
      rows_replaced es (λ e a k. ap (λ z. z.id.0) (one_of_key s es e w.0 keyed a w.1 (k ∙ ap key (sym (row_of_id s w.0 n r w.2 there)))) ∙ w.2)
      ∙ ap (λ o. change_found o i (map (entry_row s) es)) (sym known)

  pub owns_change : (es : List Entry) → Owns s es → Owns t es
  owns_change es owns m q h = by_bool (nat_eq n m) _
      (λ y. subst (λ z. IdIn z es) (eqb-true n m y) (owns n r there))
      (λ y. owns m q (let w : cond (nat_eq n m) (Some (changed_row r i)) (row_at s m) ≡ Some q = sym (after m) ∙ h in rw y at w))

-- A tree whose store took memory.
pub tree_reserved : (s t : Store) (leaves now : List Leaf) (spare next : Leaf) (count : ℕ) → ((n : ℕ) → row_at t n ≡ row_at s n) → now ≡ leaves → next.items ≡ spare.items → IsTree s leaves spare count → IsTree t now next count
tree_reserved s t leaves now spare next count same e f tree = record {
  are_leaves = subst AreLeaves (sym e) tree.are_leaves;
  stand = subst (λ z. AllEntriesLead t (entries_in z)) (sym e) (same_stand s t (entries_in leaves) (λ x a. same x.id.0) tree.stand);
  spare_empty = f ∙ tree.spare_empty;
  counted = tree.counted ∙ ap (λ z. length (entries_in z)) (sym e);
  owned = λ n r h. subst (λ z. IdIn n (entries_in z)) (sym e) (tree.owned n r (sym (same n) ∙ h));
}

pub moved_digest : {d : Digest} {p q : List (List ℕ)} {g h : Bool} {m n : List ℕ} → p ≡ q → g ≡ h → m ≡ n → IsPathDigest d p g m → IsPathDigest d q h n
moved_digest {d} {p} {q} {g} {h} {m} {n} e i j is = subst (λ z. IsPathDigest d q h z) j (subst (λ z. IsPathDigest d q z m) i (subst (λ z. IsPathDigest d z g m) e is))

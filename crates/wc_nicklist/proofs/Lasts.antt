-- The last entry of a leaf, and what its digest tells.
use Rattle.std.proofs.Common.{◌≡◌, ℕ, zero, suc, ◌<◌, ◌≤◌, Bool, false, get_or, drop, List, [], ◌∷◌, ◌++◌, length, map, sym, ap, ◌∙◌, subst, arith, refl}
use Rattle.std.specs.Prelude.{IsTrue, nat_lt, vec_len}
use Rattle.std.proofs.lemmas.List.{map-append}
use Rattle.wc_nicklist.specs.declared.digest.Digest.{Digest}
use Rattle.wc_nicklist.specs.declared.store.Entry.{Entry}
use Rattle.wc_nicklist.specs.declared.item.Key.{Key}
use Rattle.wc_nicklist.specs.declared.item.Row.{Row}
use Rattle.wc_nicklist.specs.declared.store.Store.{Store}
use Rattle.wc_nicklist.specs.Digest.{IsPathDigest, Tells}
use Rattle.wc_nicklist.specs.Order.{key_at, address_of, is_before}
use Rattle.wc_nicklist.specs.Rows.{Ascending}
use Rattle.wc_nicklist.specs.Stored.{row_or, entry_row, EntryLeads, AllEntriesLead, AllBefore, FirstNotBefore}
use Rattle.wc_nicklist.specs.Tree.{Leaf, leaf_rows, IsLastDigest}
use Rattle.wc_nicklist.proofs.Digests.{told_name}
use Rattle.wc_nicklist.proofs.Leaves.{all_with_last, last_before, stand_right, vec_filled}

-- an entry's digest is that of its row
pub stands_digest : (s : Store) (e : Entry) → EntryLeads s e → IsPathDigest e.digest (entry_row s e).path (entry_row s e).item.is_group (entry_row s e).item.name
stands_digest s e h = subst (λ (r : Row). IsPathDigest e.digest r.path r.item.is_group r.item.name) (sym (ap row_or h.found)) h.digest

last_of : (xs : List Entry) → 0 < length xs → (ys : List Entry) × (e : Entry) × (xs ≡ ys ++ e ∷ [])
last_of [] h = absurd (omega arith)
last_of (x ∷ []) h = ([], x, refl)
last_of (x ∷ y ∷ zs) h = let l = last_of (y ∷ zs) (omega arith) in (x ∷ l.0, l.1, ap (λ z. x ∷ z) l.2)

-- the rows of entries, the last of which is apart
pub rows_with_last : (s : Store) (xs ys : List Entry) (e : Entry) → xs ≡ ys ++ e ∷ [] → map (entry_row s) xs ≡ map (entry_row s) ys ++ entry_row s e ∷ []
rows_with_last s xs ys e i = ap (map (entry_row s)) i ∙ map-append (entry_row s) ys (e ∷ [])

-- where digests tell it, the last row decides for all
module _ (s : Store) (l : Leaf) (d own : Digest) (path : List (List ℕ)) (g : Bool) (name : List ℕ) (filled : 0 < vec_len l) (stand : AllEntriesLead s l.items) (last : IsLastDigest d l.items) (is : IsPathDigest own path g name) (tells : Tells d own) where
  told_last : (ys : List Entry) (e : Entry) → l.items ≡ ys ++ e ∷ [] → nat_lt d.name own.name ≡ is_before (entry_row s e) (address_of path (key_at g name))
  told_last ys e i =
      let r = entry_row s e in
      let h = stands_digest s e (stand_right s ys (e ∷ []) (subst (AllEntriesLead s) i stand)).0 in
      told_name r path g name d own (subst (λ z. IsPathDigest z r.path r.item.is_group r.item.name) (sym (last ys e i)) h) is tells.place tells.some tells.name

  pub told_all : Ascending (leaf_rows s l) → IsTrue (nat_lt d.name own.name) → AllBefore (leaf_rows s l) (address_of path (key_at g name))
  told_all h t =
      let o = last_of l.items (vec_filled l filled) in
      let rows = rows_with_last s l.items o.0 o.1 o.2 in
      let P : List Row → Type 0 = λ z. AllBefore z (address_of path (key_at g name)) in
      subst P (sym rows) (all_with_last (map (entry_row s) o.0) (entry_row s o.1) (address_of path (key_at g name)) (subst Ascending rows h) (sym (told_last o.0 o.1 o.2) ∙ t))

  pub told_not_all : AllBefore (leaf_rows s l) (address_of path (key_at g name)) → IsTrue (nat_lt d.name own.name)
  told_not_all h =
      let o = last_of l.items (vec_filled l filled) in
      let rows = rows_with_last s l.items o.0 o.1 o.2 in
      let P : List Row → Type 0 = λ z. AllBefore z (address_of path (key_at g name)) in
      told_last o.0 o.1 o.2 ∙ last_before (map (entry_row s) o.0) (entry_row s o.1) (address_of path (key_at g name)) (subst P rows h)

-- what a look-up by index gives is, and its row is that at the same place
pub stand_at : (s : Store) (es : List Entry) (n : ℕ) (d : Entry) → AllEntriesLead s es → n < length es → EntryLeads s (get_or es n d)
stand_at s [] n d h l = absurd (omega arith)
stand_at s (x ∷ xs) zero d h l = h.0
stand_at s (x ∷ xs) (suc n) d h l = stand_at s xs n d h.1 (omega arith)

pub row_here : (s : Store) (es : List Entry) (n : ℕ) (d : Entry) → n < length es → entry_row s (get_or es n d) ≡ get_or (map (entry_row s) es) n (entry_row s (get_or es n d))
row_here s [] n d l = absurd (omega arith)
row_here s (x ∷ xs) zero d l = refl
row_here s (x ∷ xs) (suc n) d l = row_here s xs n d (omega arith)

-- a search ends at a row that is not before the address, or after the last
pub first_not : (s : Store) (es : List Entry) (n : ℕ) (d : Entry) (a : List Key) → n < length es → is_before (entry_row s (get_or es n d)) a ≡ false → FirstNotBefore (drop n (map (entry_row s) es)) a
first_not s [] n d a l h = absurd (omega arith)
first_not s (x ∷ xs) zero d a l h = h
first_not s (x ∷ xs) (suc n) d a l h = first_not s xs n d a (omega arith) h

pub none_after : (s : Store) (es : List Entry) (n : ℕ) (a : List Key) → length es ≤ n → FirstNotBefore (drop n (map (entry_row s) es)) a
none_after s [] zero a l = tt
none_after s [] (suc n) a l = tt
none_after s (x ∷ xs) zero a l = absurd (omega arith)
none_after s (x ∷ xs) (suc n) a l = none_after s xs n a (omega arith)

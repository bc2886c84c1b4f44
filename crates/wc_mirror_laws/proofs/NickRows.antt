-- Rows of a nicklist within their limits, as one comes, goes or is changed, and how deep they lie.
use Rattle.std.proofs.Common.{◌≡◌, ℕ, zero, suc, ◌+◌, ◌<◌, ◌≤◌, Bool, true, false, cond, ltb, List, [], ◌∷◌, length, Option, Some, None, is_some, refl, sym, ap, subst, ◌∙◌, arith, IsUtf8}
use Rattle.std.specs.List.{AllByRecursion}
use Rattle.std.proofs.lemmas.Bool.{false≢true}
use Rattle.std.proofs.lemmas.Bool.Decides.{nat_tests}
use Rattle.std.proofs.lemmas.List.{length-append}
use Rattle.wc_text.specs.declared.names.Handle.{Handle}
use Rattle.wc_text.proofs.CutLemmas.{cut_utf8}
use Rattle.wc_nicklist.specs.declared.item.Item.{Item}
use Rattle.wc_nicklist.specs.declared.item.Key.{Key}
use Rattle.wc_nicklist.specs.declared.item.Row.{Row}
use Rattle.wc_nicklist.specs.Calls.{add_refusal, remove_refusal, has_children, row_under, add_under, add_row}
use Rattle.wc_nicklist.specs.Order.{key, key_at, group_key, before}
use Rattle.wc_nicklist.specs.Rows.{key_eq, find_row, insert_row, remove_row, replace_row, changed_row, change_found, change_row, is_root, parent_of, below, below_row, path_below, level_at, Keyed, TextsAreUtf8, IsRows}
use Rattle.wc_nicklist.proofs.Held.{held-insert, held-remove, held-change}
use Rattle.wc_nicklist.proofs.Lengths.{length-insert_row, length-remove_row, length-change_row}
use Rattle.wc_nicklist.proofs.OrderLaws.{by_bool, key_eq-true, key_eq-same}
use Rattle.wc_nicklist.proofs.Refusals.{is_name, may_add, may_remove}
use Rattle.wc_nicklist.proofs.RowLaws.{find_key}
use Rattle.wc_model.specs.World.{row_limit}
use Rattle.wc_model.specs.Apply.{item_with, handle_in}
use Rattle.wc_world.proofs.CutItems.{item_cut}
use Rattle.wc_view.specs.NickViews.{IsTellable, AreTellable}
use Rattle.wc_mirror_laws.specs.Nicks.{IsRowKept, AreRowsKept}
use Rattle.wc_mirror_laws.proofs.ListLemmas.{all_more}

-- ---- what holds of each row

module _ (P : Row → Type 0) where
  inserted_all : (r : Row) (rows : List Row) → P r → AllByRecursion P rows → AllByRecursion P (insert_row r rows)
  inserted_all r [] p all = (p, tt)
  inserted_all r (x ∷ rows) p all = by_bool (before r x) _
      (λ t. rw t (p, all))
      (λ t. rw t (all.0, inserted_all r rows p all.1))

  removed_all : (k : Key) (rows : List Row) → AllByRecursion P rows → AllByRecursion P (remove_row k rows)
  removed_all k [] all = tt
  removed_all k (x ∷ rows) all = by_bool (key_eq (key x) k) _
      (λ t. rw t (removed_all k rows all.1))
      (λ t. rw t (all.0, removed_all k rows all.1))

  replaced_all : (r : Row) (rows : List Row) → P r → AllByRecursion P rows → AllByRecursion P (replace_row r rows)
  replaced_all r [] p all = tt
  replaced_all r (x ∷ rows) p all = by_bool (key_eq (key x) (key r)) _
      (λ t. rw t (p, replaced_all r rows p all.1))
      (λ t. rw t (all.0, replaced_all r rows p all.1))

  -- a row that is found is one of them
  pub found_has : (k : Key) (rows : List Row) (r : Row) → find_row k rows ≡ Some r → AllByRecursion P rows → P r
  found_has k [] r e all = absurd (let z = e in cc)
  found_has k (x ∷ rows) r e all = by_bool (key_eq (key x) k) _
      (λ t. let is : Some x ≡ Some r = rw t at e in let same : x ≡ r = (let z = is in cc) in subst P same all.0)
      (λ t. found_has k rows r (rw t at e) all.1)

  -- and each of them is found
  pub all_found : (rows : List Row) → Keyed rows → ((k : Key) (r : Row) → find_row k rows ≡ Some r → P r) → AllByRecursion P rows
  all_found [] keyed each = tt
  all_found (x ∷ rows) keyed each = (
    each (key x) x (rw (key_eq-same (key x)) refl),
    all_found rows keyed.1 (λ k r e. by_bool (key_eq (key x) k) _
        (λ t. absurd (let none : find_row k rows ≡ None = ap (λ k. find_row k rows) (sym (key_eq-true _ _ t)) ∙ keyed.0 in let no : None ≡ Some r = sym none ∙ e in cc))
        (λ t. each k r (rw t e))),
  )

-- ---- how deep a row lies

-- how many rows have a shorter path than this
abbrev shorter : ℕ → List Row → ℕ
shorter n [] = 0
shorter n (x ∷ rows) = cond (ltb (length x.path) n) 1 0 + shorter n rows

shorter_most : (n : ℕ) (rows : List Row) → shorter n rows ≤ length rows
shorter_most n [] = omega arith
shorter_most n (x ∷ rows) = by_bool (ltb (length x.path) n) _
    (λ t. rw t (omega (arith, shorter_most n rows)))
    (λ t. rw t (omega (arith, shorter_most n rows)))

one_up : (a n : ℕ) → cond (ltb a n) 1 0 ≤ cond (ltb a (suc n)) 1 0
one_up a n = by_bool (ltb a n) _
    (λ t. let u : ltb a (suc n) ≡ true = grind (arith, nat_tests) in rw (t, u) (omega arith))
    (λ t. rw t (omega arith))

shorter_up : (n : ℕ) (rows : List Row) → shorter n rows ≤ shorter (suc n) rows
shorter_up n [] = omega arith
shorter_up n (x ∷ rows) = omega (arith, one_up (length x.path) n, shorter_up n rows)

one_next : (n : ℕ) → cond (ltb n n) 1 0 + 1 ≤ cond (ltb n (suc n)) 1 0
one_next n =
    let t : ltb n n ≡ false = grind (arith, nat_tests) in
    let u : ltb n (suc n) ≡ true = grind (arith, nat_tests) in
    rw (t, u) (omega arith)

shorter_next : (k : Key) (rows : List Row) (r : Row) → find_row k rows ≡ Some r → shorter (length r.path) rows + 1 ≤ shorter (suc (length r.path)) rows
shorter_next k [] r e = absurd (let z = e in cc)
shorter_next k (x ∷ rows) r e = by_bool (key_eq (key x) k) _
    (λ t. let is : Some x ≡ Some r = rw t at e in
    let same : x ≡ r = (let z = is in cc) in
    subst (λ (r : Row). shorter (length r.path) (x ∷ rows) + 1 ≤ shorter (suc (length r.path)) (x ∷ rows)) same (omega (arith, one_next (length x.path), shorter_up (length x.path) rows)))
    (λ t. omega (arith, one_up (length x.path) (length r.path), shorter_next k rows r (rw t at e)))

-- the group right above a row that has one
above : (rows : List Row) (r : Row) (n : ℕ) → path_below (parent_of r) rows ≡ Some r.path → length r.path ≡ suc n
    → (k : Key) × (g : Row) × (find_row k rows ≡ Some g) × (length g.path ≡ n)
unfolding path_below
above rows r n e size =
    let name = parent_of r in
    let there : cond (is_root name) (Some []) (below_row (find_row (group_key name) rows)) ≡ Some r.path = e in
    by_bool (is_root name) _
    (λ t. absurd (let none : Some [] ≡ Some r.path = rw t at there in let same : [] ≡ r.path = (let z = none in cc) in omega (arith, size, ap length same)))
    (λ t. by (find_row (group_key name) rows) refl (rw t at there))
  where
    by : (o : Option Row) → find_row (group_key (parent_of r)) rows ≡ o → below_row o ≡ Some r.path → (k : Key) × (g : Row) × (find_row k rows ≡ Some g) × (length g.path ≡ n)
    by None found e = absurd (let z = e in cc)
    by (Some g) found e =
        let same : below g ≡ r.path = (let z = e in cc) in
        (group_key (parent_of r), g, found, omega (arith, size, ap length same, length-append g.path (g.item.name ∷ [])))

-- as many rows lie above a row as its path has names
deep : (rows : List Row) → IsRows rows → (n : ℕ) (k : Key) (r : Row) → find_row k rows ≡ Some r → length r.path ≡ n → n + 1 ≤ shorter (suc n) rows
deep rows held zero k r e size =
    let next = subst (λ n. shorter n rows + 1 ≤ shorter (suc n) rows) size (shorter_next k rows r e) in
    omega (arith, next)
deep rows held (suc n) k r e size =
    let g = above rows r n (held.held k r e).parent size in
    let next = subst (λ n. shorter n rows + 1 ≤ shorter (suc n) rows) size (shorter_next k rows r e) in
    omega (arith, next, deep rows held n g.0 g.1 g.2 g.3)

level_most : (g : Bool) (path : List (List ℕ)) → level_at g path ≤ length path + 1
level_most true path = omega arith
level_most false path = omega arith

-- no row lies deeper than a number of the protocol can tell
pub tellable : (next : ℕ) (rows : List Row) → AreRowsKept next rows → AreTellable rows
tellable next rows kept = record {
  held = kept.held;
  levels = all_found IsTellable rows kept.held.keyed (λ k r e.
      let few = kept.few in
      omega (arith, few, (kept.held.held k r e).level, level_most r.item.is_group r.path, deep rows kept.held (length r.path) k r e refl, shorter_most (suc (length r.path)) rows));
}

-- ---- rows within their limits

pub no_rows : IsRows []
no_rows = record { ascending = tt; keyed = tt; held = λ k r e. absurd (let h = e in cc) }

pub none_kept : (next : ℕ) → AreRowsKept next []
none_kept next = record { held = no_rows; each = tt; few = omega arith }

pub more_kept : (next more : ℕ) (rows : List Row) → next ≤ more → AreRowsKept next rows → AreRowsKept more rows
more_kept next more rows le kept = record {
  held = kept.held;
  each = all_more (IsRowKept next) (IsRowKept more) rows (λ r is. record { drawn = (let d = is.drawn in omega arith); cut = is.cut }) kept.each;
  few = kept.few;
}

text_of : (handle : Handle) (item : Item) → IsUtf8 item.name → TextsAreUtf8 (item_with handle item)
text_of handle item name = record { name = name; color = cut_utf8 item.color 64; prefix = cut_utf8 item.prefix 64; prefix_color = cut_utf8 item.prefix_color 64 }

-- a row comes
row_added : (next : ℕ) (g : Bool) (path : List (List ℕ)) (item : Item) → IsRowKept (next + 1) (row_under g path (item_with (record { 0 = next }) item))
row_added next g path item =
    let cut = item_cut (record { 0 = next }) item in
    record { drawn = omega arith; cut = record { color = cut.color; prefix = cut.prefix; prefix_color = cut.prefix_color } }

pub length-added : (g : Bool) (parent : List ℕ) (i : Item) (rows : List Row) → add_refusal g parent i.name rows ≡ None → length (add_row g parent i rows) ≡ length rows + 1
length-added g parent i rows e = by (path_below parent rows) (may_add g i.name rows parent e).parent
  where
    by : (o : Option (List (List ℕ))) → is_some o ≡ true → length (add_under g o i rows) ≡ length rows + 1
    by None t = absurd (false≢true t)
    by (Some path) t = length-insert_row (row_under g path i) rows

pub rows_added : (next : ℕ) (g : Bool) (parent : List ℕ) (item : Item) (rows : List Row) → add_refusal g parent item.name rows ≡ None → IsUtf8 item.name → length rows < row_limit → AreRowsKept next rows
    → AreRowsKept (next + 1) (add_row g parent (item_with (record { 0 = next }) item) rows)
rows_added next g parent item rows e utf8 room kept =
    let may = may_add g item.name rows parent e in
    let name = is_name g item.name may.named in
    let old = more_kept next (next + 1) rows (omega arith) kept in
    by (path_below parent rows) refl may.parent (λ path at. held-insert rows g parent path new kept.held at may.absent name.bounds name.no_root (text_of (record { 0 = next }) item utf8)) old.each
  where
    new : Item
    new = item_with (record { 0 = next }) item

    by : (o : Option (List (List ℕ))) → path_below parent rows ≡ o → is_some o ≡ true → ((path : List (List ℕ)) → path_below parent rows ≡ Some path → IsRows (insert_row (row_under g path new) rows))
        → AllByRecursion (IsRowKept (next + 1)) rows → AreRowsKept (next + 1) (add_under g o new rows)
    by None at t held each = absurd (false≢true t)
    by (Some path) at t held each = record {
      held = held path at;
      each = inserted_all (IsRowKept (next + 1)) (row_under g path new) rows (row_added next g path item) each;
      few = omega (arith, length-insert_row (row_under g path new) rows);
    }

-- a row goes
there : (o : Option Row) → is_some o ≡ true → (r : Row) × (o ≡ Some r)
there None t = absurd (false≢true t)
there (Some r) t = (r, refl)

pub length-removed : (g : Bool) (name : List ℕ) (rows : List Row) → remove_refusal g name rows ≡ None → IsRows rows → length (remove_row (key_at g name) rows) ≤ length rows
length-removed g name rows e held =
    let found = there (find_row (key_at g name) rows) (may_remove g name rows e).stands in
    omega (arith, length-remove_row (key_at g name) rows found.0 held.keyed found.1)

pub rows_removed : (next : ℕ) (g : Bool) (name : List ℕ) (rows : List Row) → remove_refusal g name rows ≡ None → AreRowsKept next rows → AreRowsKept next (remove_row (key_at g name) rows)
rows_removed next g name rows e kept =
    let may = may_remove g name rows e in
    let k = key_at g name in
    let found = there (find_row k rows) may.stands in
    let few = kept.few in
    record {
      held = held-remove rows k found.0 kept.held found.1
          (λ t. sym (ap (λ o. has_children o rows) found.1) ∙ may.childless (sym (ap (λ (k : Key). k.is_group) (find_key k rows found.0 found.1)) ∙ t));
      each = removed_all (IsRowKept next) k rows kept.each;
      few = omega (arith, few, length-removed g name rows e kept.held);
    }

-- a row is changed, and keeps its handle
pub rows_changed : (next : ℕ) (k : Key) (item : Item) (rows : List Row) → IsUtf8 item.name → AreRowsKept next rows → AreRowsKept next (change_row k (item_with (handle_in (find_row k rows)) item) rows)
rows_changed next k item rows utf8 kept = by (find_row k rows) refl
  where
    by : (o : Option Row) → find_row k rows ≡ o → AreRowsKept next (change_found o (item_with (handle_in o) item) rows)
    by None at = kept
    by (Some r) at =
        let new = item_with r.item.handle item in
        let cut = item_cut r.item.handle item in
        let few = kept.few in
        let own : IsRowKept next r = found_has (IsRowKept next) k rows r at kept.each in
        let size : length (change_row k new rows) ≡ length (replace_row (changed_row r new) rows) = ap (λ o. length (change_found o new rows)) at in
        record {
          held = held-change rows k r new kept.held at (text_of r.item.handle item utf8);
          each = replaced_all (IsRowKept next) (changed_row r new) rows (record { drawn = own.drawn; cut = record { color = cut.color; prefix = cut.prefix; prefix_color = cut.prefix_color } }) kept.each;
          few = omega (arith, few, size, length-change_row k new rows);
        }

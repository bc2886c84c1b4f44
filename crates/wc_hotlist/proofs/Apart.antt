-- No two rows have the same buffer, so that a row is found at the one place that it has.
use Rattle.std.proofs.Common.{◌≡◌, ℕ, zero, suc, ◌+◌, ◌<◌, ◌≤◌, ◌⊎◌, inl, inr, max, Bool, true, false, cond, not, ◌||◌, ◌==◌, List, [], ◌∷◌, ◌++◌, filter, map, length, get_or, set, take, drop, refl, sym, ap, subst, ◌∙◌, append-nil, append_assoc, arith}
use Rattle.std.specs.Prelude.{All, nat_lt, Option, Some, None}
use Rattle.std.specs.List.{list_any, remove, position, position_or_len}
use Rattle.std.proofs.lemmas.Bool.Decides.{nat_tests}
use Rattle.std.proofs.lemmas.Bool.{false≢true, eqb-true, or_parts, or_from, lt-ltb, ltb-true, ltb-false, cases_lt, cases_Bool, both_ways}
use Rattle.std.proofs.lemmas.List.Folds.{list_any_at}
use Rattle.std.proofs.lemmas.Option.{none-some}
use Rattle.wc_text.specs.declared.names.Handle.{Handle}
use Rattle.wc_hotlist.specs.declared.row.HotRow.{HotRow}
use Rattle.wc_hotlist.specs.Pairs.{HotPair}
use Rattle.wc_hotlist.specs.Rows.{levels_of, greatest, row_of, rows_of, has_row, is_row_of}
use Rattle.wc_hotlist.specs.Counted.{counted_row}
use Rattle.wc_hotlist.proofs.Handles.{same_handle, same_number}
use Rattle.wc_hotlist.proofs.Levels.{among, among_le}
use Rattle.wc_hotlist.proofs.Put.{put, others}
use Rattle.wc_hotlist.proofs.RowSteps.{is_filled, count_in, counts_line, puts_line}

abbrev pub AreApart : List HotRow → Type 0
AreApart [] = Unit {0}
AreApart (row ∷ rows) = (has_row row.buffer rows ≡ false) × AreApart rows

-- ---- rows that keep their buffers
module _ (F : HotRow → HotRow) (keeps : (row : HotRow) → (F row).buffer ≡ row.buffer) where
  has_map : (b : Handle) (rows : List HotRow) → has_row b (map F rows) ≡ has_row b rows
  has_map b [] = refl
  has_map b (row ∷ rows) = λ i. ((keeps row i).0 == b.0) || has_map b rows i

  apart_map : (rows : List HotRow) → AreApart rows → AreApart (map F rows)
  apart_map [] h = tt
  apart_map (row ∷ rows) h = (ap (λ b. has_row b (map F rows)) (keeps row) ∙ has_map row.buffer rows ∙ h.0, apart_map rows h.1)

-- ---- the rows of the others
has_others : (b d : Handle) (rows : List HotRow) → has_row d rows ≡ false → has_row d (others b rows) ≡ false
has_others b d [] e = refl
has_others b d (row ∷ rows) e = by (has_others b d rows) (or_parts (row.buffer.0 == d.0) (has_row d rows) e) (row.buffer.0 == b.0) refl where
  by : (has_row d rows ≡ false → has_row d (others b rows) ≡ false) → ((row.buffer.0 == d.0) ≡ false) × (has_row d rows ≡ false) → (t : Bool) → (row.buffer.0 == b.0) ≡ t → has_row d (others b (row ∷ rows)) ≡ false
  by ih parts true f = rw f (ih parts.1)
  by ih parts false f = rw f (rw parts.0 (ih parts.1))

none_of_it : (b : Handle) (rows : List HotRow) → has_row b (others b rows) ≡ false
none_of_it b [] = refl
none_of_it b (row ∷ rows) = by (none_of_it b rows) (row.buffer.0 == b.0) refl where
  by : has_row b (others b rows) ≡ false → (t : Bool) → (row.buffer.0 == b.0) ≡ t → has_row b (others b (row ∷ rows)) ≡ false
  by ih true f = rw f ih
  by ih false f = rw f (rw f ih)

pub all_others : (b : Handle) (rows : List HotRow) → has_row b rows ≡ false → others b rows ≡ rows
all_others b [] e = refl
all_others b (row ∷ rows) e =
    let parts = or_parts (row.buffer.0 == b.0) (has_row b rows) e in
    rw parts.0 (ap (λ rest. row ∷ rest) (all_others b rows parts.1))

apart_others : (b : Handle) (rows : List HotRow) → AreApart rows → AreApart (others b rows)
apart_others b [] h = tt
apart_others b (row ∷ rows) h = by (apart_others b rows h.1) (row.buffer.0 == b.0) refl where
  by : AreApart (others b rows) → (t : Bool) → (row.buffer.0 == b.0) ≡ t → AreApart (others b (row ∷ rows))
  by ih true f = rw f ih
  by ih false f = rw f (has_others b row.buffer rows h.0, ih)

-- ---- a row that is put among them
has_put : (d : Handle) (row : HotRow) (rows : List HotRow) → (row.buffer.0 == d.0) ≡ false → has_row d rows ≡ false → has_row d (put row rows) ≡ false
has_put d row [] e f = rw e refl
has_put d row (other ∷ rows) e f = by (has_put d row rows e) (or_parts (other.buffer.0 == d.0) (has_row d rows) f) (nat_lt other.priority row.priority) refl where
  by : (has_row d rows ≡ false → has_row d (put row rows) ≡ false) → ((other.buffer.0 == d.0) ≡ false) × (has_row d rows ≡ false) → (t : Bool) → nat_lt other.priority row.priority ≡ t → has_row d (put row (other ∷ rows)) ≡ false
  by ih parts true t = rw t (rw e f)
  by ih parts false t = rw t (rw parts.0 (ih parts.1))

apart_put : (row : HotRow) (rows : List HotRow) → has_row row.buffer rows ≡ false → AreApart rows → AreApart (put row rows)
apart_put row [] e h = (refl, tt)
apart_put row (other ∷ rows) e h = by (apart_put row rows) (or_parts (other.buffer.0 == row.buffer.0) (has_row row.buffer rows) e) (nat_lt other.priority row.priority) refl where
  by : (has_row row.buffer rows ≡ false → AreApart rows → AreApart (put row rows)) → ((other.buffer.0 == row.buffer.0) ≡ false) × (has_row row.buffer rows ≡ false) → (t : Bool) → nat_lt other.priority row.priority ≡ t → AreApart (put row (other ∷ rows))
  by ih parts true t = rw t (e, h)
  by ih parts false t = rw t (has_put other.buffer row rows (same_number row.buffer.0 other.buffer.0 ∙ parts.0) h.0, ih parts.1 h.1)

-- ---- the rows of pairs
keeps_buffer : (pairs : List HotPair) (pair : HotPair) (low : pair.level < 4) (row : HotRow) → (count_in pairs pair low row).buffer ≡ row.buffer
keeps_buffer pairs pair low row = by (row.buffer.0 == pair.buffer.0) where
  by : (t : Bool) → (cond t (counted_row pair.level row) row).buffer ≡ row.buffer
  by true = refl
  by false = refl

filled_by_greatest : (levels : List ℕ) (n : ℕ) → n < greatest levels → is_filled levels ≡ true
filled_by_greatest [] n h = absurd (omega arith)
filled_by_greatest (level ∷ levels) n h = refl

filled_by_one : (levels : List ℕ) (n : ℕ) → among n levels ≡ true → is_filled levels ≡ true
filled_by_one [] n e = absurd (false≢true e)
filled_by_one (level ∷ levels) n e = refl

module _ (pairs : List HotPair) (pair : HotPair) (low : pair.level < 4) (h : AreApart (rows_of pairs)) where
  abbrev levels : List ℕ
  levels = levels_of pair.buffer pairs

  counts : is_filled levels ≡ true → pair.level ≤ greatest levels → AreApart (rows_of (pairs ++ pair ∷ []))
  counts filled within = subst AreApart (sym (counts_line pairs pair low filled within)) (apart_map (count_in pairs pair low) (keeps_buffer pairs pair low) (rows_of pairs) h)

  apart_by : (pair.level < greatest levels) ⊎ (greatest levels ≤ pair.level) → (among pair.level levels ≡ true) ⊎ (among pair.level levels ≡ false) → AreApart (rows_of (pairs ++ pair ∷ []))
  apart_by (inl lower) one = counts (filled_by_greatest levels pair.level lower) (omega arith)
  apart_by (inr higher) (inl one) = counts (filled_by_one levels pair.level one) (among_le pair.level levels one)
  apart_by (inr higher) (inr none) =
      subst AreApart (sym (puts_line pairs pair low none (omega arith)))
      (apart_put (row_of (pairs ++ pair ∷ []) pair.buffer) (others pair.buffer (rows_of pairs)) (none_of_it pair.buffer (rows_of pairs)) (apart_others pair.buffer (rows_of pairs) h))

  apart_next : AreApart (rows_of (pairs ++ pair ∷ []))
  apart_next = apart_by (cases_lt pair.level (greatest levels)) (cases_Bool (among pair.level levels))

apart_from : (pairs more : List HotPair) → All (λ (pair : HotPair). pair.level < 4) more → AreApart (rows_of pairs) → AreApart (rows_of (pairs ++ more))
apart_from pairs [] all h = subst (λ ps. AreApart (rows_of ps)) (sym (append-nil pairs)) h
apart_from pairs (pair ∷ more) all h =
    subst (λ ps. AreApart (rows_of ps)) (append_assoc pairs (pair ∷ []) more)
    (apart_from (pairs ++ pair ∷ []) more (λ k d inside. all (suc k) d (omega arith)) (apart_next pairs pair (all 0 pair (omega arith)) h))

none_apart : AreApart (rows_of [])
unfolding rows_of
none_apart = tt

pub rows_apart : (pairs : List HotPair) → All (λ (pair : HotPair). pair.level < 4) pairs → AreApart (rows_of pairs)
rows_apart pairs all = apart_from [] pairs all none_apart

-- ---- a row at its place
has_place : {X : Type 0} (p : X → Bool) (xs : List X) → list_any p xs ≡ nat_lt (position_or_len p xs) (length xs)
has_place p [] = refl
has_place p (x ∷ xs) = by (has_place p xs) (p x) refl where
  by : list_any p xs ≡ nat_lt (position_or_len p xs) (length xs) → (t : Bool) → p x ≡ t → list_any p (x ∷ xs) ≡ nat_lt (position_or_len p (x ∷ xs)) (length (x ∷ xs))
  by ih true e = let some : nat_lt 0 (suc (length xs)) ≡ true = grind (arith, nat_tests) in rw e (sym some)
  by ih false e =
      let same : nat_lt (position_or_len p xs) (length xs) ≡ nat_lt (1 + position_or_len p xs) (suc (length xs)) = grind (arith, nat_tests) in
      rw e (ih ∙ same)

none_by : (t : Bool) (n : ℕ) → cond t (Some n) None ≡ None → t ≡ false
none_by true n e = absurd (none-some n (sym e))
none_by false n e = refl

pub none_found : (b : Handle) (rows : List HotRow) → position (is_row_of b) rows ≡ None → has_row b rows ≡ false
none_found b rows e = has_place (is_row_of b) rows ∙ none_by _ (position_or_len (is_row_of b) rows) e

map_absent : (f : HotRow → HotRow) (b : Handle) (rows : List HotRow) → has_row b rows ≡ false → map (λ (row : HotRow). cond (row.buffer.0 == b.0) (f row) row) rows ≡ rows
map_absent f b [] e = refl
map_absent f b (row ∷ rows) e =
    let parts = or_parts (row.buffer.0 == b.0) (has_row b rows) e in
    rw parts.0 (ap (λ rest. row ∷ rest) (map_absent f b rows parts.1))

-- the first row is another where the buffer has a row after it
is_other : (b : Handle) (row : HotRow) (rows : List HotRow) (i : ℕ) (d : HotRow) → has_row row.buffer rows ≡ false → i < length rows → is_row_of b (get_or rows i d) ≡ true → (row.buffer.0 == b.0) ≡ false
is_other b row rows i d apart inside at = by (cases_Bool (row.buffer.0 == b.0)) where
  by : ((row.buffer.0 == b.0) ≡ true) ⊎ ((row.buffer.0 == b.0) ≡ false) → (row.buffer.0 == b.0) ≡ false
  by (inl e) = absurd (false≢true (sym apart ∙ ap (λ h. has_row h rows) (same_handle row.buffer b e) ∙ list_any_at (is_row_of b) rows i d inside at))
  by (inr e) = e

absent : (b : Handle) (row : HotRow) (rows : List HotRow) → has_row row.buffer rows ≡ false → (row.buffer.0 == b.0) ≡ true → has_row b rows ≡ false
absent b row rows apart at = ap (λ h. has_row h rows) (sym (same_handle row.buffer b at)) ∙ apart

pub set_at_place : (f : HotRow → HotRow) (b : Handle) (rows : List HotRow) (i : ℕ) (d : HotRow) → AreApart rows → i < length rows → is_row_of b (get_or rows i d) ≡ true
    → set rows i (f (get_or rows i d)) ≡ map (λ (row : HotRow). cond (row.buffer.0 == b.0) (f row) row) rows
set_at_place f b [] i d apart inside at = absurd (omega arith)
set_at_place f b (row ∷ rows) zero d apart inside at = rw at (ap (λ rest. f row ∷ rest) (sym (map_absent f b rows (absent b row rows apart.0 at))))
set_at_place f b (row ∷ rows) (suc i) d apart inside at =
    rw (is_other b row rows i d apart.0 (omega arith) at) (ap (λ rest. row ∷ rest) (set_at_place f b rows i d apart.1 (omega arith) at))

pub remove_at_place : (b : Handle) (rows : List HotRow) (i : ℕ) (d : HotRow) → AreApart rows → i < length rows → is_row_of b (get_or rows i d) ≡ true → remove rows i ≡ others b rows
remove_at_place b [] i d apart inside at = absurd (omega arith)
remove_at_place b (row ∷ rows) zero d apart inside at = rw at (sym (all_others b rows (absent b row rows apart.0 at)))
remove_at_place b (row ∷ rows) (suc i) d apart inside at =
    rw (is_other b row rows i d apart.0 (omega arith) at) (ap (λ rest. row ∷ rest) (remove_at_place b rows i d apart.1 (omega arith) at))

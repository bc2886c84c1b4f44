-- What the rows mean is kept by each call.
use Rattle.std.proofs.Common.{◌≡◌, ℕ, zero, suc, ◌+◌, ◌<◌, ◌≤◌, ◌≤ℤ◌, ℤ, pos, negsuc, ◌⊎◌, inl, inr, max, Bool, true, false, cond, ◌||◌, ◌==◌, List, [], ◌∷◌, ◌++◌, map, length, get_or, set, Option, Some, None, refl, sym, ap, subst, ◌∙◌, arith}
use Rattle.std.specs.Prelude.{All, IsTrue, not}
use Rattle.std.specs.List.{remove, list_any, flat_map}
use Rattle.std.proofs.lemmas.Bool.{false≢true, cases_Bool, both_ways}
use Rattle.std.proofs.lemmas.Option.{none-some}
use Rattle.std.proofs.lemmas.List.Elements.{All-append, All-filter, All-map}
use Rattle.std.proofs.lemmas.List.Folds.{list_any_at}
use Rattle.std.proofs.lemmas.List.Quantifiers.{position-Some}
use Rattle.wc_text.specs.declared.names.Handle.{Handle}
use Rattle.wc_hotlist.specs.declared.row.HotRow.{HotRow}
use Rattle.wc_hotlist.specs.Pairs.{HotPair, is_of, pairs_with, pairs_without}
use Rattle.wc_hotlist.specs.Rows.{levels_of, greatest, count_of, priority_of, row_of, buffers_at, rows_at, rows_of, has_row, is_row_of}
use Rattle.wc_hotlist.specs.Means.{Means}
use Rattle.wc_hotlist.specs.Counted.{place_of, put_row, counted_row, raised_row, first_row}
use Rattle.wc_hotlist.proofs.Handles.{same_handle}
use Rattle.wc_hotlist.proofs.Levels.{among, among_le}
use Rattle.wc_hotlist.proofs.Put.{put, put_is, others}
use Rattle.wc_hotlist.proofs.RowSteps.{is_filled, rows_down, rows_are, has_by_levels, counts_line, puts_line, new_row, takes_out}
use Rattle.wc_hotlist.proofs.Apart.{AreApart, rows_apart, none_found, all_others, set_at_place, remove_at_place}

abbrev IsLow : HotPair → Type 0
IsLow pair = pair.level < 4

pub none_means : Means [] []
unfolding rows_of
none_means = record { rows_are = refl; levels = λ k d inside. absurd (omega arith) }

-- ---- each row is the one of its buffer
abbrev IsOwn : List HotPair → HotRow → Type 0
IsOwn pairs row = row ≡ row_of pairs row.buffer

own_down : (pairs : List HotPair) (n : ℕ) → All (IsOwn pairs) (rows_down pairs n)
own_down pairs zero = λ k d inside. absurd (omega arith)
own_down pairs (suc n) = All-append (IsOwn pairs) (rows_at pairs n) (rows_down pairs n) (All-map (IsOwn pairs) (row_of pairs) (buffers_at n pairs) (λ k d inside. refl)) (own_down pairs n)

abbrev with_one : List HotPair → Handle → ℕ → List HotPair
with_one pairs b l = pairs ++ record { buffer = b; level = l } ∷ []

low_with : (pairs : List HotPair) (b : Handle) (l : ℕ) → All IsLow pairs → l < 4 → All IsLow (with_one pairs b l)
low_with pairs b l all low = All-append IsLow pairs (record { buffer = b; level = l } ∷ []) all one where
  one : All IsLow (record { buffer = b; level = l } ∷ [])
  one zero d inside = low
  one (suc k) d inside = absurd (omega arith)

-- ---- a line on a buffer without a row
no_levels : (levels : List ℕ) → is_filled levels ≡ false → levels ≡ []
no_levels [] e = refl
no_levels (level ∷ levels) e = absurd (false≢true (sym e))

first_is : (pairs : List HotPair) (b : Handle) (l : ℕ) → l < 4 → levels_of b pairs ≡ [] → row_of (with_one pairs b l) b ≡ first_row b l
first_is pairs b l low none =
    new_row pairs (record { buffer = b; level = l }) low
    ∙ ap (λ levels. counted_row l (record { buffer = b; priority = max (greatest levels) l; counts = map (count_of levels) (0 ∷ 1 ∷ 2 ∷ 3 ∷ []) })) none
    ∙ ap (λ n. counted_row l (record { buffer = b; priority = n; counts = 0 ∷ 0 ∷ 0 ∷ 0 ∷ [] })) (let top : max 0 l ≡ l = omega arith in top)

pub first_means : (rows : List HotRow) (pairs : List HotPair) (b : Handle) (l : ℕ) → Means rows pairs → l < 4 → place_of b rows ≡ None → Means (put_row (first_row b l) rows) (with_one pairs b l)
first_means rows pairs b l means low e =
    let pair : HotPair = record { buffer = b; level = l } in
    let lacks : has_row b rows ≡ false = none_found b rows e in
    let none : levels_of b pairs ≡ [] = no_levels (levels_of b pairs) (sym (has_by_levels b pairs means.levels) ∙ ap (has_row b) (sym means.rows_are) ∙ lacks) in
    let fresh : among l (levels_of b pairs) ≡ false = ap (among l) none in
    let above : max (greatest (levels_of b pairs)) l ≡ l = omega (arith, ap greatest none) in
    record {
      rows_are =
          put_is (first_row b l) rows
          ∙ ap (λ row. put row rows) (sym (first_is pairs b l low none))
          ∙ ap (put (row_of (with_one pairs b l) b)) (sym (all_others b rows lacks) ∙ ap (others b) means.rows_are)
          ∙ sym (puts_line pairs pair low fresh above);
      levels = low_with pairs b l means.levels low;
    }

-- ---- a line on a buffer with a row
module _ (rows : List HotRow) (pairs : List HotPair) (b : Handle) (l place : ℕ) (row : HotRow) (means : Means rows pairs) (low : l < 4) (found : Some place ≡ place_of b rows) (at : row ≡ get_or rows place row) where
  inside : place < length rows
  inside = (position-Some (is_row_of b) rows place row (sym found)).0

  its : is_row_of b (get_or rows place row) ≡ true
  its = (position-Some (is_row_of b) rows place row (sym found)).1

  own : row ≡ row_of pairs b
  own =
      at
      ∙ ap (λ those. get_or those place row) (means.rows_are ∙ rows_are pairs)
      ∙ own_down pairs 4 place row (subst (λ those. place < length those) (means.rows_are ∙ rows_are pairs) inside)
      ∙ ap (λ those. row_of pairs (get_or those place row).buffer) (sym (means.rows_are ∙ rows_are pairs))
      ∙ ap (row_of pairs) (same_handle (get_or rows place row).buffer b its)

  filled : is_filled (levels_of b pairs) ≡ true
  filled = sym (has_by_levels b pairs means.levels) ∙ ap (has_row b) (sym means.rows_are) ∙ list_any_at (is_row_of b) rows place row inside its

  pub counted_means : l ≤ row.priority → Means (set rows place (counted_row l row)) (with_one pairs b l)
  counted_means within = record {
    rows_are =
        ap (λ r. set rows place (counted_row l r)) at
        ∙ set_at_place (counted_row l) b rows place row (subst AreApart (sym means.rows_are) (rows_apart pairs means.levels)) inside its
        ∙ ap (map (λ (r : HotRow). cond (r.buffer.0 == b.0) (counted_row l r) r)) means.rows_are
        ∙ sym (counts_line pairs (record { buffer = b; level = l }) low filled (subst (λ (r : HotRow). l ≤ r.priority) own within));
    levels = low_with pairs b l means.levels low;
  }

  not_among : row.priority < l → among l (levels_of b pairs) ≡ false
  not_among higher = by (cases_Bool (among l (levels_of b pairs))) where
    by : (among l (levels_of b pairs) ≡ true) ⊎ (among l (levels_of b pairs) ≡ false) → among l (levels_of b pairs) ≡ false
    by (inl e) = absurd (omega (arith, among_le l (levels_of b pairs) e, ap (λ (r : HotRow). r.priority) own))
    by (inr e) = e

  pub raised_means : row.priority < l → Means (put_row (raised_row l row) (remove rows place)) (with_one pairs b l)
  raised_means higher =
      let pair : HotPair = record { buffer = b; level = l } in
      let above : max (greatest (levels_of b pairs)) l ≡ l = omega (arith, ap (λ (r : HotRow). r.priority) own) in
      let new : row_of (with_one pairs b l) b ≡ raised_row l row =
      new_row pairs pair low ∙ (λ i. counted_row l (record { buffer = b; priority = above i; counts = map (count_of (levels_of b pairs)) (0 ∷ 1 ∷ 2 ∷ 3 ∷ []) })) ∙ ap (raised_row l) (sym own) in
      record {
        rows_are =
            put_is (raised_row l row) (remove rows place)
            ∙ ap (λ r. put r (remove rows place)) (sym new)
            ∙ ap (put (row_of (with_one pairs b l) b)) (remove_at_place b rows place row (subst AreApart (sym means.rows_are) (rows_apart pairs means.levels)) inside its ∙ ap (others b) means.rows_are)
            ∙ sym (puts_line pairs pair low (not_among higher) above);
        levels = low_with pairs b l means.levels low;
      }

-- ---- a buffer taken out
pub taken_means : (rows : List HotRow) (pairs : List HotPair) (b : Handle) (place : ℕ) → Means rows pairs → Some place ≡ place_of b rows → Means (remove rows place) (pairs_without b pairs)
taken_means [] pairs b place means found = absurd (none-some place (sym found))
taken_means (row ∷ rows) pairs b place means found =
    let at = position-Some (is_row_of b) (row ∷ rows) place row (sym found) in
    record {
      rows_are =
          remove_at_place b (row ∷ rows) place row (subst AreApart (sym means.rows_are) (rows_apart pairs means.levels)) at.0 at.1
          ∙ ap (others b) means.rows_are ∙ sym (takes_out b pairs);
      levels = All-filter (λ (pair : HotPair). not (is_of b pair)) IsLow pairs means.levels;
    }

pub absent_means : (rows : List HotRow) (pairs : List HotPair) (b : Handle) → Means rows pairs → place_of b rows ≡ None → Means rows (pairs_without b pairs)
absent_means rows pairs b means e = record {
  rows_are = sym (all_others b rows (none_found b rows e)) ∙ ap (others b) means.rows_are ∙ sym (takes_out b pairs);
  levels = All-filter (λ (pair : HotPair). not (is_of b pair)) IsLow pairs means.levels;
}

-- ---- a line on a buffer without a row finds room
pub is_room : (rows : List HotRow) (b : Handle) (n : ℕ) → IsTrue (has_row b rows) ⊎ (n < 256) → place_of b rows ≡ None → n < 256
is_room rows b n (inl has) e = absurd (both_ways (has_row b rows) (none_found b rows e) has)
is_room rows b n (inr room) e = room

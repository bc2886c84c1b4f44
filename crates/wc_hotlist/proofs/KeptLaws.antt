-- What the rows mean after a line was printed, or a buffer was taken out.
use Rattle.std.proofs.Common.{◌≡◌, ℕ, zero, suc, ◌+◌, ◌<◌, ◌≤◌, ◌≤ℤ◌, ℤ, pos, negsuc, ◌⊎◌, Bool, true, false, cond, List, [], ◌∷◌, ◌++◌, length, get_or, set, Option, Some, None, refl, sym, ap, subst, ◌∙◌, arith}
use lib.Dec.{leb→le}
use Rattle.std.specs.Prelude.{IsTrue, nat_lt, nat_le}
use Rattle.std.specs.List.{remove}
use Rattle.std.proofs.lemmas.Bool.Decides.{nat_tests}
use Rattle.std.proofs.lemmas.List.Quantifiers.{position-Some}
use Rattle.wc_text.specs.declared.names.Handle.{Handle}
use Rattle.wc_hotlist.specs.declared.row.HotRow.{HotRow}
use Rattle.wc_hotlist.specs.Pairs.{HotPair, pairs_with, pairs_without}
use Rattle.wc_hotlist.specs.Rows.{has_row, is_row_of}
use Rattle.wc_hotlist.specs.Means.{Means}
use Rattle.wc_hotlist.specs.Counted.{place_of, put_row, counted_row, raised_row, first_row}
use Rattle.wc_hotlist.specs.Kept.{rows_raised, rows_counted, rows_with, rows_removed, rows_without}
use Rattle.wc_hotlist.proofs.MeansLaws.{first_means, counted_means, raised_means, taken_means, absent_means, is_room}

abbrev with_one : List HotPair → Handle → ℕ → List HotPair
with_one pairs b l = pairs ++ record { buffer = b; level = l } ∷ []

at_itself : {X : Type 0} (xs : List X) (i : ℕ) (d : X) → i < length xs → get_or xs i d ≡ get_or xs i (get_or xs i d)
at_itself [] i d inside = absurd (omega arith)
at_itself (x ∷ xs) zero d inside = refl
at_itself (x ∷ xs) (suc i) d inside = at_itself xs i d (omega arith)

raises : (rows : List HotRow) (pairs : List HotPair) (b : Handle) (l place : ℕ) (row : HotRow) → Means rows pairs → l < 4 → Some place ≡ place_of b rows → row ≡ get_or rows place row → Means (rows_raised l rows place row) (with_one pairs b l)
raises rows pairs b l place row means low found at = by (nat_le l row.priority) refl where
  by : (t : Bool) → nat_le l row.priority ≡ t → Means (cond t (set rows place (counted_row l row)) (put_row (raised_row l row) (remove rows place))) (with_one pairs b l)
  by true e = counted_means rows pairs b l place row means low found at (grind (arith, nat_tests))
  by false e = raised_means rows pairs b l place row means low found at (grind (arith, nat_tests))

counts : (rows : List HotRow) (pairs : List HotPair) (b : Handle) (l : ℕ) → Means rows pairs → l < 4 → IsTrue (has_row b rows) ⊎ (length rows < 256) → (o : Option ℕ) → o ≡ place_of b rows → Means (rows_counted b l rows o) (with_one pairs b l)
counts rows pairs b l means low room None e = by (nat_lt (length rows) 256) refl where
  few : length rows < 256
  few = is_room rows b (length rows) room (sym e)

  by : (t : Bool) → nat_lt (length rows) 256 ≡ t → Means (cond t (put_row (first_row b l) rows) rows) (with_one pairs b l)
  by true f = first_means rows pairs b l means low (sym e)
  by false f = absurd (let full : 256 < length rows + 1 = grind (arith, nat_tests) in omega (arith, few, full))
counts rows pairs b l means low room (Some place) e =
    let at = position-Some (is_row_of b) rows place (first_row b l) (sym e) in
    raises rows pairs b l place (get_or rows place (first_row b l)) means low e (at_itself rows place (first_row b l) at.0)

pub line_means : (rows : List HotRow) (pairs : List HotPair) (b : Handle) (notify : ℤ) (displayed : Bool) → IsTrue (has_row b rows) ⊎ (length rows < 256) → notify ≤ℤ pos 3 → Means rows pairs → Means (rows_with rows b notify displayed) (pairs_with pairs b notify displayed)
unfolding rows_with
line_means rows pairs b notify false room most means = means
line_means rows pairs b (negsuc n) true room most means = means
line_means rows pairs b (pos l) true room most means = by (nat_lt l 4) refl where
  by : (t : Bool) → nat_lt l 4 ≡ t → Means (cond t (rows_counted b l rows (place_of b rows)) rows) (with_one pairs b l)
  by true e = counts rows pairs b l means (grind (arith, nat_tests)) room (place_of b rows) refl
  by false e = absurd (let low : l ≤ 3 = leb→le l 3 most.le in let high : 3 < l = grind (arith, nat_tests) in omega (arith, low, high))

-- the same where it is known by parts
pub line_keeps : (old inside new : List HotRow) (b : Handle) (notify : ℤ) (displayed : Bool) → inside ≡ old → new ≡ rows_with inside b notify true → displayed ≡ true → IsTrue (has_row b old) ⊎ (length old < 256) → notify ≤ℤ pos 3 → (pairs : List HotPair) → Means old pairs → Means new (pairs_with pairs b notify displayed)
line_keeps old inside new b notify displayed same is on room most pairs means =
    let e : new ≡ rows_with old b notify displayed = is ∙ ap (λ rows. rows_with rows b notify true) same ∙ ap (rows_with old b notify) (sym on) in
    subst (λ rows. Means rows (pairs_with pairs b notify displayed)) (sym e) (line_means old pairs b notify displayed room most means)

pub without_means : (rows : List HotRow) (pairs : List HotPair) (b : Handle) → Means rows pairs → Means (rows_without b rows) (pairs_without b pairs)
unfolding rows_without
without_means rows pairs b means = by (place_of b rows) refl where
  by : (o : Option ℕ) → o ≡ place_of b rows → Means (rows_removed rows o) (pairs_without b pairs)
  by None e = absent_means rows pairs b means (sym e)
  by (Some place) e = taken_means rows pairs b place means e

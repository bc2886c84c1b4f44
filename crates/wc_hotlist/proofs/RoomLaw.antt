-- There is room for a line where no more than 256 buffers are there.
use Rattle.std.proofs.Common.{◌≡◌, ℕ, suc, ◌<◌, ◌≤◌, ◌⊎◌, inl, inr, Bool, true, false, not, ◌||◌, ◌==◌, List, [], ◌∷◌, filter, length, refl, sym, ap, ◌∙◌, arith}
use Rattle.std.specs.Prelude.{All, IsTrue}
use Rattle.std.proofs.lemmas.Bool.{false≢true, eq-eqb, or_right, or_parts, cases_Bool}
use Rattle.std.proofs.lemmas.List.Sums.{length-filter, count_by-le-length}
use Rattle.wc_text.specs.declared.names.Handle.{Handle}
use Rattle.wc_hotlist.specs.declared.row.HotRow.{HotRow}
use Rattle.wc_hotlist.specs.Pairs.{HotPair, is_of}
use Rattle.wc_hotlist.specs.Rows.{levels_of, rows_of, has_row, is_row_of}
use Rattle.wc_hotlist.specs.Means.{Means}
use Rattle.wc_hotlist.proofs.Handles.{has, without, without_other, same_handle, same_number}
use Rattle.wc_hotlist.proofs.RowSteps.{is_filled, has_by_levels}
use Rattle.wc_hotlist.proofs.Apart.{AreApart, rows_apart}

-- the buffers of the rows are among these
abbrev AreIn : List Handle → List HotRow → Type 0
AreIn there [] = Unit {0}
AreIn there (row ∷ rows) = (has row.buffer there ≡ true) × AreIn there rows

fewer : (h : Handle) (there : List Handle) → length (without h there) ≤ length there
fewer h there = omega (arith, length-filter (λ (g : Handle). not (g.0 == h.0)) there, count_by-le-length (λ (g : Handle). not (g.0 == h.0)) there)

one_fewer : (h : Handle) (there : List Handle) → has h there ≡ true → length (without h there) < length there
one_fewer h [] e = absurd (false≢true e)
one_fewer h (g ∷ there) e = by (one_fewer h there) (g.0 == h.0) refl e where
  by : (has h there ≡ true → length (without h there) < length there) → (t : Bool) → (g.0 == h.0) ≡ t → (t || has h there) ≡ true → length (without h (g ∷ there)) < length (g ∷ there)
  by ih true f e = rw f (omega (arith, fewer h there))
  by ih false f e = rw f (omega (arith, ih e))

in_others : (h : Handle) (there : List Handle) (rows : List HotRow) → has_row h rows ≡ false → AreIn there rows → AreIn (without h there) rows
in_others h there [] e all = tt
in_others h there (row ∷ rows) e all =
    let parts = or_parts (row.buffer.0 == h.0) (has_row h rows) e in
    (without_other row.buffer h there (same_number h.0 row.buffer.0 ∙ parts.0) ∙ all.0, in_others h there rows parts.1 all.1)

no_more : (rows : List HotRow) (there : List Handle) → AreApart rows → AreIn there rows → length rows ≤ length there
no_more [] there apart all = omega arith
no_more (row ∷ rows) there apart all =
    omega (arith, no_more rows (without row.buffer there) apart.1 (in_others row.buffer there rows apart.0 all.1), one_fewer row.buffer there all.0)

in_by : (rows : List HotRow) (there : List Handle) → ((h : Handle) → has_row h rows ≡ true → has h there ≡ true) → AreIn there rows
in_by [] there says = tt
in_by (row ∷ rows) there says =
    let own : has_row row.buffer (row ∷ rows) ≡ true = rw (eq-eqb row.buffer.0 row.buffer.0 refl) refl in
    (says row.buffer own, in_by rows there (λ h e. says h (or_right (row.buffer.0 == h.0) (has_row h rows) e)))

abbrev IsThere : List Handle → HotPair → Type 0
IsThere there pair = has pair.buffer there ≡ true

named : (h : Handle) (pairs : List HotPair) (there : List Handle) → All (IsThere there) pairs → is_filled (levels_of h pairs) ≡ true → has h there ≡ true
named h [] there all e = absurd (false≢true e)
named h (pair ∷ pairs) there all e = by (named h pairs there (λ k d inside. all (suc k) d (omega arith))) (all 0 pair (omega arith)) (cases_Bool (is_of h pair)) where
  by : (is_filled (levels_of h pairs) ≡ true → has h there ≡ true) → has pair.buffer there ≡ true → (is_of h pair ≡ true) ⊎ (is_of h pair ≡ false) → has h there ≡ true
  by ih first (inl f) = ap (λ g. has g there) (sym (same_handle pair.buffer h f)) ∙ first
  by ih first (inr f) = ih (sym (levels_at f) ∙ e) where
    levels_at : is_of h pair ≡ false → is_filled (levels_of h (pair ∷ pairs)) ≡ is_filled (levels_of h pairs)
    levels_at f = rw f refl

-- where each buffer that had a line is there, and so is this one, `Hotlist::line` counts it
pub is_room_for : (rows : List HotRow) (pairs : List HotPair) (there : List Handle) (buffer : Handle) → Means rows pairs → All (IsThere there) pairs → has buffer there ≡ true → length there ≤ 256
    → IsTrue (has_row buffer rows) ⊎ (length rows < 256)
is_room_for rows pairs there buffer means all here most = by (cases_Bool (has_row buffer rows)) where
  says : (h : Handle) → has_row h rows ≡ true → has h there ≡ true
  says h e = named h pairs there all (sym (has_by_levels h pairs means.levels) ∙ ap (has_row h) (sym means.rows_are) ∙ e)

  apart : AreApart rows
  apart = rw means.rows_are (rows_apart pairs means.levels)

  by : (has_row buffer rows ≡ true) ⊎ (has_row buffer rows ≡ false) → IsTrue (has_row buffer rows) ⊎ (length rows < 256)
  by (inl e) = inl e
  by (inr e) = inr (omega (arith, no_more rows (without buffer there) apart (in_others buffer there rows e (in_by rows there says)), one_fewer buffer there here))

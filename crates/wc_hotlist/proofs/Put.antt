-- Where a row is put among others, and what rows at a level have.
use Rattle.std.proofs.Common.{◌≡◌, ℕ, zero, suc, ◌+◌, ◌-◌, ◌<◌, ◌≤◌, Bool, true, false, cond, not, ◌&&◌, ◌||◌, ◌==◌, List, [], ◌∷◌, ◌++◌, filter, map, length, refl, sym, ap, ◌∙◌, append-nil, append_assoc, arith}
use Rattle.std.specs.Prelude.{nat_lt, Some, None}
use Rattle.std.specs.Option.{unwrap_or}
use Rattle.std.proofs.lemmas.List.Sums.{prefix_len-le-length}
use Rattle.std.specs.List.{list_any, insert, position_or_len}
use Rattle.std.proofs.lemmas.Bool.Decides.{nat_tests}
use Rattle.std.proofs.lemmas.Bool.{lt-ltb, le-ltb}
use Rattle.wc_text.specs.declared.names.Handle.{Handle}
use Rattle.wc_hotlist.specs.declared.row.HotRow.{HotRow}
use Rattle.wc_hotlist.specs.Rows.{is_row_of, has_row}
use Rattle.wc_hotlist.specs.Counted.{lower_place, put_row}
use Rattle.wc_hotlist.proofs.Handles.{has, without}

-- ---- a row before those of a lower priority
abbrev pub put : HotRow → List HotRow → List HotRow
put row [] = row ∷ []
put row (other ∷ rows) = cond (nat_lt other.priority row.priority) (row ∷ other ∷ rows) (other ∷ put row rows)

abbrev is_lower : HotRow → HotRow → Bool
is_lower row other = nat_lt other.priority row.priority

or_end_by : (t : Bool) (n m : ℕ) → (t ≡ false → n ≡ m) → unwrap_or (cond t (Some n) None) m ≡ n
or_end_by true n m h = refl
or_end_by false n m h = sym (h refl)

or_end : (row : HotRow) (rows : List HotRow) → unwrap_or (lower_place row.priority rows) (length rows) ≡ position_or_len (is_lower row) rows
or_end row rows =
    let n = position_or_len (is_lower row) rows in
    let inside = prefix_len-le-length (λ other. not (is_lower row other)) rows in
    or_end_by (nat_lt n (length rows)) n (length rows) (λ e. grind (arith, nat_tests))

put_by : (row : HotRow) (rows : List HotRow) → insert rows (position_or_len (is_lower row) rows) row ≡ put row rows
put_by row [] = refl
put_by row (other ∷ rows) = by (put_by row rows) (nat_lt other.priority row.priority) refl where
  by : insert rows (position_or_len (is_lower row) rows) row ≡ put row rows → (b : Bool) → nat_lt other.priority row.priority ≡ b → insert (other ∷ rows) (position_or_len (is_lower row) (other ∷ rows)) row ≡ put row (other ∷ rows)
  by ih true e = rw e refl
  by ih false e =
      let n = position_or_len (is_lower row) rows in
      let next : 1 + n ≡ suc n = omega arith in
      rw e (ap (λ k. insert (other ∷ rows) k row) next ∙ ap (λ those. other ∷ those) ih)

pub put_is : (row : HotRow) (rows : List HotRow) → put_row row rows ≡ put row rows
put_is row rows = ap (λ n. insert rows n row) (or_end row rows) ∙ put_by row rows

-- ---- rows of one level, and rows below one
abbrev pub AreAt : ℕ → List HotRow → Type 0
AreAt k [] = Unit {0}
AreAt k (row ∷ rows) = (row.priority ≡ k) × AreAt k rows

abbrev pub AreBelow : ℕ → List HotRow → Type 0
AreBelow k [] = Unit {0}
AreBelow k (row ∷ rows) = (row.priority < k) × AreBelow k rows

pub below_more : (k n : ℕ) (rows : List HotRow) → k ≤ n → AreBelow k rows → AreBelow n rows
below_more k n [] h all = tt
below_more k n (row ∷ rows) h all = (omega (arith, all.0), below_more k n rows h all.1)

pub below_from_at : (k : ℕ) (rows : List HotRow) → AreAt k rows → AreBelow (suc k) rows
below_from_at k [] all = tt
below_from_at k (row ∷ rows) all = (omega (arith, all.0), below_from_at k rows all.1)

pub below_both : (k : ℕ) (rows more : List HotRow) → AreBelow k rows → AreBelow k more → AreBelow k (rows ++ more)
below_both k [] more h g = g
below_both k (row ∷ rows) more h g = (h.0, below_both k rows more h.1 g)

pub put_past : (row : HotRow) (k : ℕ) (rows more : List HotRow) → AreAt k rows → row.priority ≤ k → put row (rows ++ more) ≡ rows ++ put row more
put_past row k [] more all h = refl
put_past row k (other ∷ rows) more all h =
    let e : nat_lt other.priority row.priority ≡ false = le-ltb _ _ (omega (arith, all.0)) in
    rw e (ap (λ those. other ∷ those) (put_past row k rows more all.1 h))

pub put_here : (row : HotRow) (rows : List HotRow) → AreBelow row.priority rows → put row rows ≡ row ∷ rows
put_here row [] all = refl
put_here row (other ∷ rows) all = let e : nat_lt other.priority row.priority ≡ true = lt-ltb _ _ all.0 in rw e refl

-- ---- the rows of the other buffers
abbrev pub others : Handle → List HotRow → List HotRow
others b rows = filter (λ (row : HotRow). not (row.buffer.0 == b.0)) rows

pub others_at : (b : Handle) (k : ℕ) (rows : List HotRow) → AreAt k rows → AreAt k (others b rows)
others_at b k [] all = tt
others_at b k (row ∷ rows) all = by (others_at b k rows all.1) (row.buffer.0 == b.0) refl where
  by : AreAt k (others b rows) → (t : Bool) → (row.buffer.0 == b.0) ≡ t → AreAt k (others b (row ∷ rows))
  by ih true e = rw e ih
  by ih false e = rw e (all.0, ih)

-- rows that are made of handles
module _ (F G : Handle → HotRow) (named : (h : Handle) → (G h).buffer ≡ h) where
  pub others_of_map : (b : Handle) → ((h : Handle) → (h.0 == b.0) ≡ false → F h ≡ G h) → (hs : List Handle) → map F (without b hs) ≡ others b (map G hs)
  others_of_map b same [] = refl
  others_of_map b same (h ∷ hs) = by (others_of_map b same hs) (h.0 == b.0) refl where
    by : map F (without b hs) ≡ others b (map G hs) → (t : Bool) → (h.0 == b.0) ≡ t → map F (without b (h ∷ hs)) ≡ others b (map G (h ∷ hs))
    by ih true e = rw e (rw (ap (λ (g : Handle). g.0 == b.0) (named h) ∙ e) ih)
    by ih false e = rw e (rw (ap (λ (g : Handle). g.0 == b.0) (named h) ∙ e) (λ i. same h e i ∷ ih i))

  pub has_of_map : (b : Handle) (hs : List Handle) → has_row b (map G hs) ≡ has b hs
  has_of_map b [] = refl
  has_of_map b (h ∷ hs) = λ i. ((named h i).0 == b.0) || has_of_map b hs i

  pub at_of_map : (k : ℕ) (p : Handle → Bool) → ((h : Handle) → p h ≡ true → (G h).priority ≡ k) → (hs : List Handle) → AreAt k (map G (filter p hs))
  at_of_map k p says [] = tt
  at_of_map k p says (h ∷ hs) = by (at_of_map k p says hs) (p h) refl where
    by : AreAt k (map G (filter p hs)) → (t : Bool) → p h ≡ t → AreAt k (map G (filter p (h ∷ hs)))
    by ih true e = rw e (says h e, ih)
    by ih false e = rw e ih

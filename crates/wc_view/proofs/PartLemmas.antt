-- The lines of each buffer among rows.
use Rattle.std.proofs.Common.{◌≡◌, ℕ, zero, suc, ◌+◌, ◌-◌, ◌≤◌, Bool, true, false, cond, List, [], ◌∷◌, ◌++◌, length, drop, map, Option, Some, None, refl, sym, ap, ◌∙◌, arith, eqb}
use Rattle.std.specs.Prelude.{unwrap_or}
use Rattle.std.proofs.lemmas.List.{length-append, length-drop, drop-append-le, drop-drop}
use Rattle.std.proofs.lemmas.Bool.{eqb-true, eq-eqb}
use Rattle.std.proofs.lemmas.Bool.Decides.{nat_tests}
use Rattle.std.specs.FinMap.{find, get, get-insert, get-from_entries, same_map, nat_cmp-IsAntisymmetric}
use Rattle.std.specs.Ordering.{nat_cmp}
use Rattle.std.specs.Cmp.{nat_cmp_total}
use Rattle.wc_lines.specs.Ring.{last_of}
use Rattle.wc_view.specs.declared.mirror_buffer.MirrorLine.{MirrorLine}
use Rattle.wc_view.specs.declared.rows.LineRow.{LineRow}
use Rattle.wc_view.specs.Parts.{lines_at, kept_lines, with_row, lines_of, part_of}
use Rattle.wc_view.proofs.EntryLemmas.{by_bool, tied}

-- a line after the last n, and of these the last n
pub last_with : {X : Type 0} (n : ℕ) (xs : List X) (x : X) → last_of n (last_of n xs ++ x ∷ []) ≡ last_of n (xs ++ x ∷ [])
last_with n xs x =
    let all = xs ++ x ∷ [] in
    let k = length xs - n in
    let front : k ≤ length xs = omega arith in
    let same : last_of n xs ++ x ∷ [] ≡ drop k all = sym (drop-append-le k xs (x ∷ []) front) in
    let count : k + (length (drop k all) - n) ≡ length all - n = omega (arith, length-drop k all, length-append xs (x ∷ [])) in
    ap (last_of n) same ∙ drop-drop (length (drop k all) - n) k all ∙ ap (λ m. drop m all) count

-- the same where there may be no limit
kept_with : (limit : Option ℕ) (lines : List MirrorLine) (line : MirrorLine) → kept_lines limit (kept_lines limit lines ++ line ∷ []) ≡ kept_lines limit (lines ++ line ∷ [])
kept_with None lines line = refl
kept_with (Some n) lines line = last_with n lines line

pub none_of : {X : Type 0} (n : ℕ) → drop {A = X} n [] ≡ []
none_of zero = refl
none_of (suc n) = refl

kept_none : (limit : Option ℕ) → kept_lines limit [] ≡ []
kept_none None = refl
kept_none (Some n) = none_of (0 - n)

-- whether some row is of this buffer
abbrev has_rows : ℕ → List LineRow → Bool
has_rows q [] = false
has_rows q (row ∷ rows) = cond (eqb q row.buffer) true (has_rows q rows)

found_by : (f : ℕ → List MirrorLine) (q : ℕ) (rows : List LineRow)
    → find nat_cmp q (map (λ row. (row.buffer, f row.buffer)) rows) ≡ cond (has_rows q rows) (Some (f q)) None
found_by f q [] = refl
found_by f q (row ∷ rows) = by_bool (eqb q row.buffer) _
    (λ t. rw (tied q row.buffer, t) (ap (λ b. Some (f b)) (sym (eqb-true q row.buffer t))))
    (λ t. rw (tied q row.buffer, t) (found_by f q rows))

-- what is held of a buffer
pub part_get : (limit : Option ℕ) (q : ℕ) (rows : List LineRow) → get (part_of limit rows) q ≡ cond (has_rows q rows) (Some (kept_lines limit (lines_of q rows))) None
part_get limit q rows =
    get-from_entries nat_cmp_total (map (λ row. (row.buffer, kept_lines limit (lines_of row.buffer rows))) rows) q
    ∙ found_by (λ b. kept_lines limit (lines_of b rows)) q rows

no_rows : (q : ℕ) (rows : List LineRow) → has_rows q rows ≡ false → lines_of q rows ≡ []
no_rows q [] e = refl
no_rows q (row ∷ rows) e = by_bool (eqb q row.buffer) _
    (λ t. absurd (let z : true ≡ false = rw t at e in cc))
    (λ t. let u : eqb row.buffer q ≡ false = grind (arith, nat_tests) in rw u (no_rows q rows (rw t at e)))

-- the lines of a buffer
lines_by : (limit : Option ℕ) (q : ℕ) (rows : List LineRow) (b : Bool) → has_rows q rows ≡ b → unwrap_or (cond b (Some (kept_lines limit (lines_of q rows))) None) [] ≡ kept_lines limit (lines_of q rows)
lines_by limit q rows true e = refl
lines_by limit q rows false e = sym (ap (kept_lines limit) (no_rows q rows e) ∙ kept_none limit)

pub part_lines : (limit : Option ℕ) (q : ℕ) (rows : List LineRow) → lines_at (part_of limit rows) q ≡ kept_lines limit (lines_of q rows)
part_lines limit q rows = ap (λ o. unwrap_or o []) (part_get limit q rows) ∙ lines_by limit q rows (has_rows q rows) refl

-- one row more
more_rows : (q : ℕ) (rows : List LineRow) (row : LineRow) → has_rows q (rows ++ row ∷ []) ≡ cond (eqb q row.buffer) true (has_rows q rows)
more_rows q [] row = refl
more_rows q (first ∷ rows) row = by_bool (eqb q first.buffer) _
    (λ t. rw t (by_bool (eqb q row.buffer) _ (λ u. rw u refl) (λ u. rw u refl)))
    (λ t. rw t (more_rows q rows row))

lines_here : (rows : List LineRow) (row : LineRow) → lines_of row.buffer (rows ++ row ∷ []) ≡ lines_of row.buffer rows ++ row.line ∷ []
lines_here [] row = rw (eq-eqb row.buffer row.buffer refl) refl
lines_here (first ∷ rows) row = by_bool (eqb first.buffer row.buffer) _
    (λ t. rw t (ap (λ ls. first.line ∷ ls) (lines_here rows row)))
    (λ t. rw t (lines_here rows row))

lines_else : (q : ℕ) (rows : List LineRow) (row : LineRow) → eqb row.buffer q ≡ false → lines_of q (rows ++ row ∷ []) ≡ lines_of q rows
lines_else q [] row e = rw e refl
lines_else q (first ∷ rows) row e = by_bool (eqb first.buffer q) _
    (λ t. rw t (ap (λ ls. first.line ∷ ls) (lines_else q rows row e)))
    (λ t. rw t (lines_else q rows row e))

pub rows_more : (limit : Option ℕ) (rows : List LineRow) (row : LineRow) → with_row limit row (part_of limit rows) ≡ part_of limit (rows ++ row ∷ [])
rows_more limit rows row = same_map nat_cmp_total nat_cmp-IsAntisymmetric _ _ (λ q.
    let h = row.buffer in
    let ls = lines_at (part_of limit rows) h ++ row.line ∷ [] in
    let is : kept_lines limit ls ≡ kept_lines limit (lines_of h (rows ++ row ∷ [])) =
    ap (λ held. kept_lines limit (held ++ row.line ∷ [])) (part_lines limit h rows) ∙ kept_with limit (lines_of h rows) row.line
    ∙ ap (kept_lines limit) (sym (lines_here rows row)) in
    get-insert nat_cmp_total (part_of limit rows) h (kept_lines limit ls) q
    ∙ by_bool (eqb q h) _
    (λ t. rw (tied q h, t) (ap Some (is ∙ ap (λ b. kept_lines limit (lines_of b (rows ++ row ∷ []))) (sym (eqb-true q h t)))
    ∙ sym (part_get limit q (rows ++ row ∷ []) ∙ ap (λ b. cond b (Some (kept_lines limit (lines_of q (rows ++ row ∷ [])))) None) (more_rows q rows row ∙ ap (λ b. cond b true (has_rows q rows)) t))))
    (λ t. let u : eqb h q ≡ false = grind (arith, nat_tests) in rw (tied q h, t) (part_get limit q rows
    ∙ ap (λ ls. cond (has_rows q rows) (Some (kept_lines limit ls)) None) (sym (lines_else q rows row u))
    ∙ sym (part_get limit q (rows ++ row ∷ []) ∙ ap (λ b. cond b (Some (kept_lines limit (lines_of q (rows ++ row ∷ [])))) None) (more_rows q rows row ∙ ap (λ b. cond b true (has_rows q rows)) t)))))

-- A list of entries seen as the lines of each buffer.
use Rattle.std.proofs.Common.{◌≡◌, ℕ, zero, suc, ◌+◌, ◌-◌, ◌<◌, ◌≤◌, Bool, true, false, cond, Option, Some, None, List, [], ◌∷◌, ◌++◌, length, take, drop, get_or, set, refl, sym, ap, ◌∙◌, arith, eqb}
use Rattle.std.specs.Prelude.{unwrap_or}
use Rattle.std.proofs.lemmas.List.{take_more}
use Rattle.std.proofs.lemmas.Bool.{eq-eqb}
use Rattle.std.proofs.lemmas.Bool.Decides.{nat_tests}
use Rattle.std.specs.FinMap.{insert, find, get-insert, get-from_entries, same_map, nat_cmp-IsAntisymmetric, from_entries_push}
use Rattle.std.specs.Ordering.{nat_cmp, eq_by_cmp}
use Rattle.std.specs.Cmp.{nat_cmp_total, unsigned_tied}
use Rattle.wc_lines.specs.Ring.{last_of}
use Rattle.wc_view.specs.declared.mirror_buffer.MirrorLine.{MirrorLine}
use Rattle.wc_view.specs.declared.rows.LineRow.{LineRow}
use Rattle.wc_view.specs.Entries.{Entry, part_at, IsEntry}
use Rattle.wc_view.specs.Parts.{lines_at, kept_lines, with_row}

pub by_bool : (b : Bool) (P : Type 0) → (b ≡ true → P) → (b ≡ false → P) → P
by_bool true P at_true at_false = at_true refl
by_bool false P at_true at_false = at_false refl

pub last_all : {X : Type 0} (n : ℕ) (xs : List X) → length xs ≤ n → last_of n xs ≡ xs
last_all n xs l = let e : length xs - n ≡ 0 = omega arith in ap (λ k. drop k xs) e

pub last_shorter : {X : Type 0} (n : ℕ) (xs : List X) → n < length xs → last_of n (drop 1 xs) ≡ last_of n xs
last_shorter n [] l = absurd (omega arith)
last_shorter n (x ∷ xs) l = let e : length (x ∷ xs) - n ≡ suc (length xs - n) = omega arith in ap (λ k. drop k (x ∷ xs)) (sym e)

-- the last ones but so many, which are those after so many
pub last_rest : {X : Type 0} (n : ℕ) (xs : List X) → last_of (length xs - n) xs ≡ drop n xs
last_rest zero xs = let e : length xs - (length xs - 0) ≡ 0 = omega arith in ap (λ k. drop k xs) e
last_rest (suc n) [] = let e : 0 - (0 - suc n) ≡ 0 = omega arith in ap (λ k. drop k []) e
last_rest (suc n) (x ∷ xs) =
    let e : length (x ∷ xs) - (length (x ∷ xs) - suc n) ≡ suc (length xs - (length xs - n)) = omega arith in
    ap (λ k. drop k (x ∷ xs)) e ∙ last_rest n xs

pub tied : (q h : ℕ) → eq_by_cmp nat_cmp q h ≡ eqb q h
tied q h = unsigned_tied q h

find_more_in : {V : Type 0} (h : ℕ) (xs : List (ℕ × V)) (e : ℕ × V) → eqb e.0 h ≡ false → find nat_cmp h xs ≡ None → find nat_cmp h (xs ++ e ∷ []) ≡ None
find_more_in h [] e t n = let z : eqb h e.0 ≡ false = grind (arith, nat_tests) in rw (tied h e.0, z) refl
find_more_in h (x ∷ xs) e t n = by_bool (eq_by_cmp nat_cmp h x.0) _
    (λ u. absurd (let z : Some x.1 ≡ None = rw u at n in cc))
    (λ u. rw u (find_more_in h xs e t (rw u at n)))

pub find_more : {V : Type 0} (h i : ℕ) (es : List (ℕ × V)) (e : ℕ × V) → i < length es → e ≡ get_or es i e → eqb e.0 h ≡ false → find nat_cmp h (take i es) ≡ None → find nat_cmp h (take (i + 1) es) ≡ None
find_more h i es e l is t n = ap (find nat_cmp h) (take_more es i e l) ∙ find_more_in h (take i es) (get_or es i e) (ap (λ z. eqb z.0 h) (sym is) ∙ t) n

-- the entry at a place
pub find_here : {V : Type 0} (h i : ℕ) (es : List (ℕ × V)) (d : ℕ × V) → i < length es → (get_or es i d).0 ≡ h → find nat_cmp h (take i es) ≡ None → find nat_cmp h es ≡ Some (get_or es i d).1
find_here h i [] d l a b = absurd (omega arith)
find_here h zero (e ∷ es) d l a b = rw (tied h e.0, eq-eqb h e.0 (sym a)) refl
find_here h (suc i) (e ∷ es) d l a b = by_bool (eq_by_cmp nat_cmp h e.0) _
    (λ t. absurd (let z : Some e.1 ≡ None = rw t at b in cc))
    (λ t. rw t (find_here h i es d (omega arith) a (rw t at b)))

pub find_set : {V : Type 0} (h i q : ℕ) (es : List (ℕ × V)) (v : V) (d : ℕ × V) → i < length es → (get_or es i d).0 ≡ h → find nat_cmp h (take i es) ≡ None
    → find nat_cmp q (set es i (h, v)) ≡ cond (eq_by_cmp nat_cmp q h) (Some v) (find nat_cmp q es)
find_set h i q [] v d l a b = absurd (omega arith)
find_set h zero q (e ∷ es) v d l a b = by_bool (eqb q h) _
    (λ t. rw (tied q h, t) refl)
    (λ t. let u : eqb q e.0 ≡ false = ap (eqb q) a ∙ t in rw (tied q h, tied q e.0, t, u) refl)
find_set h (suc i) q (e ∷ es) v d l a b = by_bool (eq_by_cmp nat_cmp h e.0) _
    (λ t. absurd (let z : Some e.1 ≡ None = rw t at b in cc))
    (λ t. rw (find_set h i q es v d (omega arith) a (rw t at b)) (by_bool (eqb q e.0) _
    (λ u. let w : eqb q h ≡ false = (let z : eqb h e.0 ≡ false = sym (tied h e.0) ∙ t in grind (arith, nat_tests)) in rw (tied q e.0, tied q h, u, w) refl)
    (λ u. rw (tied q e.0, u) refl)))

pub entry_lines : (h i : ℕ) (es : List Entry) (d : Entry) → i < length es → IsEntry h i es → lines_at (part_at es) h ≡ (get_or es i d).1
entry_lines h i es d l e = ap (λ o. unwrap_or o []) (get-from_entries nat_cmp_total es h ∙ find_here h i es d l (e.at d) e.before)

pub entry_set : (h i : ℕ) (es : List Entry) (v : List MirrorLine) (d : Entry) → i < length es → IsEntry h i es → part_at (set es i (h, v)) ≡ insert (part_at es) h v
entry_set h i es v d l e = same_map nat_cmp_total nat_cmp-IsAntisymmetric _ _ (λ q.
    get-from_entries nat_cmp_total (set es i (h, v)) q ∙ find_set h i q es v d l (e.at d) e.before
    ∙ sym (get-insert nat_cmp_total (part_at es) h v q ∙ ap (cond (eq_by_cmp nat_cmp q h) (Some v)) (get-from_entries nat_cmp_total es q)))

pub no_entry : (h : ℕ) (es : List Entry) → find nat_cmp h es ≡ None → lines_at (part_at es) h ≡ []
no_entry h es e = ap (λ o. unwrap_or o []) (get-from_entries nat_cmp_total es h ∙ e)

pub entry_shown : (h i : ℕ) (es : List Entry) (e : Entry) (lines : List MirrorLine) → i < length es → IsEntry h i es → e ≡ get_or es i e → lines ≡ e.1
    → lines ≡ lines_at (part_at es) h
entry_shown h i es e lines l at is shown = shown ∙ ap (λ (z : Entry). z.1) is ∙ sym (entry_lines h i es e l at)

pub none_shown : (h : ℕ) (es : List Entry) → find nat_cmp h es ≡ None → [] ≡ lines_at (part_at es) h
none_shown h es e = sym (no_entry h es e)

entry_push : (h : ℕ) (es : List Entry) (v : List MirrorLine) → find nat_cmp h es ≡ None → part_at (es ++ (h, v) ∷ []) ≡ insert (part_at es) h v
entry_push h es v e = from_entries_push nat_cmp_total nat_cmp-IsAntisymmetric es h v e

pub row_at : (i : ℕ) (limit : Option ℕ) (es : List Entry) (b b2 : Entry) (row : LineRow) → i < length es → IsEntry row.buffer i es → b ≡ get_or es i b
    → b2 ≡ (b.0, kept_lines limit (b.1 ++ row.line ∷ [])) → part_at (set es i b2) ≡ with_row limit row (part_at es)
row_at i limit es b b2 row l e is new =
    let k : b.0 ≡ row.buffer = ap (λ (z : Entry). z.0) is ∙ e.at b in
    let v : b.1 ≡ lines_at (part_at es) row.buffer = ap (λ (z : Entry). z.1) is ∙ sym (entry_lines row.buffer i es b l e) in
    ap (λ z. part_at (set es i z)) (new ∙ λ j. (k j, kept_lines limit (v j ++ row.line ∷ [])))
    ∙ entry_set row.buffer i es (kept_lines limit (lines_at (part_at es) row.buffer ++ row.line ∷ [])) b l e

pub row_new : (limit : Option ℕ) (es : List Entry) (b : Entry) (row : LineRow) → find nat_cmp row.buffer es ≡ None
    → b ≡ (row.buffer, kept_lines limit ([] ++ row.line ∷ [])) → part_at (es ++ b ∷ []) ≡ with_row limit row (part_at es)
row_new limit es b row n new =
    ap (λ z. part_at (es ++ z ∷ [])) (new ∙ ap (λ z. (row.buffer, kept_lines limit (z ++ row.line ∷ []))) (sym (no_entry row.buffer es n)))
    ∙ entry_push row.buffer es (kept_lines limit (lines_at (part_at es) row.buffer ++ row.line ∷ [])) n

-- what `keep_last` needs
pub ruleset keep_last_facts = (last_all, last_shorter)

-- what `lines_of` needs
pub ruleset lines_of_facts = (entry_shown, none_shown)

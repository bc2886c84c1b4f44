-- Edits of the entries seen as the lines of each buffer.
use Rattle.std.proofs.Common.{◌≡◌, ℕ, ◌<◌, Bool, false, cond, List, [], ◌∷◌, length, drop, get_or, set, Some, None, refl, sym, ap, ◌∙◌, eqb}
use Rattle.std.specs.Prelude.{not}
use Rattle.std.specs.List.{filter}
use Rattle.std.specs.FinMap.{find, get, get-remove, get-from_entries, same_map, nat_cmp-IsAntisymmetric}
use Rattle.std.specs.Ordering.{nat_cmp}
use Rattle.std.specs.Cmp.{nat_cmp_total}
use Rattle.std.proofs.lemmas.Bool.{eqb-true}
use Rattle.wc_view.specs.declared.flags.LineFlag.{LineFlag}
use Rattle.wc_view.specs.declared.trims.LineTrim.{LineTrim}
use Rattle.wc_view.specs.Entries.{Entry, part_at, IsEntry}
use Rattle.wc_view.specs.Parts.{without, with_line_flag, flagged_in, with_flag, trimmed_in, with_trim}
use Rattle.wc_view.proofs.EntryLemmas.{by_bool, tied, find_here, entry_set}

-- ---- a buffer that goes
abbrev pub is_other : {V : Type 0} → ℕ → ℕ × V → Bool
is_other buffer entry = not (eqb entry.0 buffer)

pub found_else : {V : Type 0} (q h : ℕ) (es : List (ℕ × V)) → find nat_cmp q (filter (is_other h) es) ≡ cond (eqb q h) None (find nat_cmp q es)
found_else q h [] = by_bool (eqb q h) _ (λ t. rw t refl) (λ t. rw t refl)
found_else q h (e ∷ es) = by_bool (eqb e.0 h) _
    (λ t. rw t (found_else q h es ∙ by_bool (eqb q h) _
    (λ u. rw u refl)
    (λ u. let w : eqb q e.0 ≡ false = ap (λ n. eqb q n) (eqb-true e.0 h t) ∙ u in rw (u, tied q e.0, w) refl)))
    (λ t. rw t (by_bool (eqb q e.0) _
    (λ u. let w : eqb q h ≡ false = ap (λ n. eqb n h) (eqb-true q e.0 u) ∙ t in rw (tied q e.0, u, w) refl)
    (λ u. rw (tied q e.0, u) (found_else q h es))))

pub gone : (h : ℕ) (es : List Entry) → part_at (filter (is_other h) es) ≡ without h (part_at es)
gone h es = same_map nat_cmp_total nat_cmp-IsAntisymmetric _ _ (λ q.
    get-from_entries nat_cmp_total (filter (is_other h) es) q ∙ found_else q h es
    ∙ sym (get-remove nat_cmp_total (part_at es) h q ∙ ap (λ b. cond b None (get (part_at es) q)) (tied q h)
    ∙ ap (cond (eqb q h) None) (get-from_entries nat_cmp_total es q)))

-- ---- a flag
pub flag_at : (i : ℕ) (es : List Entry) (b b2 : Entry) (flag : LineFlag) → i < length es → IsEntry flag.buffer i es → b ≡ get_or es i b
    → b2 ≡ (b.0, with_line_flag flag b.1) → part_at (set es i b2) ≡ with_flag (part_at es) flag
flag_at i es b b2 flag l e is new =
    let k : b.0 ≡ flag.buffer = ap (λ (z : Entry). z.0) is ∙ e.at b in
    let held : get (part_at es) flag.buffer ≡ Some b.1 =
    get-from_entries nat_cmp_total es flag.buffer ∙ find_here flag.buffer i es b l (e.at b) e.before ∙ ap (λ (z : Entry). Some z.1) (sym is) in
    ap (λ z. part_at (set es i z)) (new ∙ λ j. (k j, with_line_flag flag b.1))
    ∙ entry_set flag.buffer i es (with_line_flag flag b.1) b l e
    ∙ sym (ap (flagged_in flag (part_at es)) held)

pub flag_nowhere : (es : List Entry) (flag : LineFlag) → find nat_cmp flag.buffer es ≡ None → part_at es ≡ with_flag (part_at es) flag
flag_nowhere es flag n = sym (ap (flagged_in flag (part_at es)) (get-from_entries nat_cmp_total es flag.buffer ∙ n))

-- ---- lines that went
pub trim_at : (i : ℕ) (es : List Entry) (b b2 : Entry) (trim : LineTrim) → i < length es → IsEntry trim.buffer i es → b ≡ get_or es i b
    → b2 ≡ (b.0, drop trim.count b.1) → part_at (set es i b2) ≡ with_trim trim (part_at es)
trim_at i es b b2 trim l e is new =
    let k : b.0 ≡ trim.buffer = ap (λ (z : Entry). z.0) is ∙ e.at b in
    let held : get (part_at es) trim.buffer ≡ Some b.1 =
    get-from_entries nat_cmp_total es trim.buffer ∙ find_here trim.buffer i es b l (e.at b) e.before ∙ ap (λ (z : Entry). Some z.1) (sym is) in
    ap (λ z. part_at (set es i z)) (new ∙ λ j. (k j, drop trim.count b.1))
    ∙ entry_set trim.buffer i es (drop trim.count b.1) b l e
    ∙ sym (ap (trimmed_in trim (part_at es)) held)

pub trim_nowhere : (es : List Entry) (trim : LineTrim) → find nat_cmp trim.buffer es ≡ None → part_at es ≡ with_trim trim (part_at es)
trim_nowhere es trim n = sym (ap (trimmed_in trim (part_at es)) (get-from_entries nat_cmp_total es trim.buffer ∙ n))

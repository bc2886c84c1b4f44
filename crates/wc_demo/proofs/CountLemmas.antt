-- Counts of one thing more, and of what is not there.
use Rattle.std.proofs.Common.{◌≡◌, ℕ, ◌+◌, ◌<◌, ◌≤◌, List, [], ◌∷◌, ◌++◌, length, take, get_or, append_assoc, Option, Some, None, refl, sym, ap, ◌∙◌, arith, length-append}
use Rattle.std.specs.Prelude.{Bool, true, false, not, sum_by, option_map, unwrap_or, if◌then◌else◌}
use Rattle.std.proofs.lemmas.List.{flat_map_more, take_all, take_more}
use Rattle.std.proofs.lemmas.List.Elements.{filter-append}
use Rattle.std.proofs.lemmas.List.Sums.{sum_by_push}
use Rattle.wc_lines.specs.declared.line.Line.{Line}
use Rattle.wc_nicklist.specs.declared.item.Row.{Row}
use Rattle.wc_buffers.specs.Groups.{rows}
use Rattle.wc_world.specs.Kept.{LinesView}
use Rattle.wc_demo.specs.declared.counts.Counts.{Counts}
use Rattle.wc_demo.specs.Counts.{nicks_in, counted_by}

-- ---- one more

nicks_by : (xs : List Row) (x : Row) (b : Bool) → length (nicks_in xs ++ (if not b then x ∷ [] else [])) ≡ (if b then length (nicks_in xs) else length (nicks_in xs) + 1)
nicks_by xs x true = omega (arith, length-append (nicks_in xs) [])
nicks_by xs x false = length-append (nicks_in xs) (x ∷ [])

pub nicks_more : (xs : List Row) (x : Row) → length (nicks_in (xs ++ x ∷ [])) ≡ (if x.item.is_group then length (nicks_in xs) else length (nicks_in xs) + 1)
nicks_more xs x = ap length (filter-append (λ (r : Row). not r.item.is_group) xs (x ∷ [])) ∙ nicks_by xs x x.item.is_group

pub counted_more : {A : Type 0} (lines nicks : A → ℕ) (xs : List A) (x : A) (before after : Counts) → before ≡ counted_by lines nicks xs
    → after ≡ record { buffers = before.buffers + 1; lines = before.lines + lines x; nicks = before.nicks + nicks x } → after ≡ counted_by lines nicks (xs ++ x ∷ [])
counted_more lines nicks xs x before after e f =
    let size : length xs + 1 ≡ length (xs ++ x ∷ []) = sym (length-append xs (x ∷ [])) in
    let said : sum_by lines xs + lines x ≡ sum_by lines (xs ++ x ∷ []) = sym (sum_by_push lines xs x) in
    let there : sum_by nicks xs + nicks x ≡ sum_by nicks (xs ++ x ∷ []) = sym (sum_by_push nicks xs x) in
    f ∙ ap (λ (c : Counts). record { buffers = c.buffers + 1; lines = c.lines + lines x; nicks = c.nicks + nicks x }) e
    ∙ ap (λ (n : ℕ). record { buffers = n; lines = sum_by lines xs + lines x; nicks = sum_by nicks xs + nicks x }) size
    ∙ ap (λ (n : ℕ). record { buffers = length (xs ++ x ∷ []); lines = n; nicks = sum_by nicks xs + nicks x }) said
    ∙ ap (λ (n : ℕ). record { buffers = length (xs ++ x ∷ []); lines = sum_by lines (xs ++ x ∷ []); nicks = n }) there

pub rows_more : {A : Type 0} (xs : List (List A)) (x : List A) → rows xs ++ x ≡ rows (xs ++ x ∷ [])
rows_more xs x = flat_map_more (λ g. g) [] xs x

-- ---- the buffers of a group, one after another

pub group_step : {A : Type 0} (count : List A → Counts) (xs group : List A) (i : ℕ) (d : A) (next : Counts) → i < length group → next ≡ count ((xs ++ take i group) ++ get_or group i d ∷ []) → next ≡ count (xs ++ take (i + 1) group)
group_step count xs group i d next m e = e ∙ ap count (append_assoc xs (take i group) (get_or group i d ∷ []) ∙ ap (λ t. xs ++ t) (sym (take_more group i d m)))

pub group_step_at : {A : Type 0} (count : List A → Counts) (xs group : List A) (i : ℕ) (x : A) (next : Counts) → i < length group → x ≡ get_or group i x → next ≡ count ((xs ++ take i group) ++ x ∷ []) → next ≡ count (xs ++ take (i + 1) group)
group_step_at count xs group i x next m at e = group_step count xs group i x next m (e ∙ ap (λ y. count ((xs ++ take i group) ++ y ∷ [])) at)

pub group_end : {A : Type 0} (count : List A → Counts) (xs group : List A) (i : ℕ) (all : Counts) → length group ≤ i → all ≡ count (xs ++ take i group) → all ≡ count (xs ++ group)
group_end count xs group i all m e = e ∙ ap (λ t. count (xs ++ t)) (take_all i group m)

-- ---- what is there

abbrev pub ring : ℕ → ℕ → List Line → LinesView
ring limit count lines = record { limit = limit; lines = lines; pushed = count }

pub held_lines : (o : Option (List Line)) (limit count : ℕ) (held : LinesView) → Some held ≡ option_map (ring limit count) o → length held.lines ≡ length (unwrap_or o [])
held_lines None limit count held e = cc
held_lines (Some lines) limit count held e = let f : held ≡ record { limit = limit; lines = lines; pushed = count } = cc in ap (λ (h : LinesView). length h.lines) f

pub no_lines : (o : Option (List Line)) (limit count : ℕ) → None ≡ option_map (ring limit count) o → 0 ≡ length (unwrap_or o [])
no_lines None limit count e = refl
no_lines (Some lines) limit count e = cc

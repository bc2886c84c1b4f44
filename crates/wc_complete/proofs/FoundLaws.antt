-- One command more.
use Rattle.std.proofs.Common.{◌≡◌, ℕ, ◌+◌, ◌<◌, List, [], ◌∷◌, ◌++◌, length, get_or, take, sym, ap, ◌∙◌}
use Rattle.std.specs.Prelude.{filter}
use Rattle.std.proofs.lemmas.List.{take_more, map-append}
use Rattle.std.proofs.lemmas.List.Elements.{filter-append}
use Rattle.wc_complete.specs.Candidates.{begins_as, slashed, all_slashed}

pub next_command : (base : List ℕ) (names : List (List ℕ)) (i : ℕ) (name : List ℕ) → i < length names → name ≡ get_or names i name
    → filter (begins_as base) (all_slashed (take (i + 1) names)) ≡ filter (begins_as base) (all_slashed (take i names)) ++ filter (begins_as base) (slashed name ∷ [])
next_command base names i name inside is =
    ap (λ those. filter (begins_as base) (all_slashed those)) (take_more names i name inside)
    ∙ ap (filter (begins_as base)) (map-append slashed (take i names) (get_or names i name ∷ []))
    ∙ filter-append (begins_as base) (all_slashed (take i names)) (slashed (get_or names i name) ∷ [])
    ∙ ap (λ n. filter (begins_as base) (all_slashed (take i names)) ++ filter (begins_as base) (slashed n ∷ [])) (sym is)

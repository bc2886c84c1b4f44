-- Steps that were given, one after another.
use Rattle.std.proofs.Common.{◌≡◌, ℕ, ◌+◌, ◌<◌, List, [], ◌∷◌, ◌++◌, length, map, take, get_or, sym, ap, ◌∙◌}
use Rattle.std.proofs.lemmas.List.{length-map, get_or-map, take_more, map_more}
use Rattle.wc_outside.specs.declared.happening.Happening.{Happening}
use Rattle.wc_scripted.specs.declared.scripted.Scripted.{Scripted}
use Rattle.wc_demo.specs.Script.{given_as}

pub given_more : (steps : List Scripted) (taken : List Happening) (place : ℕ) (s : Scripted) (h : Happening) → place < length steps → place < length taken
    → h ≡ given_as s → s ≡ get_or steps place s → h ≡ get_or taken place h → take place taken ≡ map given_as (take place steps)
    → take (place + 1) taken ≡ map given_as (take (place + 1) steps)
given_more steps taken place s h m n e at_s at_h before =
    take_more taken place h n
    ∙ ap (λ xs. xs ++ get_or taken place h ∷ []) before
    ∙ ap (λ x. map given_as (take place steps) ++ x ∷ []) (sym at_h ∙ e ∙ ap given_as at_s)
    ∙ sym (map_more given_as steps place s m)

-- what all of them were given as has as many, and at each place that of the step
pub as_many : (steps : List Scripted) (taken : List Happening) → taken ≡ map given_as steps → length taken ≡ length steps
as_many steps taken e = ap length e ∙ length-map steps given_as

pub given_at : (steps : List Scripted) (taken : List Happening) (place : ℕ) (s : Scripted) (h : Happening) → place < length steps → taken ≡ map given_as steps
    → s ≡ get_or steps place s → h ≡ get_or taken place h → h ≡ given_as s
given_at steps taken place s h m e at_s at_h =
    at_h ∙ ap (λ xs. get_or xs place h) e ∙ get_or-map given_as steps place s h m ∙ ap given_as (sym at_s)

-- what `is_played` needs
pub ruleset played_facts = (given_more, as_many, given_at)

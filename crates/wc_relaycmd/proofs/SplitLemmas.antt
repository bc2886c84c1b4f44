-- What splitting a text at each c gives, by its first cut.
use Rattle.std.proofs.Common.{◌≡◌, ℕ, List, [], ◌∷◌, refl, ap, arith, eqb, ◌∙◌, Option, Some, None}
use Rattle.std.proofs.lemmas.Bool.Decides.{nat_tests}
use Rattle.std.specs.List.{slice_split}
use Rattle.wc_text.specs.Splits.{before, text_after}

-- the pieces after a cut
abbrev pub split_after : ℕ → Option (List ℕ) → List (List ℕ)
split_after c None = []
split_after c (Some text) = slice_split (λ b. eqb b c) text

-- the first piece is before the first c, and the others after it
pub slice_split_cut : (c : ℕ) (text : List ℕ) → slice_split (λ b. eqb b c) text ≡ before c text ∷ split_after c (text_after c text)
slice_split_cut c [] = refl
slice_split_cut c (b ∷ text) = grind (arith, nat_tests, slice_split_cut c text)

-- the same, where the rest is known
pub slice_split_last : (c : ℕ) (text : List ℕ) → text_after c text ≡ None → slice_split (λ b. eqb b c) text ≡ before c text ∷ []
slice_split_last c text none = slice_split_cut c text ∙ ap (λ rest. before c text ∷ split_after c rest) none

pub slice_split_more : (c : ℕ) (text rest : List ℕ) → text_after c text ≡ Some rest → slice_split (λ b. eqb b c) text ≡ before c text ∷ slice_split (λ b. eqb b c) rest
slice_split_more c text rest some = slice_split_cut c text ∙ ap (λ rest. before c text ∷ split_after c rest) some

pub ruleset splits = (slice_split_last, slice_split_more)

-- The sign at the front of a name, as the code finds it.
use Rattle.std.specs.Prelude.{◌≡◌, ℕ, ◌<◌, List, [], ◌∷◌, Option, Some, None, length}
use Rattle.std.specs.Borrow.{Bor}
use Rattle.wc_irc_texts.specs.Listed.{front_signs, after_signs}
use Rattle.wc_irc_texts.specs.Texts.{char_texts}

-- a name without a sign at its front
pub record HasNoSign (signs : List (List ℕ)) (name : List ℕ) : Type 0 where
  pub none : front_signs signs (char_texts name) ≡ []
  pub whole : after_signs signs (char_texts name) ≡ char_texts name

-- a name with a sign at its front, by its place, and the name without it
pub record HasSign (signs : List (List ℕ)) (name : List ℕ) (place : ℕ) (others : List ℕ) :
    Type 0 where
  pub first : front_signs signs (char_texts name) ≡ place ∷ front_signs signs (char_texts others)
  pub same : after_signs signs (char_texts name) ≡ after_signs signs (char_texts others)
  pub shorter : length others < length name

abbrev pub IsCut : List (List ℕ) → List ℕ → Option (ℕ × Bor (List ℕ)) → Type 0
IsCut signs name None = HasNoSign signs name
IsCut signs name (Some (place, others)) = HasSign signs name place others.now

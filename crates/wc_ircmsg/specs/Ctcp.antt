-- Requests between clients inside a message's text (CTCP).
use Rattle.std.specs.Prelude.{◌≡◌, ◌≢◌, ℕ, ◌⊎◌, List, [], ◌∷◌, ◌++◌}
use Rattle.wc_text.specs.Splits.{Lacks}

-- Between a first and a last byte 01 are a word and after one blank its arguments, or nothing.
pub record IsCtcp (text word arguments : List ℕ) : Type 0 where
  pub inner : List ℕ
  pub spelled : text ≡ 1 ∷ (inner ++ 1 ∷ [])
  pub filled : word ≢ []
  pub solid : Lacks 32 word
  pub called : ((inner ≡ word) × (arguments ≡ [])) ⊎ (inner ≡ word ++ 32 ∷ arguments)

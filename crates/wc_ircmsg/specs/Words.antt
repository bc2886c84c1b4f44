-- Words that a byte marks.
use Rattle.std.specs.Prelude.{◌≡◌, ℕ, List, ◌∷◌, Option, Some, None}
use Rattle.wc_text.specs.Splits.{WordAndRest, BeginsWithout}

-- A text begins with a word that this byte marks, and goes on after it; or it does not begin with
-- the byte, and there is no such word.
abbrev pub Marked : ℕ → List ℕ → Option (List ℕ) → List ℕ → Type 0
Marked mark text None rest = BeginsWithout mark text × (rest ≡ text)
Marked mark text (Some word) rest = WordAndRest text (mark ∷ word) rest

-- Where texts are split: at a byte, and after a word.
use Rattle.std.specs.Prelude.{◌≡◌, ◌≢◌, ℕ, ◌<◌, Bool, false, List, [], ◌∷◌, ◌++◌}
use Rattle.std.specs.Prelude.{replicate, if◌then◌else◌, ◌==◌, Option, Some, None}

-- the bytes before the first c, or all where there is none
abbrev pub before : ℕ → List ℕ → List ℕ
before c [] = []
before c (b ∷ text) = if b == c then [] else b ∷ before c text

-- the bytes from the first c on, or none
abbrev pub onward : ℕ → List ℕ → List ℕ
onward c [] = []
onward c (b ∷ text) = if b == c then b ∷ text else onward c text

-- the bytes after the first c, where there is one
abbrev pub text_after : ℕ → List ℕ → Option (List ℕ)
text_after c [] = None
text_after c (b ∷ text) = if b == c then Some text else text_after c text

-- the text without each c at its front
abbrev pub past : ℕ → List ℕ → List ℕ
past c [] = []
past c (b ∷ text) = if b == c then past c text else b ∷ text

-- whether the first byte is c
abbrev pub begins_with : ℕ → List ℕ → Bool
begins_with c [] = false
begins_with c (b ∷ text) = b == c

-- no byte of the text is c
abbrev pub Lacks : ℕ → List ℕ → Type 0
Lacks c [] = Unit {0}
Lacks c (b ∷ text) = (b ≢ c) × Lacks c text

-- the first byte of the text, if it has one, is not c
abbrev pub BeginsWithout : ℕ → List ℕ → Type 0
BeginsWithout c [] = Unit {0}
BeginsWithout c (b ∷ text) = b ≢ c

-- ---- words

-- so many spaces
abbrev pub blanks : ℕ → List ℕ
blanks n = replicate n 32

-- A text is a word, which may be empty, and what follows it after blanks.
pub record WordAndRest (text word rest : List ℕ) : Type 0 where
  pub solid : Lacks 32 word
  pub gap : ℕ
  pub spelled : text ≡ word ++ (blanks gap ++ rest)
  pub parted : rest ≢ [] → 0 < gap
  pub bare : BeginsWithout 32 rest

-- the word at the front of a text
abbrev pub word_of : List ℕ → List ℕ
word_of text = before 32 text

-- what follows the word at the front, after blanks
abbrev pub rest_of : List ℕ → List ℕ
rest_of text = past 32 (onward 32 text)

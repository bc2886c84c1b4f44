-- Which form it is, by what is between its braces.
use Rattle.std.specs.Prelude.{ℕ, List, [], ◌∷◌, ◌++◌, codes, Option, Some, None}
use Rattle.wc_eval.specs.declared.kind.Kind.{Kind}
use Rattle.wc_eval.specs.declared.kind.Kind.TheVariants as kind
use Rattle.wc_eval.specs.Comparisons.{after_word}

-- ---- the words that name forms

abbrev pub text_words : List (List ℕ × Kind)
text_words = (codes "raw:", kind.Raw) ∷ (codes "eval:", kind.Eval) ∷ (codes "if:", kind.If)
    ∷ (codes "calc:", kind.Calc) ∷ (codes "length:", kind.Length) ∷ []

abbrev pub letter_words : List (List ℕ × Kind)
letter_words = (codes "lower:", kind.Lower) ∷ (codes "upper:", kind.Upper)
    ∷ (codes "rev:", kind.Rev) ∷ (codes "re:", kind.Group) ∷ []

abbrev pub comma_words : List (List ℕ × Kind)
comma_words = (codes "cut:", kind.Cut) ∷ (codes "repeat:", kind.Repeat)
    ∷ (codes "hide:", kind.Hide) ∷ (codes "split:", kind.Split) ∷ (codes "define:", kind.Define)
    ∷ []

abbrev pub words : List (List ℕ × Kind)
words = text_words ++ (letter_words ++ comma_words)

-- ---- the word at the front

abbrev pub kind_or : Kind → Option (List ℕ) → Option (Kind × List ℕ) → Option (Kind × List ℕ)
kind_or k None otherwise = otherwise
kind_or k (Some text) otherwise = Some (k, text)

-- the first kind whose word is at the front of the text, and what comes after the word
abbrev pub kind_among : List (List ℕ × Kind) → List ℕ → Option (Kind × List ℕ)
kind_among [] text = None
kind_among (w ∷ ws) text = kind_or w.1 (after_word w.0 text) (kind_among ws text)

abbrev pub or_name : List ℕ → Option (Kind × List ℕ) → Kind × List ℕ
or_name text None = (kind.Name, text)
or_name text (Some found) = found

-- a text without such a word is a name
unfoldable pub kind_of : List ℕ → Kind × List ℕ
kind_of text = or_name text (kind_among words text)

-- how many of the arguments have a comma after them; one more takes the rest
abbrev pub commas_of : Kind → ℕ
commas_of kind.Raw = 0
commas_of kind.Eval = 0
commas_of kind.If = 0
commas_of kind.Calc = 0
commas_of kind.Length = 0
commas_of kind.Lower = 0
commas_of kind.Upper = 0
commas_of kind.Rev = 0
commas_of kind.Group = 0
commas_of kind.Cut = 2
commas_of kind.Repeat = 1
commas_of kind.Hide = 1
commas_of kind.Split = 3
commas_of kind.Define = 1
commas_of kind.Name = 0

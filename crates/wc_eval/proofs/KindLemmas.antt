-- The kind of a form, by the words that were looked for.
use Rattle.std.proofs.Common.{◌≡◌, ℕ, List, [], ◌∷◌, ◌++◌, Option, Some, None, refl, ap, sym, ◌∙◌}
use Rattle.wc_eval.specs.declared.kind.Kind.{Kind}
use Rattle.wc_eval.specs.declared.kind.Kind.TheVariants.{Name}
use Rattle.wc_eval.specs.Comparisons.{after_word}
use Rattle.wc_eval.specs.Kinds.{text_words, letter_words, comma_words, words, kind_or, kind_among}
use Rattle.wc_eval.specs.Kinds.{or_name, kind_of}
use Rattle.wc_eval.specs.Reading.{or_later}

kind_both : (a b : List (List ℕ × Kind)) (text : List ℕ) →
    kind_among (a ++ b) text ≡ or_later (kind_among a text) (kind_among b text)
kind_both [] b text = refl
kind_both (w ∷ a) b text = by (after_word w.0 text) (kind_both a b text)
  where
    by : (o : Option (List ℕ)) →
        kind_among (a ++ b) text ≡ or_later (kind_among a text) (kind_among b text) →
        kind_or w.1 o (kind_among (a ++ b) text)
        ≡ or_later (kind_or w.1 o (kind_among a text)) (kind_among b text)
    by None ih = ih
    by (Some rest) ih = refl

module _ (text : List ℕ) where
  all_words : kind_among words text ≡ or_later (kind_among text_words text)
      (or_later (kind_among letter_words text) (kind_among comma_words text))
  all_words = kind_both text_words (letter_words ++ comma_words) text
      ∙ ap (or_later (kind_among text_words text)) (kind_both letter_words comma_words text)

  pub kind_first : (f : Kind × List ℕ) → Some f ≡ kind_among text_words text → f ≡ kind_of text
  unfolding kind_of
  kind_first f e = let is : kind_among words text ≡ Some f = all_words ∙ rw (← e) refl in sym (ap (or_name text) is)

  module _ (none : None ≡ kind_among text_words text) where
    pub kind_second : (f : Kind × List ℕ) → Some f ≡ kind_among letter_words text → f ≡ kind_of text
    unfolding kind_of
    kind_second f e = let is : kind_among words text ≡ Some f = all_words ∙ rw (← none, ← e) refl in sym (ap (or_name text) is)

    module _ (also : None ≡ kind_among letter_words text) where
      pub kind_third : (f : Kind × List ℕ) → Some f ≡ kind_among comma_words text → f ≡ kind_of text
      unfolding kind_of
      kind_third f e = let is : kind_among words text ≡ Some f = all_words ∙ rw (← none, ← also, ← e) refl in sym (ap (or_name text) is)

      pub kind_last : None ≡ kind_among comma_words text → (Name, text) ≡ kind_of text
      unfolding kind_of
      kind_last e = let is : kind_among words text ≡ None = all_words ∙ rw (← none, ← also, ← e) refl in sym (ap (or_name text) is)

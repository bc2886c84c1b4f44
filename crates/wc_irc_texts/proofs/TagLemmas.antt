-- Tags, one after another.
use Rattle.std.proofs.Common.{◌≡◌, ℕ, List, ◌∷◌, Option, Some, None, refl, ap, sym, ◌∙◌}
use Rattle.std.specs.Borrow.{Bor}
use Rattle.std.specs.Option.{option_copied}
use Rattle.wc_text.specs.Splits.{before, text_after}
use Rattle.wc_irc_texts.specs.Tags.{tags_in, tags_left, value_in, or_before, last_value}
use Rattle.wc_irc_texts.proofs.PieceLemmas.{split_after, split_first}

left_copied : (o : Option (Bor (List ℕ))) → tags_left o ≡ split_after 59 (option_copied o)
left_copied None = refl
left_copied (Some text) = refl

-- the first tag, and what is left
pub tags_split : (text front : List ℕ) (o : Option (Bor (List ℕ))) → front ≡ before 59 text → option_copied o ≡ text_after 59 text → tags_in text ≡ front ∷ tags_left o
tags_split text front o here there =
    split_first 59 text ∙ ap (λ f. f ∷ split_after 59 (text_after 59 text)) (sym here) ∙ ap (λ t. front ∷ split_after 59 t) (sym there) ∙ ap (λ t. front ∷ t) (sym (left_copied o))

-- one tag is passed
pub next_tag : (name tag : List ℕ) (found later all : Option (List ℕ)) (left others : List (List ℕ)) → left ≡ tag ∷ others → later ≡ or_before (value_in name tag) found → last_value name found left ≡ all → last_value name later others ≡ all
next_tag name tag found later all left others same is before = ap (λ f. last_value name f others) is ∙ ap (last_value name found) (sym same) ∙ before

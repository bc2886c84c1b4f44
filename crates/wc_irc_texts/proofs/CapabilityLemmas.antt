-- Names among the pieces of a text, and lists of names that are kept.
use Rattle.std.proofs.Common.{◌≡◌, ℕ, Bool, true, false, cond, List, [], ◌∷◌, ◌++◌, filter, refl, ap, sym, ◌∙◌, append_assoc}
use Rattle.std.specs.Prelude.{◌||◌, bytes_eq}
use Rattle.wc_irc_texts.specs.Capabilities.{is_among}

pub piece_hit : (name front : List ℕ) (all others : List (List ℕ)) → all ≡ front ∷ others → bytes_eq name front ≡ true → is_among name all ≡ true
piece_hit name front all others parts is = ap (is_among name) parts ∙ ap (λ t. t || is_among name others) is

pub piece_miss : (name front : List ℕ) (all others : List (List ℕ)) → all ≡ front ∷ others → bytes_eq name front ≡ false → is_among name all ≡ is_among name others
piece_miss name front all others parts is = ap (is_among name) parts ∙ ap (λ t. t || is_among name others) is

one_by_one : (p : List ℕ → Bool) (name : List ℕ) (others : List (List ℕ)) → cond (p name) (name ∷ []) [] ++ filter p others ≡ filter p (name ∷ others)
one_by_one p name others = by (p name) where
  by : (t : Bool) → cond t (name ∷ []) [] ++ filter p others ≡ cond t (name ∷ filter p others) (filter p others)
  by true = refl
  by false = refl

-- one more of the names is kept or not
pub one_name_more : (p : List ℕ → Bool) (before after : List (List ℕ)) (name : List ℕ) (others left whole : List (List ℕ)) → after ≡ before ++ cond (p name) (name ∷ []) [] → left ≡ name ∷ others
    → before ++ filter p left ≡ whole → after ++ filter p others ≡ whole
one_name_more p before after name others left whole put parts kept =
    ap (λ (l : List (List ℕ)). l ++ filter p others) put ∙ append_assoc before (cond (p name) (name ∷ []) []) (filter p others)
    ∙ ap (λ (l : List (List ℕ)). before ++ l) (one_by_one p name others) ∙ ap (λ (l : List (List ℕ)). before ++ filter p l) (sym parts) ∙ kept

-- Nicks that are to be tried, one after another.
use Rattle.std.proofs.Common.{◌≡◌, ℕ, List, [], ◌∷◌, ◌++◌, filter, Bool, true, false, cond, refl, sym, ap, ◌∙◌, append_assoc}
use Rattle.wc_irc.specs.Start.{may_be_tried}

one_by_one : (nick : List ℕ) (others : List (List ℕ)) → filter may_be_tried (nick ∷ []) ++ filter may_be_tried others ≡ filter may_be_tried (nick ∷ others)
one_by_one nick others = by (may_be_tried nick) where
  by : (t : Bool) → cond t (nick ∷ []) [] ++ filter may_be_tried others ≡ cond t (nick ∷ filter may_be_tried others) (filter may_be_tried others)
  by true = refl
  by false = refl

pub one_nick_more : (before after : List (List ℕ)) (nick : List ℕ) (others left whole : List (List ℕ)) → after ≡ before ++ filter may_be_tried (nick ∷ []) → left ≡ nick ∷ others
    → before ++ filter may_be_tried left ≡ whole → after ++ filter may_be_tried others ≡ whole
one_nick_more before after nick others left whole put parts kept =
    ap (λ (l : List (List ℕ)). l ++ filter may_be_tried others) put ∙ append_assoc before (filter may_be_tried (nick ∷ [])) (filter may_be_tried others)
    ∙ ap (λ (l : List (List ℕ)). before ++ l) (one_by_one nick others) ∙ ap (λ (l : List (List ℕ)). before ++ filter may_be_tried l) (sym parts) ∙ kept

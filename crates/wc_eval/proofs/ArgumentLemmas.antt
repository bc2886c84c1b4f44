-- The arguments of a form, found one after the other.
use Rattle.std.proofs.Common.{◌≡◌, ℕ, zero, suc, ◌-◌, ◌<◌, List, [], ◌∷◌, ◌++◌, Option, Some, None, option_map}
use Rattle.std.proofs.Common.{refl, ap, sym, ◌∙◌, arith}
use Rattle.std.specs.Borrow.{Bor}
use Rattle.std.proofs.lemmas.Option.{none-some, same_Some}
use Rattle.wc_eval.specs.Pieces.{Piece, split_at, pieces_of}
use Rattle.wc_eval.specs.Walks.{texts_of}
use Rattle.wc_eval.specs.Arguments.{arguments_by, arguments_of, lent_texts}

none_by : (others : List ℕ → Option (List (List ℕ))) (o : Option (List Piece × List Piece)) →
    None ≡ option_map texts_of o → arguments_by others o ≡ None
none_by others None e = refl
none_by others (Some parts) e = absurd (none-some _ e)

some_by : (others : List ℕ → Option (List (List ℕ))) (o : Option (List Piece × List Piece))
    (front rest : List ℕ) → Some (front, rest) ≡ option_map texts_of o →
    arguments_by others o ≡ option_map (λ texts. front ∷ texts) (others rest)
some_by others None front rest e = absurd (none-some _ (sym e))
some_by others (Some parts) front rest e =
    sym (ap (λ (p : List ℕ × List ℕ). option_map (λ texts. p.0 ∷ texts) (others p.1))
    (same_Some _ _ e))

module _ (texts : List (Bor (List ℕ))) (n : ℕ) (text : List ℕ) (whole : Option (List (List ℕ)))
    (some : 0 < n)
    (stands : option_map (λ others. lent_texts texts ++ others) (arguments_of n text) ≡ whole) where
  -- a comma lacks
  pub argument_lacks : None ≡ option_map texts_of (split_at 44 (pieces_of text)) → None ≡ whole
  argument_lacks e = by n some stands
    where
      by : (k : ℕ) → 0 < k →
          option_map (λ others. lent_texts texts ++ others) (arguments_of k text) ≡ whole → None ≡ whole
      by zero some stands = absurd (omega (arith, some))
      by (suc k) some stands = sym (ap (option_map (λ others. lent_texts texts ++ others))
          (none_by (arguments_of k) (split_at 44 (pieces_of text)) e)) ∙ stands

  gathered : (argument : Bor (List ℕ)) (o : Option (List (List ℕ))) →
      option_map (λ others. lent_texts (texts ++ argument ∷ []) ++ others) o
      ≡ option_map (λ others. lent_texts texts ++ others) (option_map (λ others. argument.now ∷ others) o)
  gathered argument None = refl
  gathered argument (Some others) = ap Some (by texts)
    where
      by : (ts : List (Bor (List ℕ))) →
          lent_texts (ts ++ argument ∷ []) ++ others ≡ lent_texts ts ++ argument.now ∷ others
      by [] = refl
      by (t ∷ ts) = ap (λ l. t.now ∷ l) (by ts)

  -- an argument more
  pub argument_more : (argument : Bor (List ℕ)) (more : List (Bor (List ℕ))) (k : ℕ) (rest : List ℕ) →
      more ≡ texts ++ argument ∷ [] → k ≡ n - 1 →
      Some (argument.now, rest) ≡ option_map texts_of (split_at 44 (pieces_of text)) →
      option_map (λ others. lent_texts more ++ others) (arguments_of k rest) ≡ whole
  argument_more argument more k rest e fewer is =
      ap (λ ts. option_map (λ others. lent_texts ts ++ others) (arguments_of k rest)) e
      ∙ gathered argument (arguments_of k rest)
      ∙ ap (option_map (λ others. lent_texts texts ++ others)) (by n some fewer)
      ∙ stands
    where
      by : (m : ℕ) → 0 < m → k ≡ m - 1 →
          option_map (λ others. argument.now ∷ others) (arguments_of k rest) ≡ arguments_of m text
      by zero some fewer = absurd (omega (arith, some))
      by (suc m) some fewer = let same : k ≡ m = omega (arith, fewer) in
          ap (λ j. option_map (λ others. argument.now ∷ others) (arguments_of j rest)) same
          ∙ sym (some_by (arguments_of m) (split_at 44 (pieces_of text)) argument.now rest is)

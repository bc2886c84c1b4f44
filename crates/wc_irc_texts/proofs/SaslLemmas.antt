-- The pieces of what a login says.
use Rattle.std.proofs.Common.{◌≡◌, ℕ, suc, ◌≤◌, ◌<◌, ◌/◌, ◌-◌, List, [], ◌∷◌, ◌++◌, length, take, drop, ap, sym, ◌∙◌, arith, append_assoc}
use Rattle.std.proofs.lemmas.List.{length-drop}
use Rattle.wc_irc_texts.specs.Sasl.{last_piece, cut, response_pieces}

whole_piece : (text : List ℕ) → 400 ≤ length text → response_pieces text ≡ take 400 text ∷ response_pieces (drop 400 text)
unfolding response_pieces
whole_piece text long =
    let one_more : length text / 400 ≡ suc ((length text - 400) / 400) = omega arith in
    ap (λ n. cut n text) one_more ∙ ap (λ n. take 400 text ∷ cut (n / 400) (drop 400 text)) (sym (length-drop 400 text))

pub end_piece : (text : List ℕ) → length text < 400 → response_pieces text ≡ last_piece text ∷ []
unfolding response_pieces
end_piece text short =
    let none : length text / 400 ≡ 0 = omega arith in
    ap (λ n. cut n text) none

pub one_piece_more : (before after whole : List (List ℕ)) (text piece rest : List ℕ) → 400 ≤ length text → piece ≡ take 400 text → rest ≡ drop 400 text → after ≡ before ++ piece ∷ []
    → before ++ response_pieces text ≡ whole → after ++ response_pieces rest ≡ whole
one_piece_more before after whole text piece rest long front back put kept =
    ap (λ (l : List (List ℕ)). l ++ response_pieces rest) put ∙ append_assoc before (piece ∷ []) (response_pieces rest) ∙ ap (λ p. before ++ p ∷ response_pieces rest) front
    ∙ ap (λ r. before ++ take 400 text ∷ response_pieces r) back ∙ ap (λ (l : List (List ℕ)). before ++ l) (sym (whole_piece text long)) ∙ kept

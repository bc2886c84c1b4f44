-- The pieces of a condition, where a parenthesis with its partner is one.
use Rattle.std.proofs.Common.{◌≡◌, ℕ, ◌+◌, ◌-◌, true, false, ◌==◌, List, [], ◌∷◌, ◌++◌, length, take}
use Rattle.std.proofs.Common.{Option, Some, None, option_map, refl, ap, sym, ◌∙◌, append_assoc}
use Rattle.std.proofs.lemmas.Bool.{eqb-true, false≢true}
use Rattle.wc_eval.specs.Pieces.{Piece, Byte, Form, Group, piece_text, text_of, is_byte, split_at}
use Rattle.wc_eval.specs.Pieces.{group_or_byte, with_groups}
use Rattle.wc_eval.specs.Walks.{after_group}
use Rattle.wc_eval.proofs.RunLemmas.{by_bool}
use Rattle.wc_eval.proofs.PieceLemmas.{split_text, past, opened_past, split_found, split_none}

abbrev Parts : Type 0
Parts = List Piece × List Piece

pub byte_is : (c : ℕ) (p : Piece) → is_byte c p ≡ true → p ≡ Byte c
byte_is c (Byte b) e = ap Byte (eqb-true b c e)
byte_is c (Form text) e = absurd (false≢true e)
byte_is c (Group text) e = absurd (false≢true e)

group_text : (ps : List Piece) (o : Option Parts) → split_at 41 ps ≡ o →
    text_of (group_or_byte ps o) ≡ 40 ∷ text_of ps
group_text ps None e = refl
group_text ps (Some parts) e =
    ap (λ l. 40 ∷ l) (append_assoc (text_of parts.0) (41 ∷ []) (text_of parts.1)
    ∙ sym (split_text 41 ps parts e))

pub groups_text : (ps : List Piece) → text_of (with_groups ps) ≡ text_of ps
groups_text [] = refl
groups_text (p ∷ ps) = by_bool (is_byte 40 p) _
    (λ t. rw t (group_text (with_groups ps) (split_at 41 (with_groups ps)) refl
    ∙ ap (λ l. 40 ∷ l) (groups_text ps)
    ∙ ap (λ q. piece_text q ++ text_of ps) (sym (byte_is 40 p t))))
    (λ f. rw f (ap (λ l. piece_text p ++ l) (groups_text ps)))

pub after_groups : (ps : List Piece) (n : ℕ) →
    option_map with_groups (after_group n ps) ≡ past 41 n (with_groups ps)
after_groups [] n = refl
after_groups (p ∷ ps) n = by_bool (is_byte 40 p) _
    (λ t. rw t (after_groups ps (n + 1)
    ∙ sym (opened_past 41 group_or_byte n (with_groups ps) refl (λ parts. refl))))
    (λ f. by_bool (is_byte 41 p) _
    (λ t. by_bool (n == 0) _ (λ z. rw (f, t, z) refl) (λ z. rw (f, t, z) (after_groups ps (n - 1))))
    (λ g. rw (f, g) (after_groups ps n)))

module _ (ps : List Piece) (p : Piece) (qs : List Piece) (is : ps ≡ p ∷ qs) where
  pub block_plain : is_byte 40 p ≡ false → with_groups ps ≡ p ∷ with_groups qs
  block_plain f = ap with_groups is ∙ rw f refl

  pub block_loose : is_byte 40 p ≡ true → None ≡ after_group 0 qs → with_groups ps ≡ p ∷ with_groups qs
  block_loose t e =
      let none : split_at 41 (with_groups qs) ≡ None = split_none 41 (with_groups qs)
      (sym (after_groups qs 0) ∙ ap (option_map with_groups) (sym e)) in
      ap with_groups is ∙ rw (t, none) (ap (λ q. q ∷ with_groups qs) (sym (byte_is 40 p t)))

  pub block_group : (rest : List Piece) (text left : List ℕ) → is_byte 40 p ≡ true →
      Some rest ≡ after_group 0 qs → text_of qs ≡ text → text_of rest ≡ left →
      with_groups ps ≡ Group (take (length text - length left - 1) text) ∷ with_groups rest
  block_group rest text left t e one two =
      let found : past 41 0 (with_groups qs) ≡ Some (with_groups rest) =
      sym (after_groups qs 0) ∙ ap (option_map with_groups) (sym e) in
      let split = split_found 41 (with_groups qs) (with_groups rest) found in
      let front : text_of split.before ≡ take (length text - length left - 1) text =
      split.written ∙ same (groups_text qs ∙ one) (groups_text rest ∙ two) in
      ap with_groups is ∙ rw (t, split.split) (ap (λ l. Group l ∷ with_groups rest) front)
    where
      same : {a b : List ℕ} → a ≡ text → b ≡ left →
          take (length a - length b - 1) a ≡ take (length text - length left - 1) text
      same p q = rw (p, q) refl

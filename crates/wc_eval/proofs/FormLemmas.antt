-- The text up to a form, and up to a byte outside forms.
use Rattle.std.proofs.Common.{◌≡◌, ℕ, suc, ◌-◌, ◌≤◌, false, ◌==◌, List, [], ◌∷◌, ◌++◌, length, take}
use Rattle.std.proofs.Common.{Option, Some, None, option_map, refl, ap, sym, subst, ◌∙◌, arith}
use Rattle.std.proofs.lemmas.Option.{none-some, same_Some}
use Rattle.std.proofs.lemmas.Bool.{and_parts, false≢true}
use Rattle.wc_eval.specs.declared.pieces.Walk.{Walk}
use Rattle.wc_eval.specs.Pieces.{Piece, Byte, Form, text_of, is_byte, split_at, bytes_of, pieces_of}
use Rattle.wc_eval.specs.Walks.{begins_form, after_form, inside_form, left_of, from_form}
use Rattle.wc_eval.specs.Walks.{past_byte, texts_of}
use Rattle.wc_eval.proofs.RunLemmas.{by_bool}
use Rattle.wc_eval.proofs.PieceLemmas.{plain_pieces, pieces_text, step_loose, step_form, front_is, split_text}

abbrev Parts : Type 0
Parts = List Piece × List Piece

-- ---- to a form

long_from : (text : List ℕ) → length (from_form text) ≤ length text
long_from [] = omega arith
long_from (b ∷ text) = let rest = long_from text in by_bool (begins_form b text) _
    (λ t. rw t (omega arith))
    (λ f. rw f (omega (arith, rest)))

-- what is before the rest of a text
abbrev before_rest : List ℕ → List ℕ → List ℕ
before_rest text rest = take (length text - length rest) text

record IsPassed (text : List ℕ) : Type 0 where
  pub parted : before_rest text (from_form text) ++ from_form text ≡ text
  pub pieces : pieces_of text
      ≡ bytes_of (before_rest text (from_form text)) ++ pieces_of (from_form text)

nothing_passed : (text : List ℕ) → from_form text ≡ text → IsPassed text
nothing_passed text same =
    let none : length text - length text ≡ 0 = omega arith in record {
      parted = rw (same, none) refl;
      pieces = rw (same, none) refl;
    }

passed : (text : List ℕ) → IsPassed text
passed [] = record { parted = refl; pieces = refl }
passed (b ∷ text) = by_bool (begins_form b text) _
    (λ t. nothing_passed (b ∷ text) (rw t refl))
    (λ f. let rest = long_from text in
    let more : suc (length text) - length (from_form text)
    ≡ suc (length text - length (from_form text)) = omega (arith, rest) in
    let ih = passed text in record {
      parted = rw (f, more) (ap (λ l. b ∷ l) ih.parted);
      pieces = rw (f, more) (plain_pieces b text f ∙ ap (λ l. Byte b ∷ l) ih.pieces);
    })

no_form : (text : List ℕ) → None ≡ inside_form (from_form text) → from_form text ≡ []
no_form [] e = refl
no_form (b ∷ []) e = by_bool (begins_form b []) _
    (λ t. absurd (false≢true (and_parts (b == 36) false t).1))
    (λ f. rw f refl)
no_form (b ∷ c ∷ text) e = by_bool (begins_form b (c ∷ text)) _
    (λ t. absurd (none-some _ (rw (t, t) at e)))
    (λ f. rw f (no_form (c ∷ text) (rw f at e)))

bytes_both : (a b : List ℕ) → bytes_of (a ++ b) ≡ bytes_of a ++ bytes_of b
bytes_both [] b = refl
bytes_both (x ∷ a) b = ap (λ l. Byte x ∷ l) (bytes_both a b)

no_bytes : pieces_of [] ≡ bytes_of []
unfolding pieces_of
no_bytes = refl

module _ (text rest : List ℕ) (is : rest ≡ from_form text) where
  bytes_left : pieces_of rest ≡ bytes_of rest → pieces_of text ≡ bytes_of text
  bytes_left e =
      let here = passed text in
      let left : pieces_of (from_form text) ≡ bytes_of (from_form text) =
      subst (λ l. pieces_of l ≡ bytes_of l) is e in
      here.pieces ∙ ap (λ l. bytes_of (before_rest text (from_form text)) ++ l) left
      ∙ sym (bytes_both (before_rest text (from_form text)) (from_form text)) ∙ ap bytes_of here.parted

  pub cuts_none : None ≡ inside_form rest → pieces_of text ≡ bytes_of text
  cuts_none e = bytes_left (subst (λ l. pieces_of l ≡ bytes_of l)
      (sym (is ∙ no_form text (e ∙ ap inside_form is))) no_bytes)

  pub cuts_loose : (inside : List ℕ) → Some inside ≡ inside_form rest → None ≡ after_form 0 inside →
      pieces_of text ≡ bytes_of text
  cuts_loose inside e none = bytes_left (by rest e)
    where
      by : (rest : List ℕ) → Some inside ≡ inside_form rest → pieces_of rest ≡ bytes_of rest
      by [] e = absurd (none-some _ (sym e))
      by (b ∷ others) e = step_loose (b ∷ others) b others refl inside e none

  pub cuts_form : (inside end : List ℕ) → Some inside ≡ inside_form rest →
      Some end ≡ after_form 0 inside → pieces_of text
      ≡ bytes_of (take (length text - length rest) text)
      ++ Form (take (length inside - length end - 1) inside) ∷ pieces_of end
  cuts_form inside end e found =
      (passed text).pieces
      ∙ ap (λ l. bytes_of (before_rest text l) ++ pieces_of l) (sym is)
      ∙ ap (λ l. bytes_of (before_rest text rest) ++ l) (step_form rest inside end e found)

-- ---- to a byte

past_split : (c : ℕ) (ps : List Piece) →
    past_byte c ps ≡ option_map (λ (parts : Parts). parts.1) (split_at c ps)
past_split c [] = refl
past_split c (p ∷ ps) = by_bool (is_byte c p) _
    (λ t. rw t refl)
    (λ f. rw f (past_split c ps ∙ by (split_at c ps)))
  where
    by : (o : Option Parts) → option_map (λ (parts : Parts). parts.1) o
        ≡ option_map (λ (parts : Parts). parts.1)
        (option_map (λ (parts : Parts). (p ∷ parts.0, parts.1)) o)
    by None = refl
    by (Some parts) = refl

module _ (c : ℕ) (text : List ℕ) (start : Walk) (is : left_of start ≡ pieces_of text) where
  pub byte_none : None ≡ past_byte c (left_of start) → option_map texts_of (split_at c (pieces_of text)) ≡ None
  byte_none e = by (split_at c (pieces_of text)) (e ∙ ap (past_byte c) is ∙ past_split c (pieces_of text))
    where
      by : (o : Option Parts) → None ≡ option_map (λ (parts : Parts). parts.1) o →
          option_map texts_of o ≡ None
      by None e = refl
      by (Some parts) e = absurd (none-some _ e)

  pub byte_some : (end : Walk) (left : List ℕ) → left ≡ end.rest.now →
      Some (left_of end) ≡ past_byte c (left_of start) → option_map texts_of (split_at c (pieces_of text))
      ≡ Some (take (length text - length left - 1) text, left)
  byte_some end left here e = by (split_at c (pieces_of text)) refl
      (e ∙ ap (past_byte c) is ∙ past_split c (pieces_of text))
    where
      by : (o : Option Parts) → split_at c (pieces_of text) ≡ o →
          Some (left_of end) ≡ option_map (λ (parts : Parts). parts.1) o →
          option_map texts_of o ≡ Some (take (length text - length left - 1) text, left)
      by None split e = absurd (none-some _ (sym e))
      by (Some parts) split e =
          let after : left_of end ≡ parts.1 = same_Some _ _ e in
          let rest : text_of parts.1 ≡ left = ap text_of (sym after)
          ∙ pieces_text end.has_bytes_alone end.rest.now ∙ sym here in
          let whole : text ≡ text_of parts.0 ++ c ∷ left = sym (pieces_text false text)
          ∙ split_text c (pieces_of text) parts split
          ∙ ap (λ l. text_of parts.0 ++ c ∷ l) rest in
          rw (front_is text (text_of parts.0) c left whole, rest) refl

-- ---- what is cut

pub same_cut : (text front inside rest : List ℕ) (ps : List Piece) (one two : List ℕ) → front ≡ one →
    inside ≡ two → ps ≡ bytes_of one ++ Form two ∷ pieces_of rest →
    ps ≡ bytes_of front ++ Form inside ∷ pieces_of rest
same_cut text front inside rest ps one two p q e = rw (p, q) e

pub same_pair : (a b c d : List ℕ) → a ≡ b → c ≡ d →
    ◌≡◌ {A = Option (List ℕ × List ℕ)} (Some (a, c)) (Some (b, d))
same_pair a b c d p q = rw (p, q) refl

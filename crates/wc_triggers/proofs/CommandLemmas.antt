-- The commands of a trigger, one after another.
use Rattle.std.proofs.Common.{◌≡◌, ℕ, Bool, true, false, ◌&&◌, ◌||◌, cond, List, [], ◌∷◌, ◌++◌, Option, Some, None, refl, ap, sym, ◌∙◌, append_assoc}
use Rattle.std.specs.Prelude.{◌==◌, All}
use Rattle.std.specs.List.{onto_first}
use Rattle.std.specs.Str.{IsUtf8}
use Rattle.wc_text.specs.Splits.{past}
use Rattle.wc_text.specs.Words.{is_filled}
use Rattle.wc_triggers.specs.Slashes.{unslashed, with_byte}
use Rattle.wc_triggers.specs.Commands.{pieces_of, filled_of, pieces_left}
use Rattle.std.proofs.lemmas.List.Elements.{All-nil, All-cons}
use Rattle.wc_triggers.proofs.SlashLemmas.{Read}
use Rattle.wc_triggers.proofs.TextLemmas.{past_text}

abbrev pieces_after : Read → List (List ℕ)
pieces_after read = read.0 ∷ pieces_left read.1

plain : (t u : Bool) → (t || (false && u)) ≡ t
plain true u = refl
plain false u = refl

-- the first piece, and the others
pub first_piece : (text : List ℕ) → pieces_of text ≡ pieces_after (unslashed 59 false text)
unfolding pieces_of unslashed
first_piece [] = refl
first_piece (b ∷ []) = by (b == 59) where
  by : (t : Bool) → cond t ([] ∷ [] ∷ []) ((b ∷ []) ∷ []) ≡ pieces_after (cond t ([], Some []) (b ∷ [], None))
  by true = refl
  by false = refl
first_piece (b ∷ c ∷ text) =
    by (b == 59) (b == 92 && c == 59) (b == 92 && (c == 59 || (false && c == 92)))
    (ap (λ t. b == 92 && t) (sym (plain (c == 59) (c == 92)))) (first_piece text) (first_piece (c ∷ text)) where
      by : (t u v : Bool) → u ≡ v → pieces_of text ≡ pieces_after (unslashed 59 false text) →
          pieces_of (c ∷ text) ≡ pieces_after (unslashed 59 false (c ∷ text)) →
          cond t ([] ∷ pieces_of (c ∷ text)) (cond u (onto_first c (pieces_of text)) (onto_first b (pieces_of (c ∷ text))))
          ≡ pieces_after (cond t ([], Some (c ∷ text)) (cond v (with_byte c (unslashed 59 false text)) (with_byte b (unslashed 59 false (c ∷ text)))))
      by true u v e one two = refl
      by false true true e one two = ap (onto_first c) one
      by false false false e one two = ap (onto_first b) two
      by false true false e one two = absurd (cc)
      by false false true e one two = absurd (cc)

filled_first : (piece : List ℕ) (pieces : List (List ℕ)) → filled_of (piece ∷ pieces) ≡ filled_of (piece ∷ []) ++ filled_of pieces
filled_first piece pieces = by (is_filled (past 32 piece)) where
  by : (t : Bool) → cond t (past 32 piece ∷ filled_of pieces) (filled_of pieces) ≡ cond t (past 32 piece ∷ []) [] ++ filled_of pieces
  by true = refl
  by false = refl

-- one command more
pub next_command : (commands new all : List (List ℕ)) (text command : List ℕ) (others : Option (List ℕ)) →
    commands ++ filled_of (pieces_of text) ≡ all → ◌≡◌ {A = Read} (command, others) (unslashed 59 false text) →
    new ≡ commands ++ filled_of (command ∷ []) → new ++ filled_of (pieces_left others) ≡ all
next_command commands new all text command others so_far read made =
    ap (λ l. l ++ filled_of (pieces_left others)) made
    ∙ append_assoc commands (filled_of (command ∷ [])) (filled_of (pieces_left others))
    ∙ ap (λ l. commands ++ l) (sym (filled_first command (pieces_left others)))
    ∙ ap (λ (r : Read). commands ++ filled_of (pieces_after r)) read
    ∙ ap (λ l. commands ++ filled_of l) (sym (first_piece text))
    ∙ so_far

-- what is put after the others is UTF-8
pub filled_utf8 : (command : List ℕ) → IsUtf8 command → All IsUtf8 (filled_of (command ∷ []))
filled_utf8 command utf8 = by (is_filled (past 32 command)) (past_text command utf8) where
  by : (t : Bool) → IsUtf8 (past 32 command) → All IsUtf8 (cond t (past 32 command ∷ []) [])
  by true here = All-cons IsUtf8 (past 32 command) [] here (All-nil IsUtf8)
  by false here = All-nil IsUtf8

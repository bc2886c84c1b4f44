-- What a trigger replaces: patterns, by what, and in which variables.
use Rattle.std.specs.Prelude.{ℕ, zero, suc, Bool, List, [], ◌∷◌, length, Option, Some, None}
use Rattle.std.specs.Prelude.{option_map, if◌then◌else◌}
use Rattle.std.specs.Option.{option_and_then}
use Rattle.std.specs.List.{list_all}
use Rattle.std.specs.Str.{IsUtf8, chars, encode_utf8_all}
use Rattle.wc_text.specs.Splits.{before, text_after, past, word_of, rest_of}
use Rattle.wc_hooks.specs.declared.kind.HookKind.{HookKind}
use Rattle.wc_eval.specs.Verdicts.{Oracle, VerdictsView, is_known_fine}
use Rattle.wc_triggers.specs.Hooks.{variables_of, own_variable, is_among}
use Rattle.wc_triggers.specs.declared.replacements.Replacement.{Replacement}

-- the variable of a hook that a name means, of which the empty one means the hook's own
abbrev pub variable_of : HookKind → List ℕ → Option (List ℕ)
variable_of kind [] = Some (own_variable kind)
variable_of kind (b ∷ name) = if is_among (variables_of kind) (b ∷ name)
    then Some (b ∷ name) else None

-- what the characters after the third delimiter are: a variable's name, and what follows it after
-- blanks
abbrev pub tail_of : Option (List ℕ) → List ℕ × List ℕ
tail_of None = ([], [])
tail_of (Some text) = (word_of text, rest_of text)

-- A part as it is written, in characters, and what follows it after blanks.
pub record Written : Type 0 where
  pub pattern : List ℕ
  pub replacement : List ℕ
  pub name : List ℕ
  pub rest : List ℕ

abbrev pub written_by : List ℕ → List ℕ → List ℕ × List ℕ → Written
written_by pattern replacement tail = record {
  pattern = pattern;
  replacement = replacement;
  name = tail.0;
  rest = tail.1;
}

abbrev pub written_after : ℕ → List ℕ → Option (List ℕ) → Option Written
written_after mark pattern None = None
written_after mark [] (Some text) = None
written_after mark (p ∷ pattern) (Some text) =
    Some (written_by (p ∷ pattern) (before mark text) (tail_of (text_after mark text)))

-- The part at the front of some characters: a delimiter, a pattern that is not empty, the delimiter
-- again, a replacement, and where a third delimiter stands a variable's name up to the next blank.
abbrev pub written_front : List ℕ → Option Written
written_front [] = None
written_front (mark ∷ text) = written_after mark (before mark text) (text_after mark text)

abbrev pub replacing : Written → List ℕ → Replacement
replacing part variable = record {
  pattern = encode_utf8_all part.pattern;
  replacement = encode_utf8_all part.replacement;
  variable = variable;
}

-- what a part replaces, where the hook has its variable
abbrev pub replacement_of : HookKind → Written → Option Replacement
replacement_of kind part = option_map (replacing part) (variable_of kind (encode_utf8_all part.name))

abbrev pub with_rest : List ℕ → Option Replacement → Option (Replacement × List ℕ)
with_rest rest part = option_map (λ p. (p, rest)) part

abbrev pub replacing_front : HookKind → Written → Option (Replacement × List ℕ)
replacing_front kind part = with_rest part.rest (replacement_of kind part)

abbrev pub part_front : HookKind → List ℕ → Option (Replacement × List ℕ)
part_front kind text = option_and_then (replacing_front kind) (written_front text)

abbrev pub with_part : Replacement → Option (List Replacement) → Option (List Replacement)
with_part part parts = option_map (λ others. part ∷ others) parts

-- all parts of some characters that begin with no blank, where they are at most n
unfoldable pub parts_up_to : HookKind → ℕ → List ℕ → Option (List Replacement)
parts_up_to kind zero [] = Some []
parts_up_to kind (suc n) [] = Some []
parts_up_to kind zero (c ∷ text) = None
parts_up_to kind (suc n) (c ∷ text) =
    option_and_then (λ front. with_part front.0 (parts_up_to kind n front.1))
    (part_front kind (c ∷ text))

-- all of them, which are no more than the characters
abbrev pub all_parts : HookKind → List ℕ → Option (List Replacement)
all_parts kind text = parts_up_to kind (length text) text

-- what a text replaces, where all of it is such parts
abbrev pub replacements_of : HookKind → List ℕ → Option (List Replacement)
replacements_of kind text = all_parts kind (past 32 (chars text))

-- pattern and replacement are UTF-8
abbrev pub HasTexts : Replacement → Type 0
HasTexts part = IsUtf8 part.pattern × IsUtf8 part.replacement

-- ---- whether the patterns are some

-- by total verdicts
abbrev pub are_fine : Oracle → List Replacement → Bool
are_fine oracle parts = list_all (λ p. oracle p.pattern) parts

-- by the verdicts that were given
abbrev pub are_known : VerdictsView → List Replacement → Bool
are_known verdicts parts = list_all (λ p. is_known_fine p.pattern verdicts) parts

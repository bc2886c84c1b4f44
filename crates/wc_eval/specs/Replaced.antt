-- Texts in which the matches of patterns are replaced by values.
use Rattle.std.specs.Prelude.{ℕ, List, [], ◌∷◌, length, map, slice_range, Option, Some, None}
use Rattle.std.specs.Prelude.{option_and_then}
use Rattle.wc_eval.specs.Verdicts.{Oracle}
use Rattle.wc_eval.specs.Names.{Facts, or_empty, text_in}
use Rattle.wc_eval.specs.Progress.{Progress, Answer, then_do, answer_of, if_short}
use Rattle.wc_eval.specs.Meaning.{put_before, evaluator, most_levels}

-- ---- what a match spans

-- What each group of a match spans, of which the first is the match.
abbrev pub Groups : Type 0
Groups = List (Option (ℕ × ℕ))

-- The bytes between two places, where they are text. Between characters they are, and so is each
-- place of a match.
abbrev pub text_between : List ℕ → ℕ → ℕ → List ℕ
text_between text from to = or_empty (text_in (slice_range text from to))

-- a group that took no part in the match is empty
abbrev pub group_text : List ℕ → Option (ℕ × ℕ) → List ℕ
group_text text None = []
group_text text (Some span) = text_between text span.0 span.1

abbrev pub group_texts : List ℕ → Groups → List (List ℕ)
group_texts text groups = map (group_text text) groups

-- where a match begins and ends
abbrev pub match_span : Groups → ℕ × ℕ
match_span [] = (0, 0)
match_span (None ∷ groups) = (0, 0)
match_span (Some span ∷ groups) = span

-- ---- what it is replaced by

-- how a match of these groups is replaced
abbrev pub Replacer : Type 0
Replacer = List (List ℕ) → Progress → Answer (List ℕ)

-- a text from a place on, in which these matches are replaced, from the left
abbrev pub matches_value : Replacer → List ℕ → ℕ → List Groups → Progress → Answer (List ℕ)
matches_value replacer text at [] progress =
    answer_of (text_between text at (length text)) progress
matches_value replacer text at (m ∷ ms) progress =
    put_before (text_between text at (match_span m).0)
    (then_do (replacer (group_texts text m) progress) (λ value after.
    put_before value (matches_value replacer text (match_span m).1 ms after)))

-- by a text that is evaluated with the groups of the match
abbrev pub value_at : Facts → Oracle → List ℕ → Replacer
value_at scope oracle replacement groups =
    evaluator (record scope { groups = groups }) oracle most_levels replacement

-- the text with these matches replaced
unfoldable pub replaced_text : Facts → Oracle → List ℕ → List ℕ → List Groups → Progress →
    Answer (List ℕ)
replaced_text scope oracle replacement text matches progress =
    if_short (matches_value (value_at scope oracle replacement) text 0 matches progress)

-- ---- several texts

-- What an evaluation that several texts share keeps, or nothing once it passed a limit.
abbrev pub Evaluation : Type 0
Evaluation = Option Progress

-- a text is empty where a limit is passed, and the evaluation is over then
abbrev pub value_and_rest : Answer (List ℕ) → List ℕ × Evaluation
value_and_rest None = ([], None)
value_and_rest (Some found) = (found.0, Some found.1)

-- the text with these matches replaced, and how the evaluation goes on
abbrev pub replaced : Facts → Oracle → List ℕ → List ℕ → List Groups → Evaluation →
    List ℕ × Evaluation
replaced scope oracle replacement text matches evaluation = value_and_rest
    (option_and_then (replaced_text scope oracle replacement text matches) evaluation)

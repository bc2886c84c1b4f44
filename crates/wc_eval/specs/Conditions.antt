-- Conditions, where the evaluation of texts is given.
use Rattle.std.specs.Prelude.{ℕ, zero, suc, nat_le, Bool, true, false, List, [], ◌∷◌}
use Rattle.std.specs.Prelude.{if◌then◌else◌, Option, Some, None}
use Rattle.wc_eval.specs.Verdicts.{Oracle}
use Rattle.wc_eval.specs.Texts.{without_blanks, is_true, digit_of}
use Rattle.wc_eval.specs.Pieces.{most_open}
use Rattle.wc_eval.specs.declared.comparison.Comparison.{Comparison}
use Rattle.wc_eval.specs.Comparisons.{has_text_sides, holds_by}
use Rattle.wc_eval.specs.Parts.{Comparing, parts_of, whole_group, comparing_in}
use Rattle.wc_eval.specs.Progress.{Progress, Answer, Evaluator, then_do, answer_of}

-- how a condition is tested
abbrev pub Test : Type 0
Test = List ℕ → Progress → Answer Bool

-- ---- `||` and `&&`

-- from the left, until one holds
abbrev pub some_holds : Test → List (List ℕ) → Progress → Answer Bool
some_holds test [] progress = answer_of false progress
some_holds test (t ∷ ts) progress = then_do (test t progress) (λ holds after.
    if holds then answer_of true after else some_holds test ts after)

-- from the left, until one does not hold
abbrev pub all_hold : Test → List (List ℕ) → Progress → Answer Bool
all_hold test [] progress = answer_of true progress
all_hold test (t ∷ ts) progress = then_do (test t progress) (λ holds after.
    if holds then all_hold test ts after else answer_of false after)

-- ---- comparisons and texts

-- what a text without blanks around it is worth: one group in parentheses `1` or `0` by the
-- condition in it, and another text its value
abbrev pub worth_of : Evaluator → Test → List ℕ → Option (List ℕ) → Progress → Answer (List ℕ)
worth_of evaluate inside text None progress = evaluate text progress
worth_of evaluate inside text (Some condition) progress = then_do (inside condition progress)
    (λ holds after. answer_of (digit_of holds) after)

-- what a side of a comparison is worth, which may be a text in any case
abbrev pub side_of : Evaluator → Test → Bool → List ℕ → Progress → Answer (List ℕ)
side_of evaluate inside true text progress = evaluate text progress
side_of evaluate inside false text progress =
    worth_of evaluate inside text (whole_group text) progress

-- both sides, without the blanks around them, and what they say
abbrev pub comparison_holds : Oracle → Evaluator → Test → Comparison → List ℕ → List ℕ →
    Progress → Answer Bool
comparison_holds oracle evaluate inside comparison left right progress =
    then_do (side_of evaluate inside (has_text_sides comparison) (without_blanks left) progress)
    (λ a after. then_do (side_of evaluate inside (has_text_sides comparison)
    (without_blanks right) after)
    (λ b last. answer_of (holds_by oracle comparison a b) last))

-- without a comparison the text is true or not
abbrev pub comparison_or_text : Oracle → Evaluator → Test → List ℕ → Option Comparing → Progress →
    Answer Bool
comparison_or_text oracle evaluate inside text None progress =
    then_do (side_of evaluate inside false text progress) (λ value after.
    answer_of (is_true value) after)
comparison_or_text oracle evaluate inside text (Some found) progress =
    comparison_holds oracle evaluate inside found.comparison found.left found.right progress

-- a condition without `||` and `&&` outside parentheses
abbrev pub single_holds : Oracle → Evaluator → Test → Test
single_holds oracle evaluate inside text progress =
    comparison_or_text oracle evaluate inside (without_blanks text)
    (comparing_in (without_blanks text)) progress

-- ---- ranks

-- a condition, where those in its parentheses are tested so
abbrev pub holds_with : Oracle → Evaluator → Test → Test
holds_with oracle evaluate inside text progress =
    some_holds (λ part. all_hold (single_holds oracle evaluate inside) (parts_of 38 part))
    (parts_of 124 text) progress

abbrev pub never : Test
never text progress = answer_of false progress

-- a condition in which so many parentheses may be inside one another
unfoldable pub holds_at : Oracle → Evaluator → ℕ → Test
holds_at oracle evaluate zero = holds_with oracle evaluate never
holds_at oracle evaluate (suc groups) = holds_with oracle evaluate
    (holds_at oracle evaluate groups)

-- a condition in parentheses, of which so many may be inside one another
abbrev pub inside_at : Oracle → Evaluator → ℕ → Test
inside_at oracle evaluate zero = never
inside_at oracle evaluate (suc groups) = holds_at oracle evaluate groups

-- the most parentheses that may be open at one place
abbrev pub most_groups : ℕ
most_groups = 32

-- a condition; with too many parentheses open at one place it is false
unfoldable pub condition_by : Oracle → Evaluator → Test
condition_by oracle evaluate text progress = if nat_le (most_open text) most_groups
    then holds_at oracle evaluate most_groups text progress else answer_of false progress

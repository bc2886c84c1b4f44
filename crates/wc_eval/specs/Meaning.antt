-- The value of a text and of a condition, by cases on the forms in it.
use Rattle.std.specs.Prelude.{ℕ, zero, suc, Bool, false, List, [], ◌∷◌, ◌++◌}
use Rattle.std.specs.Prelude.{Option, Some, None, slice_get}
use Rattle.wc_eval.specs.Verdicts.{Oracle}
use Rattle.wc_eval.specs.Texts.{digit_of, lower_case, upper_case, reverse_text}
use Rattle.wc_eval.specs.Pieces.{Piece, Byte, Form, Group, piece_text, text_of, split_at}
use Rattle.wc_eval.specs.Pieces.{pieces_of, blocks_of}
use Rattle.wc_eval.specs.Branches.{branch, branches_of}
use Rattle.wc_eval.specs.Arguments.{arguments_of}
use Rattle.wc_eval.specs.declared.kind.Kind.{Kind}
use Rattle.wc_eval.specs.declared.kind.Kind.TheVariants as kind
use Rattle.wc_eval.specs.Kinds.{kind_of, commas_of}
use Rattle.wc_eval.specs.Values.{repeat_value, hide_value}
use Rattle.wc_eval.specs.Cuts.{calc_value, length_value, cut_value, split_value}
use Rattle.wc_eval.specs.Names.{Facts, or_empty, name_value, group_value}
use Rattle.wc_eval.specs.Progress.{Progress, fresh, Answer, then_do, answer_of, value_or, Evaluator}
use Rattle.wc_eval.specs.Progress.{if_short, if_fits, with_count, define}
use Rattle.wc_eval.specs.Conditions.{Test, condition_by}

-- ---- texts

abbrev pub put_before : List ℕ → Answer (List ℕ) → Answer (List ℕ)
put_before front answer = then_do answer (λ value progress. answer_of (front ++ value) progress)

-- pieces one after the other, where a form has this value; the rest is as it is
abbrev pub pieces_value : Evaluator → List Piece → Progress → Answer (List ℕ)
pieces_value form [] progress = answer_of [] progress
pieces_value form (Byte b ∷ ps) progress = put_before (b ∷ []) (pieces_value form ps progress)
pieces_value form (Group text ∷ ps) progress =
    put_before (piece_text (Group text)) (pieces_value form ps progress)
pieces_value form (Form text ∷ ps) progress = then_do (form text progress) (λ value after.
    put_before value (pieces_value form ps after))

abbrev pub text_by : Evaluator → Evaluator
text_by form text progress = if_short (pieces_value form (pieces_of text) progress)

-- ---- forms with arguments

abbrev pub values_by : Evaluator → List (List ℕ) → Progress → Answer (List (List ℕ))
values_by evaluate [] progress = answer_of [] progress
values_by evaluate (t ∷ ts) progress = then_do (evaluate t progress) (λ value after.
    then_do (values_by evaluate ts after) (λ values last. answer_of (value ∷ values) last))

-- the argument of a number from 0, or nothing
abbrev pub argument : List (List ℕ) → ℕ → List ℕ
argument arguments n = or_empty (slice_get arguments n)

-- the value of a form of this kind, whose arguments are values
abbrev pub call_value : Facts → Progress → Kind → List (List ℕ) → List ℕ
call_value scope progress kind.Raw a = argument a 0
call_value scope progress kind.Eval a = argument a 0
call_value scope progress kind.If a = argument a 0
call_value scope progress kind.Calc a = calc_value (argument a 0)
call_value scope progress kind.Length a = length_value (argument a 0)
call_value scope progress kind.Lower a = lower_case (argument a 0)
call_value scope progress kind.Upper a = upper_case (argument a 0)
call_value scope progress kind.Rev a = reverse_text (argument a 0)
call_value scope progress kind.Cut a = cut_value (argument a 0) (argument a 1) (argument a 2)
call_value scope progress kind.Repeat a = repeat_value (argument a 0) (argument a 1)
call_value scope progress kind.Hide a = hide_value (argument a 0) (argument a 1)
call_value scope progress kind.Split a =
    split_value (argument a 0) (argument a 1) (argument a 2) (argument a 3)
call_value scope progress kind.Define a = []
call_value scope progress kind.Group a = group_value scope (argument a 0)
call_value scope progress kind.Name a = name_value scope progress.names (argument a 0)

-- a name that is not empty is defined
abbrev pub with_defined : List ℕ → List ℕ → Progress → Progress
with_defined [] value progress = progress
with_defined (b ∷ name) value progress = define (b ∷ name) value progress

-- what is kept after a form of this kind
abbrev pub after_call : Kind → List (List ℕ) → Progress → Progress
after_call kind.Define a progress = with_defined (argument a 0) (argument a 1) progress
after_call k a progress = progress

-- a form with too few arguments is the empty text
abbrev pub call_by : Facts → Evaluator → Kind → Option (List (List ℕ)) → Progress →
    Answer (List ℕ)
call_by scope evaluate k None progress = answer_of [] progress
call_by scope evaluate k (Some texts) progress = then_do (values_by evaluate texts progress)
    (λ a after. answer_of (call_value scope after k a) (after_call k a after))

-- ---- `${if:}`

-- what comes after the first `?` are two branches; without one the condition's value is written
abbrev pub if_by : Evaluator → Test → List ℕ → Option (List Piece × List Piece) → Progress →
    Answer (List ℕ)
if_by evaluate holds text None progress = then_do (holds text progress) (λ h after.
    answer_of (digit_of h) after)
if_by evaluate holds text (Some parts) progress = then_do (holds (text_of parts.0) progress)
    (λ h after. evaluate (branch h (branches_of (text_of parts.1))) after)

abbrev pub if_value : Evaluator → Test → Evaluator
if_value evaluate holds text progress =
    if_by evaluate holds text (split_at 63 (blocks_of text)) progress

-- ---- forms

-- a form of this kind, whose text comes after its word
abbrev pub kind_value : Facts → Oracle → Evaluator → Kind → Evaluator
kind_value scope oracle evaluate kind.Raw text progress = answer_of text progress
kind_value scope oracle evaluate kind.Eval text progress =
    then_do (evaluate text progress) evaluate
kind_value scope oracle evaluate kind.If text progress =
    if_value evaluate (condition_by oracle evaluate) text progress
kind_value scope oracle evaluate k text progress =
    call_by scope evaluate k (arguments_of (commas_of k) text) progress

-- a form, where texts in it are evaluated so
abbrev pub form_by : Facts → Oracle → Evaluator → Evaluator
form_by scope oracle evaluate = with_count (λ text progress. if_fits
    (kind_value scope oracle evaluate (kind_of text).0 (kind_of text).1 progress))

-- more forms inside one another than may be
abbrev pub too_deep : Evaluator
too_deep text progress = None

-- how a text is evaluated in which so many forms may be inside one another
unfoldable pub evaluator : Facts → Oracle → ℕ → Evaluator
evaluator scope oracle zero = text_by too_deep
evaluator scope oracle (suc levels) = text_by (form_by scope oracle (evaluator scope oracle levels))

-- the value of a form, inside which there may be so many less one
unfoldable pub form_at : Facts → Oracle → ℕ → Evaluator
form_at scope oracle zero = too_deep
form_at scope oracle (suc levels) = form_by scope oracle (evaluator scope oracle levels)

-- the most forms that may be inside one another
abbrev pub most_levels : ℕ
most_levels = 32

-- ---- what is promised

-- the value of a text; where a limit is passed it is empty
unfoldable pub text_value : Facts → Oracle → List ℕ → List ℕ
text_value scope oracle text = value_or [] (evaluator scope oracle most_levels text fresh)

-- whether a condition holds; where a limit is passed it does not
unfoldable pub condition_holds : Facts → Oracle → List ℕ → Bool
condition_holds scope oracle text = value_or false
    (condition_by oracle (evaluator scope oracle most_levels) text fresh)

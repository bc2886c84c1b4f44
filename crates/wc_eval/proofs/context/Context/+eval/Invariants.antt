use Rattle.std.proofs.Common.{◌+◌, ◌*◌, All, length, drop, IsUtf8}
use Rattle.wc_eval.specs.Verdicts.{Stay}
use Rattle.wc_eval.specs.Names.{facts_of}
use Rattle.wc_eval.specs.Arguments.{lent_texts}
use Rattle.wc_eval.specs.Conditions.{holds_at, inside_at, single_holds}
use Rattle.wc_eval.specs.Meaning.{evaluator, form_at, values_by}
use Rattle.wc_eval.specs.Turns.{found_from, turn_of, turn_size, TurnUtf8}
use Rattle.wc_eval.proofs.StepLemmas.{Comes}
use Rattle.wc_eval.proofs.MeaningLemmas.{left_of_text, left_of_values}
use Rattle.wc_eval.proofs.context.Context.+eval.Given as goal

-- ---- what decreases: the forms that may still nest, then the step in one of them

abbrev pub decreases-form : goal.decreases-form
decreases-form l = l.self.levels * 200

abbrev pub decreases-text : goal.decreases-text
decreases-text l = l.self.levels * 200 + 1

abbrev pub decreases-side : goal.decreases-side
decreases-side l = l.self.levels * 200 + (l.groups * 4 + 2)

abbrev pub decreases-comparison_holds : goal.decreases-comparison_holds
decreases-comparison_holds l = l.self.levels * 200 + (l.groups * 4 + 3)

abbrev pub decreases-single_holds : goal.decreases-single_holds
decreases-single_holds l = l.self.levels * 200 + (l.groups * 4 + 4)

abbrev pub decreases-holds : goal.decreases-holds
decreases-holds l = l.self.levels * 200 + (l.groups * 4 + 5)

abbrev pub decreases-condition : goal.decreases-condition
decreases-condition l = l.self.levels * 200 + 140

abbrev pub decreases-taken_branch : goal.decreases-taken_branch
decreases-taken_branch l = l.self.levels * 200 + 141

abbrev pub decreases-values : goal.decreases-values
decreases-values l = l.self.levels * 200 + 142

abbrev pub decreases-call : goal.decreases-call
decreases-call l = l.self.levels * 200 + 143

abbrev pub decreases-form_of_kind : goal.decreases-form_of_kind
decreases-form_of_kind l = l.self.levels * 200 + 144

-- ---- loops

abbrev pub invariant-text-forms : goal.invariant-text-forms
invariant-text-forms l = record {
  comes : Comes (λ oracle. evaluator (facts_of l.self.scope) oracle l.self.levels l.text)
      (λ oracle. left_of_text (form_at (facts_of l.self.scope) oracle l.self.levels) l.value l.rest)
      l.verdicts l.fn.kept l.kept;
  stay : Stay l.fn.verdicts l.verdicts;
  made : IsUtf8 l.value;
  utf8 : IsUtf8 l.rest;
}

abbrev pub decreases-text-forms : goal.decreases-text-forms
decreases-text-forms l = length l.rest

abbrev pub invariant-values-loop-text : goal.invariant-values-loop-text
invariant-values-loop-text l = record {
  comes : Comes (λ oracle. values_by (evaluator (facts_of l.self.scope) oracle l.self.levels)
      (lent_texts l.texts))
      (λ oracle. left_of_values (evaluator (facts_of l.self.scope) oracle l.self.levels) l.values
      (lent_texts (drop l.text-index l.texts))) l.verdicts l.fn.kept l.kept;
  stay : Stay l.fn.verdicts l.verdicts;
  made : All IsUtf8 l.values;
}

abbrev pub invariant-holds-turns : goal.invariant-holds-turns
invariant-holds-turns l = record {
  comes : Comes (λ oracle. holds_at oracle (evaluator (facts_of l.self.scope) oracle l.self.levels)
      l.groups l.text)
      (λ oracle. found_from (single_holds oracle (evaluator (facts_of l.self.scope) oracle
      l.self.levels) (inside_at oracle (evaluator (facts_of l.self.scope) oracle l.self.levels)
      l.groups)) (turn_of l.turn)) l.verdicts l.fn.kept l.kept;
  stay : Stay l.fn.verdicts l.verdicts;
  utf8 : TurnUtf8 (turn_of l.turn);
}

abbrev pub decreases-holds-turns : goal.decreases-holds-turns
decreases-holds-turns l = turn_size l.turn

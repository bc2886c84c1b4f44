use Rattle.std.proofs.Common.{length, IsUtf8}
use Rattle.wc_eval.specs.Verdicts.{Stay}
use Rattle.wc_eval.specs.Names.{facts_of}
use Rattle.wc_eval.specs.Replaced.{value_at, replaced_text}
use Rattle.wc_eval.proofs.StepLemmas.{Comes}
use Rattle.wc_eval.proofs.ReplacedLemmas.{left_of_matches}
use Rattle.wc_eval.proofs.replaced.replaced_text.Given as goal

abbrev pub invariant-matches : goal.invariant-matches
invariant-matches l = record {
  comes : Comes (λ oracle. replaced_text (facts_of l.fn.scope) oracle l.fn.replacement l.fn.text l.fn.matches)
      (λ oracle. left_of_matches (value_at (facts_of l.fn.scope) oracle l.fn.replacement) l.fn.text l.value l.at l.rest)
      l.verdicts l.fn.kept l.kept;
  stay : Stay l.fn.verdicts l.verdicts;
  made : IsUtf8 l.value;
}

abbrev pub decreases-matches : goal.decreases-matches
decreases-matches l = length l.rest

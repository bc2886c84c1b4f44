use Rattle.std.proofs.Common.{length}
use Rattle.std.specs.Prelude.{All}
use Rattle.wc_triggers.specs.Replacements.{HasTexts}
use Rattle.wc_triggers.proofs.PartLemmas.{Judged}
use Rattle.wc_triggers.proofs.replacements.are_fine.Given as goal

abbrev pub invariant-loop-rest : goal.invariant-loop-rest
invariant-loop-rest l = record {
  judged : Judged l.fn.verdicts l.verdicts l.parts l.rest;
  texts : All HasTexts l.rest;
}

abbrev pub decreases-loop-rest : goal.decreases-loop-rest
decreases-loop-rest l = length l.rest

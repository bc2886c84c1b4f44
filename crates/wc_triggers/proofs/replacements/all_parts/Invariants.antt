use Rattle.std.proofs.Common.{◌≡◌, length}
use Rattle.std.specs.Prelude.{All}
use Rattle.wc_triggers.specs.Replacements.{all_parts, HasTexts}
use Rattle.wc_triggers.proofs.PartLemmas.{parts_after}
use Rattle.wc_triggers.proofs.replacements.all_parts.Given as goal

abbrev pub invariant-loop-rest : goal.invariant-loop-rest
invariant-loop-rest l = record {
  read : parts_after l.parts (all_parts l.kind l.rest) ≡ all_parts l.kind l.text;
  texts : All HasTexts l.parts;
}

abbrev pub decreases-loop-rest : goal.decreases-loop-rest
decreases-loop-rest l = length l.rest

use Rattle.std.proofs.Common.{length}
use Rattle.std.specs.Prelude.{All, IsTrue}
use Rattle.wc_eval.specs.Verdicts.{Stay}
use Rattle.wc_eval.specs.Names.{facts_of}
use Rattle.wc_triggers.specs.Replacements.{HasTexts, are_known}
use Rattle.wc_triggers.specs.Reactions.{RunsOnTexts}
use Rattle.wc_triggers.proofs.ReactionLemmas.{RunComes}
use Rattle.wc_triggers.proofs.run.Run.replace_all.Given as goal

abbrev pub invariant-parts : goal.invariant-parts
invariant-parts l = record {
  comes : RunComes (facts_of l.fn.scope) l.verdicts l.fn.parts l.rest l.fn.self l.self;
  stay : Stay l.fn.verdicts l.verdicts;
  parts : All HasTexts l.rest;
  known : IsTrue (are_known l.verdicts l.rest);
  texts : RunsOnTexts l.self;
}

abbrev pub decreases-parts : goal.decreases-parts
decreases-parts l = length l.rest

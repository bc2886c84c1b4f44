use Rattle.wc_eval.specs.Names.{facts_of}
use Rattle.wc_triggers.proofs.ReactionLemmas.{begun_texts}
use Rattle.wc_triggers.proofs.react.run_of.Goals as goal

pub replace_all-requires-clause-texts : goal.replace_all-requires-clause-texts
replace_all-requires-clause-texts c = begun_texts (facts_of c.args.scope) _ c.requires.scope c.in_ok-run.ensures

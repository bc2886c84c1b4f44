use Rattle.std.proofs.Common.{◌∙◌}
use Rattle.wc_eval.proofs.VerdictLemmas.{entry_new, ok_holds}
use Rattle.wc_eval.proofs.verdicts.put.Goals as goal

pub returns-clause-entries : goal.returns-clause-entries
returns-clause-entries c = ok_holds _ (c.insert.ensures.succeeds c.requires.room) c.insert.ensures.entries ∙ entry_new c.args.key c.args.verdict _ c.requires.new

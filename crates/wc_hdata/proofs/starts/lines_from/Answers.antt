use Rattle.wc_hdata.proofs.KeptLemmas.{kept_own}
use Rattle.wc_hdata.proofs.starts.lines_from.Goals as goal

pub returns-clause-kept : goal.returns-clause-kept
returns-clause-kept c = kept_own c.args.lists.now c.world.result.now c.args.held.buffer c.in-Some.lines.now.lines c.args.count _ _ c.world.ensures c.requires.there c.own_lines.ensures.held c.in-Some.ensures.lines c.of_own.ensures

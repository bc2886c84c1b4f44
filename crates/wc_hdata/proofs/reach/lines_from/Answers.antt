use Rattle.std.proofs.Common.{subst, sym}
use Rattle.wc_hdata.specs.Kept.{AreKept}
use Rattle.wc_hdata.specs.Reached.{held_lines}
use Rattle.wc_hdata.proofs.KeptLemmas.{lines_kept}
use Rattle.wc_hdata.proofs.reach.lines_from.Goals as goal

pub returns-in-Mixed-clause-kept : goal.returns-in-Mixed-clause-kept
returns-in-Mixed-clause-kept c = subst (AreKept c.args.lists.now) (sym c.of_held.ensures) (lines_kept c.args.lists.now c.args.count _ (held_lines c.mixed-lines.result.now) c.mixed-lines.ensures.held)

use Rattle.std.proofs.Common.{subst, sym}
use Rattle.wc_hdata.specs.Kept.{AreKept}
use Rattle.wc_hdata.proofs.KeptLemmas.{list_kept}
use Rattle.wc_hdata.proofs.reach.from_buffer.Goals as goal

pub returns-in-Lines-clause-kept : goal.returns-in-Lines-clause-kept
returns-in-Lines-clause-kept c =
    subst (AreKept c.args.lists.now) (sym c.one-in-Lines.ensures) (list_kept c.args.lists.now c.args.buffer _ c.shown.ensures (c.requires.ready c.in-Lines.is) c.requires.there, tt)

use Rattle.std.proofs.Common.{sym, subst}
use Rattle.wc_buffers.specs.Kept.{AreBuffers, handles}
use Rattle.wc_events.specs.NickForms.{all_nicks}
use Rattle.wc_events.proofs.NickLemmas.{nicks_dumped}
use Rattle.wc_events.proofs.NicksFormed.{nicks_formed, all_formed}
use Rattle.wc_events.proofs.nicks.Nicks.of_all.Goals as goal

pub returns-clause-objects : goal.returns-clause-objects
returns-clause-objects c = sym (nicks_dumped c.args.world.now (subst AreBuffers c.buffers.ensures c.groups-buffers.ensures.held))

pub returns-clause-formed : goal.returns-clause-formed
returns-clause-formed c =
    let world = c.args.world.now in
    nicks_formed (all_nicks world (handles world.groups)) (all_formed world c.nicks-rows.ensures.held (handles world.groups))

use Rattle.wc_hdata.proofs.Refuses.{not_dead}
use Rattle.wc_hdata.proofs.writer.begin.Goals as goal

pub unreachable-requires : goal.unreachable-requires
unreachable-requires c = not_dead c.args.lists.now.world c.args.path.now (rw c.in-None.is at c.in_ok-walker.ensures.left) c.requires.counted

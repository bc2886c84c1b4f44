use Rattle.std.proofs.Common.{◌∙◌, is_some, ap}
use Rattle.wc_world.proofs.There.{there_by_row}
use Rattle.wc_hdata.proofs.starts.is_there.Goals as goal

pub returns-in-Some : goal.returns-in-Some
returns-in-Some c = ap is_some c.in-Some.ensures ∙ there_by_row c.args.buffer c.args.buffers.now

pub returns-in-None : goal.returns-in-None
returns-in-None c = ap is_some c.in-None.ensures ∙ there_by_row c.args.buffer c.args.buffers.now

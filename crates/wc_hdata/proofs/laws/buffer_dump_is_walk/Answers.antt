use Rattle.wc_hdata.proofs.DumpWalks.{buffers_walked, few_of}
use Rattle.wc_hdata.proofs.laws.buffer_dump_is_walk.Goals as goal

pub returns : goal.returns
returns c = λ world are. buffers_walked world are.once (few_of world.groups are)

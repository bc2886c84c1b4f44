use Rattle.wc_view.proofs.BufferDump.{dump_shows}
use Rattle.wc_view.proofs.laws.dump_shows_buffers.Goals as goal

pub returns : goal.returns
returns c = λ id part world are. dump_shows id part world are

use Rattle.wc_view.proofs.DumpLaw.{dump_shows}
use Rattle.wc_view.proofs.laws.dump_shows_world.Goals as goal

pub returns : goal.returns
returns c = λ limit id part world stands limited buffer. dump_shows limit id part world stands limited buffer

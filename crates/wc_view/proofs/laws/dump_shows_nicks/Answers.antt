use Rattle.wc_view.proofs.NickDump.{dump_shows}
use Rattle.wc_view.proofs.laws.dump_shows_nicks.Goals as goal

pub returns : goal.returns
returns c = λ id part world lists. dump_shows id part world lists

use Rattle.wc_hooks.proofs.HistoryLaws.{walks}
use Rattle.wc_hooks.proofs.laws.passes_hold.Goals as goal

pub returns : goal.returns
returns c = walks

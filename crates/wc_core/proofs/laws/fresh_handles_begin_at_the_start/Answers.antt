use Rattle.wc_core.proofs.SkipLaws.{fresh_reach}
use Rattle.wc_core.proofs.laws.fresh_handles_begin_at_the_start.Goals as goal

pub returns : goal.returns
returns c = fresh_reach

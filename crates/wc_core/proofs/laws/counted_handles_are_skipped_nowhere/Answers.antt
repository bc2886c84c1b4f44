use Rattle.wc_core.proofs.SkipLaws.{counted_stay}
use Rattle.wc_core.proofs.laws.counted_handles_are_skipped_nowhere.Goals as goal

pub returns : goal.returns
returns c = counted_stay

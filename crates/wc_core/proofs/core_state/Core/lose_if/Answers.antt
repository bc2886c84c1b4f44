use Rattle.wc_core.proofs.RunLemmas.{Runs-stays}
use Rattle.wc_core.proofs.core_state.Core.lose_if.Goals as goal

pub returns-in_default : goal.returns-in_default
returns-in_default c = λ told. rw c.in_default.is (Runs-stays c.args.self.now told)

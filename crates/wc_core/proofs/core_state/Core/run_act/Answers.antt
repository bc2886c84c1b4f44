use Rattle.wc_core.proofs.RunLemmas.{Runs-stays}
use Rattle.wc_core.proofs.core_state.Core.run_act.Goals as goal

pub returns-in-Raise-clause-does : goal.returns-in-Raise-clause-does
returns-in-Raise-clause-does c = λ told. rw c.in-Raise.is (Runs-stays c.args.self.now told)

pub returns-clause-does : goal.returns-clause-does
returns-clause-does c = λ told. rw c.in-Leave.is (Runs-stays c.args.self.now told)

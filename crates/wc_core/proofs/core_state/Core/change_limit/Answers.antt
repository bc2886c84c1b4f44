use Rattle.wc_core.proofs.OptionLemmas.{limit-done}
use Rattle.wc_core.proofs.RunLemmas.{Runs-stays}
use Rattle.wc_core.proofs.core_state.Core.change_limit.Goals as goal

pub make_change-requires : goal.make_change-requires
make_change-requires c = rw c.in-Some.is at c.requires

pub returns-in-Some : goal.returns-in-Some
returns-in-Some c = rw c.in-Some.is (limit-done c.args.self.now c.make_change.new.self c.in-Some.most c.make_change.ensures.does)

pub returns-in_default : goal.returns-in_default
returns-in_default c = λ told. rw c.in_default.is (Runs-stays c.args.self.now told)

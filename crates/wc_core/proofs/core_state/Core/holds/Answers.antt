use Rattle.wc_core.proofs.EvalLemmas.{holds-found, ok-as}
use Rattle.wc_core.proofs.core_state.Core.holds.Goals as goal

pub returns-clause-value : goal.returns-clause-value
returns-clause-value c = ok-as _ _ c.holds_in.result (λ holds is. holds-found c.args.self.now c.holds_in.new.self c.args.buffer c.args.text.now holds c.in_ok-around.around c.in_ok-around.ensures.is is) c.holds_in.ensures.value

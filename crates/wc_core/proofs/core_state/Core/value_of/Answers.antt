use Rattle.wc_core.proofs.EvalLemmas.{value-found, ok-as}
use Rattle.wc_core.proofs.core_state.Core.value_of.Goals as goal

pub returns-clause-value : goal.returns-clause-value
returns-clause-value c = ok-as _ _ c.value_in.result (λ value is. value-found c.args.self.now c.value_in.new.self c.args.buffer c.args.text.now value c.in_ok-around.around c.in_ok-around.ensures.is is) c.value_in.ensures.value

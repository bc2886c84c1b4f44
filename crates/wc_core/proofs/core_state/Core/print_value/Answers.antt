use Rattle.std.proofs.Common.{ℕ, List, sym, subst, IsUtf8}
use Rattle.wc_core.specs.Evaluated.{value_at, printed_value}
use Rattle.wc_core.specs.Inputs.{Values}
use Rattle.wc_core.specs.Step.{ask_step}
use Rattle.wc_core.proofs.EvalLemmas.{prints-value, judged-starves}
use Rattle.wc_core.proofs.core_state.Core.print_value.Goals as goal

pub print_evaluated-requires : goal.print_evaluated-requires
print_evaluated-requires c = subst IsUtf8 (sym c.as_slice.ensures) c.in-Ok.ensures.utf8

pub returns-in-Ok : goal.returns-in-Ok
returns-in-Ok c =
    let P : List ℕ → Type 0 = λ value. Values c.args.self.now c.value_of.new.self value (λ state. value_at state c.args.buffer c.args.text.now) in
    prints-value c.args.self.now c.value_of.new.self c.print_evaluated.new.self c.args.buffer c.args.text.now c.as_slice.result.now c.value_of.ensures.judges (subst P (sym c.as_slice.ensures) c.in-Ok.ensures.value) c.print_evaluated.ensures

pub returns-in-Err : goal.returns-in-Err
returns-in-Err c = judged-starves c.args.self.now c.value_of.new.self c.starve.new.self (λ state. ask_step state (printed_value state.moment (value_at state c.args.buffer c.args.text.now))) c.value_of.ensures.judges c.starve.ensures.counts c.starve.ensures.rises

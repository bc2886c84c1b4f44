use Rattle.std.proofs.Common.{ℕ, List, sym, subst, arith, IsUtf8}
use Rattle.wc_core.specs.Evaluated.{value_at}
use Rattle.wc_core.specs.Inputs.{Values}
use Rattle.wc_core.specs.Step.{run_value, input_at, evaluation_at}
use Rattle.wc_core.specs.Typed.{typed_line}
use Rattle.wc_core.specs.declared.typed_eval.EvalUse.{EvalUse}
use Rattle.wc_core.proofs.EvalLemmas.{evaluates, evaluates-none, evaluates-not, evaluates-run, evaluates-print, evaluates-test, runs-value, judged-starves}
use Rattle.wc_core.proofs.TypedLemmas.{typed_utf8, evaluated_text}
use Rattle.wc_core.proofs.core_state.Core.+input.Goals as goal
use Rattle.wc_core.specs.Contained.{Runs}

-- ---- a line

pub input_at-evaluate-requires : goal.input_at-evaluate-requires
input_at-evaluate-requires t c = (omega (arith, c.decreases), evaluated_text (typed_line c.args.line.now) c.in-Some.usage c.in-Some.text.now (typed_utf8 c.args.line.now c.requires) c.in-Some.ensures)

pub input_at-returns-in-Some : goal.input_at-returns-in-Some
input_at-returns-in-Some t c = evaluates c.args.self.now c.evaluate.new.self c.args.levels c.args.buffer c.args.line.now c.in-Some.usage c.in-Some.text.now c.in-Some.ensures c.evaluate.ensures

pub input_at-returns-in-None : goal.input_at-returns-in-None
input_at-returns-in-None t c = evaluates-not c.args.self.now c.plain_input.new.self c.args.levels c.args.buffer c.args.line.now c.in-None.ensures c.plain_input.ensures

-- ---- what is evaluated

pub evaluate-returns-then-levels-eq0 : goal.evaluate-returns-then-levels-eq0
evaluate-returns-then-levels-eq0 t c = evaluates-none c.args.self.now c.args.levels c.args.buffer c.args.usage c.args.text.now (omega (arith, c.if-levels-eq0.true))

pub evaluate-run_value-requires : goal.evaluate-run_value-requires
evaluate-run_value-requires t c = (omega (arith, c.decreases, c.if-levels-eq0.false), c.requires)

pub evaluate-returns-in-Run : goal.evaluate-returns-in-Run
evaluate-returns-in-Run t c =
    let P : EvalUse → Type 0 = λ usage. Runs c.args.self.now c.run_value.new.self (λ state. evaluation_at c.args.levels state c.args.buffer usage c.args.text.now) in
    subst P (sym c.in-Run.is) (evaluates-run c.args.self.now c.run_value.new.self c.args.levels c.args.buffer c.args.text.now (omega (arith, c.if-levels-eq0.false)) c.run_value.ensures)

pub evaluate-returns-in-Print : goal.evaluate-returns-in-Print
evaluate-returns-in-Print t c =
    let P : EvalUse → Type 0 = λ usage. Runs c.args.self.now c.print_value.new.self (λ state. evaluation_at c.args.levels state c.args.buffer usage c.args.text.now) in
    subst P (sym c.in-Print.is) (evaluates-print c.args.self.now c.print_value.new.self c.args.levels c.args.buffer c.args.text.now (omega (arith, c.if-levels-eq0.false)) c.print_value.ensures)

pub evaluate-returns-in-Test : goal.evaluate-returns-in-Test
evaluate-returns-in-Test t c =
    let P : EvalUse → Type 0 = λ usage. Runs c.args.self.now c.print_answer.new.self (λ state. evaluation_at c.args.levels state c.args.buffer usage c.args.text.now) in
    subst P (sym c.in-Test.is) (evaluates-test c.args.self.now c.print_answer.new.self c.args.levels c.args.buffer c.args.text.now (omega (arith, c.if-levels-eq0.false)) c.print_answer.ensures)

-- ---- a value

pub run_value-input_at-requires : goal.run_value-input_at-requires
run_value-input_at-requires t c = (omega (arith, c.decreases), subst IsUtf8 (sym c.as_slice.ensures) c.in-Ok.ensures.utf8)

pub run_value-returns-in-Ok : goal.run_value-returns-in-Ok
run_value-returns-in-Ok t c =
    let P : List ℕ → Type 0 = λ value. Values c.args.self.now c.value_of.new.self value (λ state. value_at state c.args.buffer c.args.text.now) in
    runs-value c.args.self.now c.value_of.new.self c.input_at.new.self c.args.levels c.args.buffer c.args.text.now c.as_slice.result.now c.value_of.ensures.judges (subst P (sym c.as_slice.ensures) c.in-Ok.ensures.value) (subst IsUtf8 (sym c.as_slice.ensures) c.in-Ok.ensures.utf8) c.input_at.ensures

pub run_value-returns-in-Err : goal.run_value-returns-in-Err
run_value-returns-in-Err t c = judged-starves c.args.self.now c.value_of.new.self c.starve.new.self (λ state. run_value (input_at c.args.levels) state c.args.buffer (value_at state c.args.buffer c.args.text.now)) c.value_of.ensures.judges c.starve.ensures.counts c.starve.ensures.rises

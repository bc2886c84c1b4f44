use Rattle.std.proofs.Common.{true, false, Bool, IsUtf8, sym, subst, refl}
use Rattle.wc_core.specs.Evaluated.{answer_text, holds_at, printed_value}
use Rattle.wc_core.specs.Step.{ask_step}
use Rattle.wc_core.proofs.EvalLemmas.{prints-answer, judged-starves}
use Rattle.wc_core.proofs.TypedLemmas.{ascii_text}
use Rattle.wc_core.proofs.core_state.Core.print_answer.Goals as goal

answer_utf8 : (holds : Bool) → IsUtf8 (answer_text holds)
answer_utf8 true = ascii_text (answer_text true) refl
answer_utf8 false = ascii_text (answer_text false) refl

pub print_evaluated-requires : goal.print_evaluated-requires
print_evaluated-requires c = subst IsUtf8 (sym c.answer_text.ensures) (answer_utf8 c.in-Ok.holds)

pub returns-in-Ok : goal.returns-in-Ok
returns-in-Ok c = prints-answer c.args.self.now c.holds.new.self c.print_evaluated.new.self c.args.buffer c.args.text.now c.in-Ok.holds c.holds.ensures.judges c.in-Ok.ensures.value (rw c.answer_text.ensures at c.print_evaluated.ensures)

pub returns-in-Err : goal.returns-in-Err
returns-in-Err c = judged-starves c.args.self.now c.holds.new.self c.starve.new.self (λ state. ask_step state (printed_value state.moment (answer_text (holds_at state c.args.buffer c.args.text.now)))) c.holds.ensures.judges c.starve.ensures.counts c.starve.ensures.rises

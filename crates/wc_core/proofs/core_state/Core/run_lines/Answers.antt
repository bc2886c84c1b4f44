use Rattle.std.proofs.Common.{ℕ, List, Option, sym, ◌∙◌, subst}
use Rattle.std.specs.Borrow.{Bor}
use Rattle.wc_core.specs.Step.{lines_step}
use Rattle.wc_core.specs.TypedSeen.{LeftUtf8, lines_left}
use Rattle.wc_core.proofs.TypedLemmas.{first_utf8, others_utf8}
use Rattle.wc_core.proofs.ServeLemmas.{gone_left, quit_left, more_left}
use Rattle.wc_core.proofs.RunLemmas.{Runs-stays}
use Rattle.wc_core.proofs.core_state.Core.run_lines.Goals as goal
use Rattle.wc_core.specs.Contained.{Runs}

pub run_line-requires-clause-text : goal.run_line-requires-clause-text
run_line-requires-clause-text c = rw c.cut_line.ensures.front (first_utf8 c.in-Some.rest.now (subst LeftUtf8 c.in-Some.is c.loop-left.invariant.text))

pub returns-then-not-has_buffer : goal.returns-then-not-has_buffer
returns-then-not-has_buffer c = c.loop-left.invariant.onward c.loop-left.self
    (gone_left c.loop-left.self c.args.buffer c.loop-left.left c.in-Some.rest c.cut_line.result.0.now c.cut_line.result.1 c.in-Some.is c.cut_line.ensures.front c.cut_line.ensures.back
    (sym c.has_buffer.ensures ∙ c.if-not-has_buffer.true))

pub returns-then-run_line : goal.returns-then-run_line
returns-then-run_line c = c.loop-left.invariant.onward c.run_line.new.self
    (quit_left c.loop-left.self c.run_line.new.self c.args.buffer c.loop-left.left c.in-Some.rest c.cut_line.result.0.now c.cut_line.result.1 c.in-Some.is c.cut_line.ensures.front c.cut_line.ensures.back
    (sym c.has_buffer.ensures ∙ c.if-not-has_buffer.false) (c.run_line.ensures.stops c.if-run_line.true))

pub loop-left-preserved : goal.loop-left-preserved
loop-left-preserved c = record {
  text = others_utf8 c.in-Some.rest.now c.cut_line.result.1 (subst LeftUtf8 c.in-Some.is c.loop-left.invariant.text) c.cut_line.ensures.back;
  onward = λ final done. c.loop-left.invariant.onward final
      (more_left c.loop-left.self c.run_line.new.self final c.args.buffer c.loop-left.left c.in-Some.rest c.cut_line.result.0.now c.cut_line.result.1 c.in-Some.is c.cut_line.ensures.front c.cut_line.ensures.back
      (sym c.has_buffer.ensures ∙ c.if-not-has_buffer.false) c.loop-left.invariant.going (c.run_line.ensures.goes_on c.if-run_line.false) done);
  going = (c.run_line.ensures.goes_on c.if-run_line.false).goes;
}

pub returns : goal.returns
returns c =
    let P : Option (Bor (List ℕ)) → Type 0 = λ left. Runs c.loop-left.self c.loop-left.self (λ state. lines_step state c.args.buffer (lines_left left)) in
    c.loop-left.invariant.onward c.loop-left.self (subst P (sym c.in_default.is) (Runs-stays c.loop-left.self))

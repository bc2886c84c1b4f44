use Rattle.std.proofs.Common.{◌≡◌, false}
use Rattle.wc_core.specs.CoreView.{CoreView}
use Rattle.wc_core.specs.Typed.{lines_of_text}
use Rattle.wc_core.specs.TypedSeen.{lines_left, length_left, LeftUtf8}
use Rattle.wc_core.specs.Step.{lines_step}
use Rattle.wc_core.proofs.core_state.Core.run_lines.Given as goal
use Rattle.wc_core.specs.Contained.{Runs}

-- what does the lines that are left has done the whole text
abbrev pub invariant-loop-left : goal.invariant-loop-left
invariant-loop-left l = record {
  text : LeftUtf8 l.left;
  going : l.self.quits ≡ false;
  onward : (final : CoreView) → Runs l.self final (λ state. lines_step state l.buffer (lines_left l.left)) → Runs l.fn.self final (λ state. lines_step state l.buffer (lines_of_text l.text));
}

abbrev pub decreases-loop-left : goal.decreases-loop-left
decreases-loop-left l = length_left l.left

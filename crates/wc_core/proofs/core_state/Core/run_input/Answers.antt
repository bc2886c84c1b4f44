use Rattle.wc_core.specs.Step.{lines_step}
use Rattle.wc_core.specs.Typed.{lines_of_text}
use Rattle.wc_core.proofs.ServeLemmas.{goes-aside}
use Rattle.wc_core.proofs.core_state.Core.run_input.Goals as goal

pub returns : goal.returns
returns c =
    let done = rw (← c.self-2.view_is) at c.run_lines.ensures in
    rw (← c.self.view_is) (goes-aside _ _ _ _ (λ state. lines_step state c.args.buffer (lines_of_text c.args.text.now)) c.replace-quit.ensures.after c.replace-quit.ensures.value done)

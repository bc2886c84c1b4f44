use Rattle.std.proofs.Common.{◌≡◌, ◌++◌, drop}
use Rattle.wc_core.specs.Fitted.{flips_among}
use Rattle.wc_world.specs.Near.{numbers}
use Rattle.wc_core.proofs.core_state.Core.put_flips.Given as goal

abbrev pub invariant-loop-buffer : goal.invariant-loop-buffer
invariant-loop-buffer l = l.flips ++ flips_among l.plan l.self.world (numbers (drop l.buffer-index l.group)) ≡ l.fn.flips ++ flips_among l.plan l.self.world (numbers l.group)

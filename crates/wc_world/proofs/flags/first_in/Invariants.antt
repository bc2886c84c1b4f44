use Rattle.std.proofs.Common.{◌≡◌, is_some, find, drop}
use Rattle.wc_lines.specs.Flags.{flag_at}
use Rattle.wc_model.specs.declared.change.Flip.{Flip as FlipValue}
use Rattle.wc_world.proofs.flags.first_in.Given as goal

abbrev pub invariant-loop-flip : goal.invariant-loop-flip
invariant-loop-flip l = find (λ (flip : FlipValue). is_some (flag_at l.flags flip.content.0)) l.flips ≡ find (λ (flip : FlipValue). is_some (flag_at l.flags flip.content.0)) (drop l.flip-index l.flips)

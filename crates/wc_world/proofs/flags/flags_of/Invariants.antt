use Rattle.std.proofs.Common.{◌≡◌, ℕ, drop}
use Rattle.wc_lines.specs.Flags.{flag_at}
use Rattle.wc_world.specs.Flips.{last_from, last_flag}
use Rattle.wc_world.proofs.flags.flags_of.Given as goal

abbrev pub invariant-loop-flip : goal.invariant-loop-flip
invariant-loop-flip l = (content : ℕ) → last_from (flag_at l.flags content) content (drop l.flip-index l.flips) ≡ last_flag l.flips content

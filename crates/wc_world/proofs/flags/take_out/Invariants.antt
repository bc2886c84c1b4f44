use Rattle.std.proofs.Common.{◌≡◌, ℕ, None, if◌then◌else◌}
use Rattle.wc_lines.specs.Flags.{flag_at}
use Rattle.wc_lines.specs.LinesLeft.{lines_left}
use Rattle.wc_world.specs.Flips.{has_number}
use Rattle.wc_world.proofs.flags.take_out.Given as goal

abbrev pub invariant-loop-line : goal.invariant-loop-line
invariant-loop-line l = (content : ℕ) → (if has_number content (lines_left l.line-iterator) then None else flag_at l.flags content) ≡ (if has_number content l.lines.lines then None else flag_at l.fn.flags content)

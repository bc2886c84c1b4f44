use Rattle.std.proofs.Common.{◌≡◌, ℕ, None, drop, if◌then◌else◌}
use Rattle.wc_lines.specs.Flags.{flag_at}
use Rattle.wc_world.specs.Flips.{is_stored}
use Rattle.wc_world.specs.Near.{numbers}
use Rattle.wc_world.proofs.all_lines.take_all_out.Given as goal

abbrev pub invariant-loop-h : goal.invariant-loop-h
invariant-loop-h l = (content : ℕ) → (if is_stored l.held (numbers (drop l.h-index l.buffers)) content then None else flag_at l.flags content) ≡ (if is_stored l.held (numbers l.buffers) content then None else flag_at l.fn.flags content)

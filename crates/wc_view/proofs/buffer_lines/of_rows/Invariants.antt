use Rattle.std.proofs.Common.{◌≡◌}
use Rattle.wc_view.specs.Entries.{part_at}
use Rattle.wc_view.specs.Parts.{part_of}
use Rattle.wc_view.proofs.buffer_lines.of_rows.Given as goal

abbrev pub invariant-loop-row : goal.invariant-loop-row
invariant-loop-row l = part_at l.entries.items ≡ part_of l.limit l.yielded

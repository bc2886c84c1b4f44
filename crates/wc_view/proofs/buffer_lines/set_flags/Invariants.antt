use Rattle.std.proofs.Common.{◌≡◌, take}
use Rattle.wc_view.specs.Entries.{part_at}
use Rattle.wc_view.specs.Parts.{with_flags}
use Rattle.wc_view.proofs.buffer_lines.set_flags.Given as goal

-- the flags so far are set
abbrev pub invariant-loop-flag : goal.invariant-loop-flag
invariant-loop-flag l = part_at l.entries ≡ with_flags (part_at l.initial.entries) (take l.flag-index l.flags)

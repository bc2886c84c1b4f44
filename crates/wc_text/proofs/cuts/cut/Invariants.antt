use Rattle.std.proofs.Common.{◌≡◌, ◌≤◌}
use Rattle.std.specs.Str.Lossy.{valid_len_up_to}
use Rattle.wc_text.specs.Cut.{cut_of}
use Rattle.wc_text.proofs.cuts.cut.Given as goal

-- no front that is longer than `end` is whole characters
abbrev pub invariant-loop-end : goal.invariant-loop-end
invariant-loop-end l = (valid_len_up_to l.text l.end ≡ cut_of l.text l.limit) × (l.end ≤ l.limit)

abbrev pub decreases-loop-end : goal.decreases-loop-end
decreases-loop-end l = l.end

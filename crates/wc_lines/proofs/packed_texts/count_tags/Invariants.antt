use Rattle.std.proofs.Common.{◌≡◌, ◌+◌, ◌≤◌, length}
use Rattle.wc_lines.specs.Packed.{tags_of}
use Rattle.wc_lines.proofs.packed_texts.count_tags.Given as goal

-- the tags so far and those that are left are all, and each has taken a byte at least
abbrev pub invariant-loop-tag : goal.invariant-loop-tag
invariant-loop-tag l =
    (l.count + length (tags_of l.rest) ≡ length (tags_of l.bytes)) × (l.count + length l.rest ≤ length l.bytes)

abbrev pub decreases-loop-tag : goal.decreases-loop-tag
decreases-loop-tag l = length l.rest

use Rattle.std.proofs.Common.{◌≡◌, take}
use Rattle.wc_buffers.specs.Groups.{rows}
use Rattle.wc_demo.specs.MirrorCounts.{mirrored_in}
use Rattle.wc_demo.proofs.in_mirror.mirror_counts.Given as goal

-- the buffers of the groups so far are counted
abbrev pub invariant-loop-group : goal.invariant-loop-group
invariant-loop-group l = l.counts ≡ mirrored_in l.mirror (rows (take l.group-index l.group-items))

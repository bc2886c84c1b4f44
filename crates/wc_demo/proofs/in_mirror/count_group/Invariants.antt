use Rattle.std.proofs.Common.{◌≡◌, ◌++◌, List, take}
use Rattle.wc_view.specs.declared.mirror_buffer.MirrorBuffer.{MirrorBuffer}
use Rattle.wc_demo.specs.MirrorCounts.{mirrored_in}
use Rattle.wc_demo.proofs.in_mirror.count_group.Given as goal

-- the buffers so far are counted with those before
abbrev pub invariant-loop-buffer : goal.invariant-loop-buffer
invariant-loop-buffer l = (before : List MirrorBuffer) → l.fn.counts ≡ mirrored_in l.mirror before → l.all ≡ mirrored_in l.mirror (before ++ take l.buffer-index l.group)

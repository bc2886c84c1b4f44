use Rattle.std.proofs.Common.{◌≡◌, take}
use Rattle.wc_buffers.specs.Groups.{without}
use Rattle.wc_view.specs.Grouped.{key_of}
use Rattle.wc_view.proofs.grouped.without.Given as goal

abbrev pub invariant-loop-buffer : goal.invariant-loop-buffer
invariant-loop-buffer l = l.kept ≡ without key_of l.h (take l.buffer-index l.group)

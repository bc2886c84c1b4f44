use Rattle.std.proofs.Common.{◌≡◌, take}
use Rattle.wc_buffers.specs.Groups.{take_out}
use Rattle.wc_view.specs.Grouped.{key_of}
use Rattle.wc_view.proofs.grouped.take_out.Given as goal

abbrev pub invariant-loop-group : goal.invariant-loop-group
invariant-loop-group l = l.left ≡ take_out key_of l.h (take l.group-index l.groups)

use Rattle.std.proofs.Common.{◌≡◌, take}
use Rattle.wc_buffers.specs.Groups.{pick}
use Rattle.wc_view.specs.Grouped.{key_of}
use Rattle.wc_view.proofs.grouped.pick.Given as goal

abbrev pub invariant-loop-group : goal.invariant-loop-group
invariant-loop-group l = l.picked ≡ pick key_of l.h (take l.group-index l.groups)

use Rattle.std.proofs.Common.{◌≡◌, ◌++◌, take}
use Rattle.wc_buffers.specs.Groups.{own}
use Rattle.wc_view.specs.Grouped.{key_of}
use Rattle.wc_view.proofs.grouped.push_own.Given as goal

abbrev pub invariant-loop-group : goal.invariant-loop-group
invariant-loop-group l = l.found ≡ l.initial.found ++ own key_of l.h (take l.group-index l.groups)

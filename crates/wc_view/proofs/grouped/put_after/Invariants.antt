use Rattle.std.proofs.Common.{◌≡◌, take}
use Rattle.wc_view.specs.Grouped.{put_after}
use Rattle.wc_view.proofs.grouped.put_after.Given as goal

abbrev pub invariant-loop-group : goal.invariant-loop-group
invariant-loop-group l = l.placed ≡ put_after l.h l.new (take l.group-index l.groups)

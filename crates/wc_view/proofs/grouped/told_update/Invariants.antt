use Rattle.std.proofs.Common.{◌≡◌, take}
use Rattle.wc_view.specs.Grouped.{told_update}
use Rattle.wc_view.proofs.grouped.told_update.Given as goal

abbrev pub invariant-loop-group : goal.invariant-loop-group
invariant-loop-group l = l.new ≡ told_update l.kind l.told (take l.group-index l.groups)

use Rattle.std.proofs.Common.{◌≡◌, take}
use Rattle.wc_view.specs.Grouped.{told_group}
use Rattle.wc_view.proofs.grouped.told_group.Given as goal

abbrev pub invariant-loop-buffer : goal.invariant-loop-buffer
invariant-loop-buffer l = l.new ≡ told_group l.kind l.told (take l.buffer-index l.group)

use Rattle.std.proofs.Common.{◌≡◌, take}
use Rattle.wc_view.specs.Grouped.{insert_after}
use Rattle.wc_view.proofs.grouped.insert_after.Given as goal

abbrev pub invariant-loop-buffer : goal.invariant-loop-buffer
invariant-loop-buffer l = l.placed ≡ insert_after l.h l.new (take l.buffer-index l.group)

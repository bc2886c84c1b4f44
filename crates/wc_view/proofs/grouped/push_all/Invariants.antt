use Rattle.std.proofs.Common.{◌≡◌, ◌++◌, take}
use Rattle.wc_view.proofs.grouped.push_all.Given as goal

abbrev pub invariant-loop-buffer : goal.invariant-loop-buffer
invariant-loop-buffer l = l.group ≡ l.initial.group ++ take l.buffer-index l.new

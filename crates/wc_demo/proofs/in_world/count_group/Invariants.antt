use Rattle.std.proofs.Common.{◌≡◌, ◌++◌, List, take}
use Rattle.wc_text.specs.declared.names.Handle.{Handle}
use Rattle.wc_demo.specs.Counts.{counted_in}
use Rattle.wc_demo.proofs.in_world.count_group.Given as goal

-- the buffers so far are counted with those before
abbrev pub invariant-loop-buffer : goal.invariant-loop-buffer
invariant-loop-buffer l = (before : List Handle) → l.fn.counts ≡ counted_in l.world before → l.all ≡ counted_in l.world (before ++ take l.buffer-index l.group)

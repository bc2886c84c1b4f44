use Rattle.std.proofs.Common.{◌≡◌, ◌++◌, List}
use Rattle.wc_text.specs.declared.names.Handle.{Handle}
use Rattle.wc_buffers.specs.Groups.{rows}
use Rattle.wc_buffers.specs.Kept.{handles}
use Rattle.wc_demo.specs.Counts.{counted_in}
use Rattle.wc_demo.proofs.in_world.world_counts.Given as goal

-- the buffers of the groups before are counted
abbrev pub invariant-loop-group : goal.invariant-loop-group
invariant-loop-group l = record {
  before : List (List Handle);
  counted : l.counts ≡ counted_in l.world (rows before);
  rest : handles l.world.groups ≡ before ++ l.group-iterator;
}

use Rattle.std.proofs.Common.{◌≡◌, ◌≤◌, vec_capacity, length}
use Rattle.wc_buffers.specs.Table.{AllEmpty}
use Rattle.wc_buffers.proofs.table.GroupTable.new.Given as goal

-- as many groups as were made are spare
abbrev pub invariant-loop : goal.invariant-loop
invariant-loop l = record {
  emptied : AllEmpty l.spare.items;
  made : length l.spare.items ≡ l.counter;
  room : 257 ≤ vec_capacity l.spare;
}

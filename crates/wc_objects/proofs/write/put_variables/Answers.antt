use Rattle.std.proofs.Common.{length}
use Rattle.std.specs.List.{flat_map}
use Rattle.wc_objects.specs.Spelling.{variable_bytes, be32}
use Rattle.wc_objects.proofs.Rooms.{next_has_room, count_has_room}
use Rattle.wc_objects.proofs.write.put_variables.Goals as goal

pub put_variable-requires : goal.put_variable-requires
put_variable-requires c = rw c.variable-item.is (next_has_room (be32 (length c.args.variables.now)) variable_bytes c.args.variables.now c.loop-variable.variable-index c.variable-item.result c.args.out.now c.loop-variable.out c.loop-variable-test.true c.requires c.loop-variable.invariant)

pub put_count-requires : goal.put_count-requires
put_count-requires c = count_has_room c.args.out.now (length c.args.variables.now) (flat_map variable_bytes c.args.variables.now) c.requires

use Rattle.std.proofs.Common.{length}
use Rattle.std.specs.List.{flat_map}
use Rattle.wc_objects.specs.Spelling.{with_count, variable_bytes, be32}
use Rattle.wc_objects.proofs.Rooms.{next_has_room, count_has_room}
use Rattle.wc_objects.proofs.write.put_lists.Goals as goal

pub put_variables-requires : goal.put_variables-requires
put_variables-requires c = rw (c.as_slice.ensures, c.list-item.is) (next_has_room (be32 (length c.args.lists.now)) (with_count variable_bytes) c.args.lists.now c.loop-list.list-index c.list-item.result c.args.out.now c.loop-list.out c.loop-list-test.true c.requires c.loop-list.invariant)

pub put_count-requires : goal.put_count-requires
put_count-requires c = count_has_room c.args.out.now (length c.args.lists.now) (flat_map (with_count variable_bytes) c.args.lists.now) c.requires

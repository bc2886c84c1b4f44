use Rattle.std.proofs.Common.{length}
use Rattle.std.specs.List.{flat_map}
use Rattle.wc_objects.specs.Spelling.{simple_bytes, be32}
use Rattle.wc_objects.proofs.Rooms.{next_has_room, count_has_room}
use Rattle.wc_objects.proofs.write.put_values.Goals as goal

pub put_simple-requires : goal.put_simple-requires
put_simple-requires c = rw c.value-item.is (next_has_room (be32 (length c.args.values.now)) simple_bytes c.args.values.now c.loop-value.value-index c.value-item.result c.args.out.now c.loop-value.out c.loop-value-test.true c.requires c.loop-value.invariant)

pub put_count-requires : goal.put_count-requires
put_count-requires c = count_has_room c.args.out.now (length c.args.values.now) (flat_map simple_bytes c.args.values.now) c.requires

use Rattle.std.proofs.Common.{[]}
use Rattle.wc_objects.specs.Spelling.{value_bytes}
use Rattle.wc_objects.proofs.Rooms.{next_has_room}
use Rattle.wc_objects.proofs.write.put_item_values.Goals as goal

pub put_value-requires : goal.put_value-requires
put_value-requires c = rw c.value-item.is (next_has_room [] value_bytes c.args.values.now c.loop-value.value-index c.value-item.result c.args.out.now c.loop-value.out c.loop-value-test.true c.requires c.loop-value.invariant)

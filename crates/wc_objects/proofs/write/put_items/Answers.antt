use Rattle.std.proofs.Common.{length}
use Rattle.std.specs.List.{flat_map}
use Rattle.wc_objects.specs.Spelling.{item_bytes, be32}
use Rattle.wc_objects.proofs.Rooms.{next_has_room, count_has_room}
use Rattle.wc_objects.proofs.write.put_items.Goals as goal

pub put_item-requires : goal.put_item-requires
put_item-requires c = rw c.item-item.is (next_has_room (be32 (length c.args.items.now)) item_bytes c.args.items.now c.loop-item.item-index c.item-item.result c.args.out.now c.loop-item.out c.loop-item-test.true c.requires c.loop-item.invariant)

pub put_count-requires : goal.put_count-requires
put_count-requires c = count_has_room c.args.out.now (length c.args.items.now) (flat_map item_bytes c.args.items.now) c.requires

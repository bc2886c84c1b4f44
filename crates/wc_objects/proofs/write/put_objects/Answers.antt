use Rattle.std.proofs.Common.{[]}
use Rattle.wc_objects.specs.Spelling.{object_bytes}
use Rattle.wc_objects.proofs.Rooms.{next_has_room}
use Rattle.wc_objects.proofs.write.put_objects.Goals as goal

pub put_object-requires : goal.put_object-requires
put_object-requires c = rw c.object-item.is (next_has_room [] object_bytes c.args.objects.now c.loop-object.object-index c.object-item.result c.args.out.now c.loop-object.out c.loop-object-test.true c.requires c.loop-object.invariant)

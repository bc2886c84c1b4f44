use Rattle.std.proofs.Common.{[]}
use Rattle.wc_objects.specs.Spelling.{pointer_bytes}
use Rattle.wc_objects.proofs.Rooms.{next_has_room}
use Rattle.wc_hdata.proofs.item_bytes.put_pointers.Goals as goal

pub put_pointer-requires : goal.put_pointer-requires
put_pointer-requires c = next_has_room [] pointer_bytes c.args.pointers.now c.loop-pointer.pointer-index 0 c.args.out.now c.loop-pointer.out c.loop-pointer-test.true c.requires c.loop-pointer.invariant

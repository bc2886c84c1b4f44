use Rattle.std.proofs.Common.{[]}
use Rattle.wc_objects.proofs.Rooms.{next_has_room}
use Rattle.wc_keys.specs.declared.key.Key.TheVariants.{Number}
use Rattle.wc_hdata.specs.Reached.{place_of}
use Rattle.wc_hdata.specs.WalkBytes.{key_bytes}
use Rattle.wc_hdata.proofs.item_bytes.put_each.Goals as goal

pub put_value-requires-clause-room : goal.put_value-requires-clause-room
put_value-requires-clause-room c =
    next_has_room [] (key_bytes c.args.lists.now.world (place_of c.args.place)) c.args.keys.now c.loop-key.key-index Number c.args.out.now c.loop-key.out c.loop-key-test.true c.requires.room c.loop-key.invariant

use Rattle.std.proofs.Common.{[]}
use Rattle.wc_objects.proofs.Rooms.{next_has_room}
use Rattle.wc_keys.specs.declared.key.Key.TheVariants.{Number}
use Rattle.wc_events.specs.NickBytes.{key_bytes}
use Rattle.wc_events.proofs.nick_bytes.put_values.Goals as goal

pub put_value-requires : goal.put_value-requires
put_value-requires c = next_has_room [] (key_bytes c.args.nick) c.args.keys.now c.loop-key.key-index Number c.args.out.now c.loop-key.out c.loop-key-test.true c.requires c.loop-key.invariant

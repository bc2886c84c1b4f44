use Rattle.std.proofs.Common.{[]}
use Rattle.wc_objects.proofs.Rooms.{next_has_room}
use Rattle.wc_keys.specs.declared.key.Key.TheVariants.{Number}
use Rattle.wc_events.specs.ValueBytes.{line_bytes}
use Rattle.wc_events.proofs.line_bytes.put_line.Goals as goal

pub put_value-requires : goal.put_value-requires
put_value-requires c = next_has_room [] (line_bytes c.args.buffer c.args.line.now) c.args.keys.now c.loop-key.key-index Number c.args.out.now c.loop-key.out c.loop-key-test.true c.requires c.loop-key.invariant

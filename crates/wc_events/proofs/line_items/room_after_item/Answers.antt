use Rattle.wc_events.specs.LinesTold.{line_spelled}
use Rattle.wc_events.proofs.LinesTold.{line_length, one_rest}
use Rattle.std.proofs.Common.{◌+◌, refl}
use Rattle.wc_events.proofs.line_items.room_after_item.Goals as goal

pub returns : goal.returns
returns c =
    one_rest (line_spelled c.args.buffer c.args.keys.now c.args.line.now) c.args.left (record { room = c.in_ok-room.room; items = c.args.left.items + 1 }) (line_length c.args.buffer c.args.keys.now c.args.line.now) c.in_ok-room.ensures refl

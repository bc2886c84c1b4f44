use Rattle.std.proofs.Common.{rules, ◌<◌, ◌^◌, ◌-◌, length, refl}
use Rattle.wc_events.specs.HdaBytes.{front_part}
use Rattle.wc_events.specs.LinesTold.{lines_message, lines_of}
use Rattle.wc_events.proofs.LinesTold.{front_over, lines_over, is_size}
use Rattle.wc_events.proofs.line_writer.size_of.Goals as goal

pub returns-in_err-room : goal.returns-in_err-room
returns-in_err-room c =
    let over : 2 ^ 31 - 1 < length (lines_message (front_part c.args.front) c.args.buffer c.args.keys.now (lines_of c.args.told)) = front_over (front_part c.args.front) c.args.buffer c.args.keys.now (lines_of c.args.told) c.in_err-room.ensures in
    search rules

pub returns-in_err-left : goal.returns-in_err-left
returns-in_err-left c =
    let over : 2 ^ 31 - 1 < length (lines_message (front_part c.args.front) c.args.buffer c.args.keys.now (lines_of c.args.told)) =
    lines_over (front_part c.args.front) c.args.buffer c.args.keys.now (lines_of c.args.told) c.in_ok-room.room c.in_ok-room.ensures c.in_err-left.ensures in
    search rules

pub returns : goal.returns
returns c =
    is_size (front_part c.args.front) c.args.buffer c.args.keys.now (lines_of c.args.told) (record { room = c.in_ok-room.room; items = 0 }) c.in_ok-left.left refl c.in_ok-room.ensures c.in_ok-left.ensures

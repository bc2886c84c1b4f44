use Rattle.std.proofs.Common.{◌++◌, length}
use Rattle.wc_objects.specs.Spelling.{be32}
use Rattle.wc_objects.proofs.Rooms.{rest_has_room, count_has_room}
use Rattle.wc_events.specs.HdaBytes.{front_part}
use Rattle.wc_events.specs.LinesTold.{lines_of, lines_spelled}
use Rattle.wc_events.proofs.line_writer.put_body.Goals as goal

pub put_count-requires : goal.put_count-requires
put_count-requires c =
    let front = front_part c.args.front in
    let lines = lines_of c.args.told in
    let spelled = lines_spelled c.args.buffer c.args.keys.now lines in
    count_has_room c.put_front.new.out (length lines) spelled (rest_has_room c.args.out.now c.put_front.new.out front (be32 (length lines) ++ spelled) c.requires.room c.put_front.ensures)

use Rattle.wc_events.specs.HdaBytes.{front_part}
use Rattle.wc_events.specs.LinesTold.{lines_of}
use Rattle.wc_events.proofs.LinesTold.{body_has_room, message_is}
use Rattle.wc_events.proofs.line_writer.put_message.Goals as goal

pub put_body-requires-clause-room : goal.put_body-requires-clause-room
put_body-requires-clause-room c =
    body_has_room (front_part c.args.front) c.args.buffer c.args.keys.now (lines_of c.args.told) c.args.size c.args.out.now c.put_count.new.out c.requires.size c.requires.room c.put_count.ensures

pub returns : goal.returns
returns c =
    message_is (front_part c.args.front) c.args.buffer c.args.keys.now (lines_of c.args.told) c.args.size c.args.out.now c.put_count.new.out c.put_body.new.out c.requires.size c.put_count.ensures c.put_body.ensures

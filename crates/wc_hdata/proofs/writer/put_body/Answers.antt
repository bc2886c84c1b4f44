use Rattle.std.proofs.Common.{◌++◌, length}
use Rattle.wc_objects.specs.Spelling.{be32}
use Rattle.wc_objects.proofs.Rooms.{rest_has_room, count_has_room}
use Rattle.wc_hdata.specs.WalkBytes.{nodes_bytes}
use Rattle.wc_events.specs.HdaBytes.{front_part}
use Rattle.wc_hdata.proofs.writer.put_body.Goals as goal

pub put_count-requires : goal.put_count-requires
put_count-requires c =
    let front = front_part c.args.front in
    let nodes = c.args.walker.now.left in
    let rest = nodes_bytes c.args.lists.now.world c.args.keys.now nodes in
    count_has_room c.put_front.new.out (length nodes) rest (rest_has_room c.args.out.now c.put_front.new.out front (be32 (length nodes) ++ rest) c.requires.room c.put_front.ensures)

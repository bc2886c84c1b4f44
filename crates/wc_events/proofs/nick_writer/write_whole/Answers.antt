use Rattle.wc_events.specs.HdaBytes.{front_part}
use Rattle.wc_events.specs.Nicks.{nicks_items}
use Rattle.wc_events.proofs.NickWritten.{length_within, is_whole}
use Rattle.wc_events.proofs.nick_writer.write_whole.Goals as goal

pub set_count-requires : goal.set_count-requires
set_count-requires c = length_within (front_part c.args.front) (nicks_items c.args.nicks) c.args.out.now c.write_counted.new.out c.len-start.result c.in_ok-room.room c.len-start.ensures.value c.in_ok-room.ensures

pub returns : goal.returns
returns c =
    is_whole (front_part c.args.front) (nicks_items c.args.nicks) c.args.out.now c.write_counted.new.out c.set_count.new.out c.len-start.result c.in_ok-room.room c.len-start.ensures.value c.in_ok-room.ensures c.set_count.ensures

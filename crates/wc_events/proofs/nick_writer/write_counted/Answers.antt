use Rattle.std.proofs.Common.{refl}
use Rattle.std.proofs.lemmas.Result.{err_from_is_err_and}
use Rattle.wc_events.specs.HdaBytes.{front_part}
use Rattle.wc_events.specs.Nicks.{nicks_items}
use Rattle.wc_events.proofs.NickWritten.{head_too_long, count_within, is_counted, items_cut}
use Rattle.wc_events.proofs.nick_writer.write_counted.Goals as goal

pub set_count-requires : goal.set_count-requires
set_count-requires c =
    count_within (front_part c.args.front) (nicks_items c.args.nicks) c.args.out.now c.put_head.new.out c.write_items.new.out c.len-start.result c.in_ok-room.room (record { room = c.in_ok-room.room; items = 0 }) c.in_ok-left.left c.len-start.ensures.value c.in_ok-room.ensures c.in_ok-left.ensures

pub returns-in_err-room : goal.returns-in_err-room
returns-in_err-room c =
    let p = err_from_is_err_and c.from_residual.result c.from_residual.ensures.1 in
    rw (p.1, p.2)
    (head_too_long (front_part c.args.front) (nicks_items c.args.nicks) c.in_err-room.field-0.0 c.args.out.now c.put_head.new.out c.in_err-room.ensures)

pub returns-in_err-left : goal.returns-in_err-left
returns-in_err-left c =
    let p = err_from_is_err_and c.from_residual-in_err-left.result c.from_residual-in_err-left.ensures.1 in
    rw (p.1, p.2)
    (items_cut c.in_err-left.field-0.0 (front_part c.args.front) (nicks_items c.args.nicks) c.args.out.now c.put_head.new.out c.write_items.new.out c.in_ok-room.room (record { room = c.in_ok-room.room; items = 0 }) refl c.in_ok-room.ensures c.in_err-left.ensures)

pub returns : goal.returns
returns c =
    is_counted (front_part c.args.front) (nicks_items c.args.nicks) c.args.out.now c.put_head.new.out c.write_items.new.out c.set_count.new.out c.len-start.result c.in_ok-room.room (record { room = c.in_ok-room.room; items = 0 }) c.in_ok-left.left c.len-start.ensures.value refl refl c.in_ok-room.ensures c.in_ok-left.ensures c.set_count.ensures

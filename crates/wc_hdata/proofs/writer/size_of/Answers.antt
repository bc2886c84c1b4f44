use Rattle.std.proofs.Common.{rules, refl, arith}
use Rattle.std.proofs.Math.Nat.{lt_of_not-le}
use Rattle.wc_hdata.specs.WalkRoom.{IsTooLong}
use Rattle.wc_events.specs.HdaBytes.{front_part}
use Rattle.wc_hdata.proofs.WalkRooms.{front_over, items_over, message_over, is_size}
use Rattle.wc_hdata.proofs.writer.size_of.Goals as goal

pub returns-in_err-room_after_front-clause-size : goal.returns-in_err-room_after_front-clause-size
returns-in_err-room_after_front-clause-size c =
    let over : IsTooLong c.args.lists.now.world (front_part c.args.front) c.args.keys.now c.args.walker.now.left =
    front_over c.args.lists.now.world (front_part c.args.front) c.args.keys.now c.args.walker.now.left c.in_err-room_after_front.ensures in
    search rules

pub returns-in_err-left-clause-size : goal.returns-in_err-left-clause-size
returns-in_err-left-clause-size c =
    let over : IsTooLong c.args.lists.now.world (front_part c.args.front) c.args.keys.now c.args.walker.now.left =
    items_over c.args.lists.now.world (front_part c.args.front) c.args.keys.now c.args.walker.now.left
    (record { room = c.in_ok-room_after_front.field-0; values = 2147483584; items = 0 }) refl c.in_ok-room_after_front.ensures c.in_err-left.ensures.room in
    search rules

pub returns-in_err-room-clause-size : goal.returns-in_err-room-clause-size
returns-in_err-room-clause-size c =
    let over : IsTooLong c.args.lists.now.world (front_part c.args.front) c.args.keys.now c.args.walker.now.left =
    message_over c.args.lists.now.world (front_part c.args.front) c.args.keys.now c.args.walker.now.left
    (record { room = c.in_ok-room_after_front.field-0; values = 2147483584; items = 0 }) c.in_ok-left.left refl c.in_ok-room_after_front.ensures c.in_ok-left.ensures.room (lt_of_not-le c.in_err-room.ensures) in
    search rules

pub returns-clause-size : goal.returns-clause-size
returns-clause-size c =
    is_size c.args.lists.now.world (front_part c.args.front) c.args.keys.now c.args.walker.now.left
    (record { room = c.in_ok-room_after_front.field-0; values = 2147483584; items = 0 }) c.in_ok-left.left c.in_ok-room.room refl refl c.in_ok-room_after_front.ensures c.in_ok-left.ensures.room (omega arith)

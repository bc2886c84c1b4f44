use Rattle.std.proofs.Common.{arith}
use Rattle.wc_objects.proofs.Rooms.{length-be32}
use Rattle.wc_events.proofs.nick_writer.put_head.Goals as goal

pub put_front-requires : goal.put_front-requires
put_front-requires c =
    (omega (arith, c.in-Some.ensures, c.in-Ok.ensures.spare.1, c.put_count.ensures.1, length-be32 0), omega (arith, c.in-Some.ensures))

pub put_count-requires-2 : goal.put_count-requires-2
put_count-requires-2 c = omega (arith, c.in-Some.ensures, c.in-Ok.ensures.spare.1, c.put_count.ensures.1, c.put_front.ensures.1, length-be32 0)

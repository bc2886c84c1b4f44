use Rattle.std.proofs.Common.{inl, refl}
use Rattle.wc_turns.proofs.FramesLemmas.{MayTake-end, open-has, ClosesSocket-spared, idle-end}
use Rattle.wc_turns.proofs.LossLemmas.{LosesLink-of}
use Rattle.wc_turns.proofs.SeatLemmas.{loses-keeps}
use Rattle.wc_turns.proofs.sockets.close_socket.Goals as goal

pub returns-then-is_spared : goal.returns-then-is_spared
returns-then-is_spared c = record { closes = ClosesSocket-spared c.args.cause c.args.state.now c.args.core.now c.args.ran.now (c.is_spared.ensures.spared c.if-is_spared.true) (c.is_spared.ensures.leaves c.if-is_spared.true) }

pub returns : goal.returns
returns c =
    let e = c.link_gone.ensures in
    let n = c.count_end.ensures in
    let link = c.args.state.now.link.0 in
    record {
      closes = record {
        state = refl;
        takes = MayTake-end c.args.cause link c.args.core.now c.link_gone.new.self c.args.ran.now c.count_end.new.ran c.requires.cause (λ starves. open-has link c.args.core.now (c.is_spared.ensures.lost c.if-is_spared.false starves)) c.requires.going n.starves n.counts e.does e.counted (record { does = e.does; contained = e.contained; counted = e.counts; drops = e.drops });
        loses = inl (LosesLink-of c.args.core.now c.link_gone.new.self link c.args.cause e.does e.stays e.gone e.servers (record { does = e.does; contained = e.contained; counted = e.counts; drops = e.drops }));
        idle = idle-end c.args.cause c.args.ran.now c.count_end.new.ran c.requires.cause n.starves n.counts;
        wanted = (loses-keeps _ link c.args.cause c.args.core.now.servers c.link_gone.new.self.servers e.servers).wanted;
      };
    }

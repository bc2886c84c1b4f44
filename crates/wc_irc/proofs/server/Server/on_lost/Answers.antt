use Rattle.std.proofs.Common.{arith}
use Rattle.wc_irc.specs.LinkActs.{after_loss}
use Rattle.wc_irc.specs.ServersSeen.{seen}
use Rattle.wc_irc.proofs.ChannelLawLemmas.{kept_by}
use Rattle.wc_irc.proofs.server.Server.on_lost.Goals as goal

pub invariant_of-self : goal.invariant_of-self
invariant_of-self c =
    let s = seen c.self.inside.state in
    kept_by c.on_lost.result (seen c.on_lost.new.state) (after_loss s) s c.on_lost.ensures.after c.on_lost.ensures.unchanged (tt, omega arith) c.self.invariant

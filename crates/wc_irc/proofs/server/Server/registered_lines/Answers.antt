use Rattle.wc_irc.specs.LinkActs.{after_connect}
use Rattle.wc_irc.specs.ServersSeen.{seen}
use Rattle.wc_irc.proofs.ChannelLawLemmas.{kept_by}
use Rattle.wc_irc.proofs.server.Server.registered_lines.Goals as goal

pub invariant_of-self : goal.invariant_of-self
invariant_of-self c =
    let s = seen c.self.inside.state in
    kept_by c.on_connect.result (seen c.on_connect.new.state) (after_connect s) s c.on_connect.ensures.after c.on_connect.ensures.unchanged c.self.invariant c.self.invariant

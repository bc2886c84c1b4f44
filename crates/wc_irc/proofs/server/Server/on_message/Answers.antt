use Rattle.wc_irc.specs.ServerActs.{after_server}
use Rattle.wc_irc.specs.ServersSeen.{seen}
use Rattle.wc_irc.proofs.ChannelLawLemmas.{message_kept, kept_by}
use Rattle.wc_irc.proofs.server.Server.on_message.Goals as goal

pub invariant_of-self : goal.invariant_of-self
invariant_of-self c =
    let s = seen c.self.inside.state in
    kept_by c.on_message.result (seen c.on_message.new.state) (after_server s c.args.m.now) s c.on_message.ensures.after c.on_message.ensures.unchanged (message_kept s c.args.m.now c.self.invariant) c.self.invariant

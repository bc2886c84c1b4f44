use Rattle.wc_irc.specs.ServersSeen.{seen}
use Rattle.wc_irc.proofs.ChannelLawLemmas.{started_kept}
use Rattle.wc_irc.proofs.server.Server.new.Goals as goal

pub invariant_of-result : goal.invariant_of-result
invariant_of-result c = started_kept c.args.options.now c.args.name.now (seen c.in-Ok.state) c.in-Ok.ensures.made

use Rattle.std.proofs.Common.{◌≡◌, ◌++◌, drop, map, flat_map}
use Rattle.wc_irc.specs.Channels.{joined}
use Rattle.wc_irc.specs.LinkActs.{lost_of}
use Rattle.wc_irc.specs.ServersSeen.{seen}
use Rattle.wc_irc.proofs.link_acts.put_lost_lists.Given as goal

abbrev pub invariant-loop-channel : goal.invariant-loop-channel
invariant-loop-channel l = l.acts ++ flat_map (lost_of l.buffers (seen l.state)) (map joined (drop l.channel-index l.channel-items)) ≡ l.fn.acts ++ flat_map (lost_of l.buffers (seen l.state)) (seen l.state).channels

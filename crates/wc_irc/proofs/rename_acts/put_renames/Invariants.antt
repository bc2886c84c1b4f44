use Rattle.std.proofs.Common.{◌≡◌, ◌++◌, drop, map, flat_map}
use Rattle.wc_irc.specs.Channels.{joined}
use Rattle.wc_irc.specs.RenameActs.{rename_of}
use Rattle.wc_irc.specs.ServersSeen.{seen}
use Rattle.wc_irc.proofs.rename_acts.put_renames.Given as goal

abbrev pub invariant-loop-channel : goal.invariant-loop-channel
invariant-loop-channel l = l.acts ++ flat_map (rename_of l.buffers (seen l.state) l.m) (map joined (drop l.channel-index l.channel-items)) ≡ l.fn.acts ++ flat_map (rename_of l.buffers (seen l.state) l.m) (seen l.state).channels

use Rattle.std.proofs.Common.{◌≡◌, map, take}
use Rattle.wc_irc.specs.Channels.{joined}
use Rattle.wc_irc.specs.ReadySeen.{AreReady}
use Rattle.wc_irc.proofs.rename_state.ready_names.Given as goal

abbrev pub invariant-loop-channel : goal.invariant-loop-channel
invariant-loop-channel l = record {
  ready : AreReady l.prefixes l.old l.new (take l.channel-index l.channel-items) l.names.items;
  same : map joined l.channel-items ≡ map joined l.fn.channels;
}

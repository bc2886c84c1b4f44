-- What holds of the joined channels after any messages.
use Rattle.std.specs.Prelude.{◌≡◌, ◌≤◌, ℕ, true, List, [], ◌∷◌, length}
use Rattle.wc_irc.specs.Channels.{Joined}
use Rattle.wc_irc.specs.ChannelStates.{most_channels}
use Rattle.wc_irc_texts.specs.Names.{is_channel}
use Rattle.wc_irc.specs.Servers.{ServerState}

-- each of them has the name of a channel, where CHANTYPES is this
abbrev pub AreNamed : List ℕ → List Joined → Type 0
AreNamed chan_types [] = Unit {0}
AreNamed chan_types (channel ∷ channels) = (is_channel chan_types channel.name ≡ true)
    × AreNamed chan_types channels

abbrev pub HasChannelNames : ServerState → Type 0
HasChannelNames s = AreNamed s.features.chan_types s.channels

-- there are no more of them than a server may have joined
abbrev pub HasFewChannels : ServerState → Type 0
HasFewChannels s = length s.channels ≤ most_channels

abbrev pub AreKept : ServerState → Type 0
AreKept s = HasChannelNames s × HasFewChannels s

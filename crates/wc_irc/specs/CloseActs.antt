-- What is said to a server before its link, or the buffer of a channel, is closed.
use Rattle.std.specs.Prelude.{ℕ, List, [], ◌∷◌, ◌++◌, codes, Option, Some, None, is_some}
use Rattle.std.specs.Prelude.{if◌then◌else◌}
use Rattle.wc_text.specs.declared.names.Cause.TheVariants as cause
use Rattle.wc_text.specs.declared.names.Handle.{Handle}
use Rattle.wc_buffers.specs.Calls.{EntryGroups, vars_at}
use Rattle.wc_irc.specs.declared.act.Act.{Act}
use Rattle.wc_irc.specs.declared.act.Act.TheVariants as act
use Rattle.wc_irc.specs.Autojoin.{message}
use Rattle.wc_irc.specs.ChannelStates.{channel_at}
use Rattle.wc_irc.specs.CommandActs.{channel_in, place_in, linked_in}
use Rattle.wc_irc.specs.SentLines.{sent_message}
use Rattle.wc_irc.specs.Servers.{ServerState}
use Rattle.wc_irc.specs.TalkActs.{sent}

-- ---- the end of a link

abbrev pub quit_line : ServerState → List Act
quit_line s = if s.is_connected then sent_message (message (codes "QUIT") []) ∷ [] else []

-- the line, where the link stands, and then the loss of the server
abbrev pub disconnect_acts : ServerState → List Act
disconnect_acts s = quit_line s ++ act.Leave cause.Disconnected ∷ []

-- ---- the buffer of a channel

abbrev pub part_of : ServerState → Option (List ℕ) → List Act
part_of s None = []
part_of s (Some channel) = if is_some (channel_at s channel) then sent (codes "PART") channel ∷ []
    else []

abbrev pub part_from : Option ServerState → Option (List ℕ) → List Act
part_from None channel = []
part_from (Some s) channel = part_of s channel

-- the PART of the channel of a buffer of this server, where it is joined
unfoldable pub close_acts : EntryGroups → ServerState → Handle → List Act
close_acts groups s buffer = part_from (linked_in s (vars_at buffer groups))
    (channel_in (place_in (vars_at buffer groups)))

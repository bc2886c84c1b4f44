-- What follows on the buffer of a channel, of which this is the full name. The list of the channel
-- changes first, and then the line is printed. Where the channel has no buffer nothing follows.
use Rattle.std.specs.Prelude.{ℕ, Bool, ◌&&◌, List, [], ◌∷◌, ◌++◌, codes, flat_map}
use Rattle.std.specs.Prelude.{Option, Some, None, if◌then◌else◌}
use Rattle.wc_buffers.specs.Calls.{EntryGroups}
use Rattle.wc_ircmsg.specs.declared.message.Message.{Message}
use Rattle.wc_irc.specs.declared.act.Act.{Act}
use Rattle.wc_irc_texts.specs.declared.seat.Seat.{Seat}
use Rattle.wc_irc.specs.Channels.{Joined}
use Rattle.wc_irc.specs.ChannelStates.{channel_at, comes_in}
use Rattle.wc_irc.specs.Lines.{printed, full_tags, nick_tags}
use Rattle.wc_irc_texts.specs.Names.{is_nick}
use Rattle.wc_irc.specs.NewBuffers.{opened, name_or}
use Rattle.wc_irc.specs.NickActs.{add_groups, add_nick, remove_nick, emptied}
use Rattle.wc_irc_texts.specs.Rows.{param}
use Rattle.wc_irc_nicks.specs.Seats.{seat_of}
use Rattle.wc_irc.specs.Servers.{ServerState, is_own}
use Rattle.wc_irc.specs.TalkActs.{on_found}
use Rattle.wc_irc.specs.Targets.{found, full_name}
use Rattle.wc_irc_texts.specs.Texts.{reason_text, source_text}

-- ---- JOIN: the own one opens the buffer and adds the groups; the nick; the line

-- whether a nick comes onto the list of a channel; the own one joins one that is not joined
abbrev pub comes : ServerState → List ℕ → Option Joined → Bool
comes s nick None = is_own s nick && is_nick s.features.prefixes nick
comes s nick (Some channel) = comes_in s.features.prefixes nick channel

abbrev pub come : ServerState → Message → List ℕ → List Act
come s m buffer = if comes s m.nick (channel_at s (param 0 m))
    then add_nick s.features.prefixes buffer m.nick None ∷ [] else []

abbrev pub join_line : Message → List ℕ → Act
join_line m buffer = printed buffer (full_tags (codes "irc_join") m) (codes "-->")
    (source_text m.nick m.user m.host ++ codes " has joined " ++ param 0 m)

abbrev pub join_on : ServerState → Message → List ℕ → List Act
join_on s m buffer = come s m buffer ++ join_line m buffer ∷ []

abbrev pub join_in : ServerState → Message → List ℕ → List Act
join_in s m buffer = add_groups s.features.prefixes buffer ++ join_on s m buffer

-- where this is the full name of the channel's buffer, if it is there
abbrev pub own_join : ServerState → Message → Option (List ℕ) → List Act
own_join s m there = opened there (codes "channel") s (param 0 m)
    ++ join_in s m (name_or there (full_name s.name (param 0 m)))

abbrev pub join_acts : EntryGroups → ServerState → Message → List Act
join_acts groups s m = if is_own s m.nick then own_join s m (found groups s (param 0 m))
    else on_found (found groups s (param 0 m)) (join_on s m)

-- ---- PART and KICK: the nick goes, or where it is the own one all of them; the line

abbrev pub gone : List ℕ → Option Seat → List Act
gone buffer None = []
gone buffer (Some seat) = remove_nick buffer seat.nick ∷ []

abbrev pub leave_as : ServerState → List ℕ → List ℕ → Option Joined → List Act
leave_as s nick buffer None = []
leave_as s nick buffer (Some channel) = if is_own s nick then emptied buffer channel.seats
    else gone buffer (seat_of channel.case_map nick channel.seats)

abbrev pub part_line : Message → List ℕ → Act
part_line m buffer = printed buffer (full_tags (codes "irc_part") m) (codes "<--")
    (source_text m.nick m.user m.host ++ codes " has left " ++ param 0 m
    ++ reason_text (param 1 m))

abbrev pub part_on : ServerState → Message → List ℕ → List Act
part_on s m buffer = leave_as s m.nick buffer (channel_at s (param 0 m)) ++ part_line m buffer ∷ []

abbrev pub part_acts : EntryGroups → ServerState → Message → List Act
part_acts groups s m = on_found (found groups s (param 0 m)) (part_on s m)

abbrev pub kick_line : Message → List ℕ → Act
kick_line m buffer = printed buffer (nick_tags (codes "irc_kick") m) (codes "<--")
    (m.nick ++ codes " has kicked " ++ param 1 m ++ reason_text (param 2 m))

abbrev pub kick_on : ServerState → Message → List ℕ → List Act
kick_on s m buffer = leave_as s (param 1 m) buffer (channel_at s (param 0 m))
    ++ kick_line m buffer ∷ []

abbrev pub kick_acts : EntryGroups → ServerState → Message → List Act
kick_acts groups s m = on_found (found groups s (param 0 m)) (kick_on s m)

-- ---- QUIT: in each channel that has the nick, in the order of joining

abbrev pub quit_line : Message → List ℕ → Act
quit_line m buffer = printed buffer (full_tags (codes "irc_quit") m) (codes "<--")
    (source_text m.nick m.user m.host ++ codes " has quit" ++ reason_text (param 0 m))

abbrev pub quit_on : Message → Seat → List ℕ → List Act
quit_on m seat buffer = remove_nick buffer seat.nick ∷ quit_line m buffer ∷ []

abbrev pub quit_as : EntryGroups → ServerState → Message → Joined → Option Seat → List Act
quit_as groups s m channel None = []
quit_as groups s m channel (Some seat) = on_found (found groups s channel.name) (quit_on m seat)

abbrev pub quit_of : EntryGroups → ServerState → Message → Joined → List Act
quit_of groups s m channel = quit_as groups s m channel
    (seat_of channel.case_map m.nick channel.seats)

abbrev pub quit_acts : EntryGroups → ServerState → Message → List Act
quit_acts groups s m = flat_map (quit_of groups s m) s.channels

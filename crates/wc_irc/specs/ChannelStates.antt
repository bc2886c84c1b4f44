-- What the joined channels of a server are after the messages that change them.
use Rattle.std.specs.Prelude.{ℕ, Bool, not, ◌&&◌, nat_le, List, [], ◌∷◌, ◌++◌, map, find, length}
use Rattle.std.specs.Prelude.{is_some, Option, if◌then◌else◌}
use Rattle.wc_ircmsg.specs.declared.case_map.CaseMap.{CaseMap}
use Rattle.wc_ircmsg.specs.declared.prefixes.Prefixes.{Prefixes}
use Rattle.wc_irc_texts.specs.declared.seat.ModeSet.{ModeSet}
use Rattle.wc_irc.specs.Channels.{Joined, without_nick}
use Rattle.wc_irc_texts.specs.Names.{is_nick, is_same}
use Rattle.wc_irc_nicks.specs.Seats.{has_seat, without_seat, with_name}
use Rattle.wc_irc.specs.Servers.{ServerState, is_own, own_nick_from}

-- ---- one of the channels, by its name

abbrev pub joined_of : CaseMap → List ℕ → List Joined → Option Joined
joined_of case_map name channels = find (λ (c : Joined). is_same case_map name c.name) channels

-- the first of that name changed, and taken out
abbrev pub change_first : CaseMap → List ℕ → (Joined → Joined) → List Joined → List Joined
change_first case_map name change [] = []
change_first case_map name change (channel ∷ channels) = if is_same case_map name channel.name
    then change channel ∷ channels else channel ∷ change_first case_map name change channels

abbrev pub without_first : CaseMap → List ℕ → List Joined → List Joined
without_first case_map name [] = []
without_first case_map name (channel ∷ channels) = if is_same case_map name channel.name
    then channels else channel ∷ without_first case_map name channels

abbrev pub channel_at : ServerState → List ℕ → Option Joined
channel_at s name = joined_of s.features.case_map name s.channels

abbrev pub change_one : ServerState → List ℕ → (Joined → Joined) → ServerState
change_one s name change = record s {
  channels = change_first s.features.case_map name change s.channels;
}

abbrev pub leave_one : ServerState → List ℕ → ServerState
leave_one s name = record s { channels = without_first s.features.case_map name s.channels }

-- ---- so many channels are joined at most

abbrev pub most_channels : ℕ
most_channels = 1024

-- whether a channel is one too many: it is not joined, and so many others are
abbrev pub is_beyond : ServerState → List ℕ → Bool
is_beyond s name = nat_le most_channels (length s.channels) && not (is_some (channel_at s name))

-- ---- JOIN: what is no nick, or is on the list, does not come in; the own one joins the channel

abbrev pub no_modes : ModeSet
no_modes = record { 0 = 0 }

abbrev pub comes_in : Prefixes → List ℕ → Joined → Bool
comes_in prefixes nick channel = is_nick prefixes nick
    && not (has_seat channel.case_map nick channel.seats)

abbrev pub with_nick : Prefixes → List ℕ → Joined → Joined
with_nick prefixes nick channel = if comes_in prefixes nick channel
    then record channel { seats = channel.seats ++ record { nick = nick; modes = no_modes } ∷ [] }
    else channel

abbrev pub new_channel : ServerState → List ℕ → Joined
new_channel s name = record { name = name; case_map = s.features.case_map; seats = [] }

abbrev pub entered : ServerState → List ℕ → List ℕ → ServerState
entered s nick name = record s {
  channels = s.channels ++ with_nick s.features.prefixes nick (new_channel s name) ∷ [];
}

abbrev pub after_join : ServerState → List ℕ → List ℕ → ServerState
after_join s nick name =
    if is_some (channel_at s name) then change_one s name (with_nick s.features.prefixes nick) else (
    if is_own s nick then entered s nick name else s)

-- ---- PART and KICK: the own nick leaves the channel, another one its list

abbrev pub after_leave : ServerState → List ℕ → List ℕ → ServerState
after_leave s nick name = if is_own s nick then leave_one s name
    else change_one s name (without_nick nick)

-- ---- QUIT

abbrev pub quit_by : ServerState → List ℕ → ServerState
quit_by s nick = record s { channels = map (without_nick nick) s.channels }

-- ---- NICK: a nick keeps its place under its other name, or goes where it may not have that

abbrev pub may_have : Prefixes → List ℕ → List ℕ → Joined → Bool
may_have prefixes old new channel = is_nick prefixes new
    && not (has_seat channel.case_map new (without_seat channel.case_map old channel.seats))

abbrev pub renamed : Prefixes → List ℕ → List ℕ → Joined → Joined
renamed prefixes old new channel = if may_have prefixes old new channel
    then record channel { seats = with_name channel.case_map old new channel.seats }
    else without_nick old channel

abbrev pub own_after : ServerState → List ℕ → List ℕ → List ℕ
own_after s old new = if is_own s old then own_nick_from s new else s.nick

abbrev pub after_nick : ServerState → List ℕ → List ℕ → ServerState
after_nick s old new = record s {
  nick = own_after s old new;
  channels = map (renamed s.features.prefixes old new) s.channels;
}

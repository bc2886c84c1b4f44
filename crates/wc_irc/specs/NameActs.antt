-- What a list of names makes of a channel's list, and what follows of it: a nick comes to the end,
-- or gets the modes that its signs are, in the place of those it had.
use Rattle.std.specs.Prelude.{ℕ, Bool, List, [], ◌∷◌, ◌++◌, flat_map, codes}
use Rattle.std.specs.Prelude.{Option, Some, None, if◌then◌else◌}
use Rattle.wc_text.specs.Words.{words_of}
use Rattle.wc_buffers.specs.Calls.{EntryGroups}
use Rattle.wc_ircmsg.specs.declared.case_map.CaseMap.{CaseMap}
use Rattle.wc_ircmsg.specs.declared.message.Message.{Message}
use Rattle.wc_ircmsg.specs.declared.prefixes.Prefixes.{Prefixes}
use Rattle.wc_irc.specs.declared.act.Act.{Act}
use Rattle.wc_irc_texts.specs.declared.seat.Seat.{Seat}
use Rattle.wc_irc.specs.Channels.{Joined}
use Rattle.wc_irc.specs.ChannelStates.{channel_at, change_one}
use Rattle.wc_irc_texts.specs.Listed.{listed_nick, listed_bits}
use Rattle.wc_irc_nicks.specs.Merged.{put_seat, merged}
use Rattle.wc_irc.specs.ModeActs.{moved}
use Rattle.wc_irc_texts.specs.ModeBits.{highest}
use Rattle.wc_irc_texts.specs.Names.{is_nick}
use Rattle.wc_irc.specs.NickActs.{add_nick}
use Rattle.wc_irc_texts.specs.Rows.{param}
use Rattle.wc_irc_nicks.specs.Seats.{seat_of}
use Rattle.wc_irc.specs.Servers.{ServerState, has_capability}
use Rattle.wc_irc.specs.TalkActs.{on_found}
use Rattle.wc_irc.specs.Targets.{found}

-- ---- the nicks of a list of names, each with the modes of its signs; what is no nick is passed over

abbrev pub if_nick : Prefixes → Seat → List Seat
if_nick prefixes seat = if is_nick prefixes seat.nick then seat ∷ [] else []

abbrev pub listed_seat : Prefixes → Bool → List ℕ → List Seat
listed_seat prefixes has_hosts name = if_nick prefixes (record {
  nick = listed_nick prefixes has_hosts name;
  modes = record { 0 = listed_bits prefixes name };
})

abbrev pub listed_seats : Prefixes → Bool → List (List ℕ) → List Seat
listed_seats prefixes has_hosts names = flat_map (listed_seat prefixes has_hosts) names

-- names have hosts where this capability stands (IRCv3)
abbrev pub has_hosts_in_names : ServerState → Bool
has_hosts_in_names s = has_capability (codes "userhost-in-names") s

abbrev pub seats_in : ServerState → Message → List Seat
seats_in s m = listed_seats s.features.prefixes (has_hosts_in_names s) (words_of (param 3 m))

-- ---- the lists

abbrev pub with_names : List Seat → Joined → Joined
with_names listed channel = record channel {
  seats = merged channel.case_map listed channel.seats;
}

abbrev pub after_names : ServerState → Message → ServerState
after_names s m = change_one s (param 2 m) (with_names (seats_in s m))

-- ---- and the acts, over the list as the names before leave it

abbrev pub placed : Prefixes → List ℕ → Seat → Option Seat → List Act
placed prefixes buffer listed None =
    add_nick prefixes buffer listed.nick (highest listed.modes.0) ∷ []
placed prefixes buffer listed (Some seat) = moved prefixes buffer seat (highest listed.modes.0)

abbrev pub placed_all : Prefixes → List ℕ → CaseMap → List Seat → List Seat → List Act
placed_all prefixes buffer case_map [] seats = []
placed_all prefixes buffer case_map (listed ∷ others) seats =
    placed prefixes buffer listed (seat_of case_map listed.nick seats)
    ++ placed_all prefixes buffer case_map others
    (put_seat case_map listed.nick listed.modes seats)

abbrev pub names_in : ServerState → Message → List ℕ → Option Joined → List Act
names_in s m buffer None = []
names_in s m buffer (Some channel) = placed_all s.features.prefixes buffer channel.case_map
    (seats_in s m) channel.seats

abbrev pub names_on : ServerState → Message → List ℕ → List Act
names_on s m buffer = names_in s m buffer (channel_at s (param 2 m))

abbrev pub names_acts : EntryGroups → ServerState → Message → List Act
names_acts groups s m = on_found (found groups s (param 2 m)) (names_on s m)

-- The modes of nicks that a message changes, and what follows of it: a nick moves to another group
-- where its highest mode is another one.
use Rattle.std.specs.Prelude.{ℕ, Bool, true, false, ◌==◌, List, [], ◌∷◌, ◌++◌, codes}
use Rattle.std.specs.Prelude.{position, Option, Some, None, if◌then◌else◌}
use Rattle.wc_buffers.specs.Calls.{EntryGroups}
use Rattle.wc_ircmsg.specs.declared.case_map.CaseMap.{CaseMap}
use Rattle.wc_ircmsg.specs.declared.message.Message.{Message}
use Rattle.wc_ircmsg.specs.declared.prefixes.Prefixes.{Prefixes}
use Rattle.wc_irc.specs.declared.act.Act.{Act}
use Rattle.wc_irc_texts.specs.declared.seat.ModeSet.{ModeSet}
use Rattle.wc_irc_texts.specs.declared.seat.Seat.{Seat}
use Rattle.wc_irc.specs.Channels.{Joined}
use Rattle.wc_irc.specs.ChannelStates.{channel_at, change_one}
use Rattle.wc_irc.specs.Lines.{printed, nick_tags}
use Rattle.wc_irc_texts.specs.ModeBits.{highest, bits_changed}
use Rattle.wc_irc_texts.specs.Modes.{ModeChange, mode_changes}
use Rattle.wc_irc.specs.NickActs.{add_nick, remove_nick}
use Rattle.wc_irc_texts.specs.Rows.{param, params_from}
use Rattle.wc_irc_nicks.specs.Seats.{seat_of, with_modes}
use Rattle.wc_irc.specs.Servers.{ServerState}
use Rattle.wc_irc.specs.TalkActs.{on_found}
use Rattle.wc_irc.specs.Targets.{found}
use Rattle.wc_irc_texts.specs.Texts.{spaced}

-- ---- one change of a mode, by the place of its letter in PREFIX

abbrev pub place_of : Prefixes → ℕ → Option ℕ
place_of prefixes letter = position (λ other. other == letter) prefixes.modes

abbrev pub bits_after : Bool → Option ℕ → ℕ → ℕ
bits_after adds None bits = bits
bits_after adds (Some place) bits = bits_changed adds place bits

abbrev pub modes_after : Prefixes → ModeChange → ModeSet → ModeSet
modes_after prefixes change modes = record {
  0 = bits_after change.adds (place_of prefixes change.letter) modes.0;
}

abbrev pub change_seat : Prefixes → CaseMap → ModeChange → List Seat → Option Seat → List Seat
change_seat prefixes case_map change seats None = seats
change_seat prefixes case_map change seats (Some seat) =
    with_modes case_map change.nick (modes_after prefixes change seat.modes) seats

-- one of a nick that is not there changes nothing
abbrev pub with_change : Prefixes → CaseMap → ModeChange → List Seat → List Seat
with_change prefixes case_map change seats = change_seat prefixes case_map change seats
    (seat_of case_map change.nick seats)

-- each change in order
abbrev pub with_changes : Prefixes → CaseMap → List ModeChange → List Seat → List Seat
with_changes prefixes case_map [] seats = seats
with_changes prefixes case_map (change ∷ changes) seats =
    with_changes prefixes case_map changes (with_change prefixes case_map change seats)

-- ---- MODE: the lists

abbrev pub with_modes_of : ServerState → Message → Joined → Joined
with_modes_of s m channel = record channel {
  seats = with_changes s.features.prefixes channel.case_map
      (mode_changes s.features (params_from 1 m)) channel.seats;
}

abbrev pub after_mode : ServerState → Message → ServerState
after_mode s m = change_one s (param 0 m) (with_modes_of s m)

-- ---- and the acts: a nick moves where its highest mode is another one

abbrev pub same_place : Option ℕ → Option ℕ → Bool
same_place None None = true
same_place None (Some place) = false
same_place (Some place) None = false
same_place (Some place) (Some other) = place == other

abbrev pub moved : Prefixes → List ℕ → Seat → Option ℕ → List Act
moved prefixes buffer seat place = if same_place (highest seat.modes.0) place then []
    else remove_nick buffer seat.nick ∷ add_nick prefixes buffer seat.nick place ∷ []

abbrev pub change_acts : Prefixes → List ℕ → ModeChange → Option Seat → List Act
change_acts prefixes buffer change None = []
change_acts prefixes buffer change (Some seat) =
    moved prefixes buffer seat (highest (modes_after prefixes change seat.modes).0)

-- each change in order, over the list as those before it leave it
abbrev pub changes_acts : Prefixes → List ℕ → CaseMap → List ModeChange → List Seat → List Act
changes_acts prefixes buffer case_map [] seats = []
changes_acts prefixes buffer case_map (change ∷ changes) seats =
    change_acts prefixes buffer change (seat_of case_map change.nick seats)
    ++ changes_acts prefixes buffer case_map changes (with_change prefixes case_map change seats)

abbrev pub mode_moves : ServerState → Message → List ℕ → Option Joined → List Act
mode_moves s m buffer None = []
mode_moves s m buffer (Some channel) = changes_acts s.features.prefixes buffer channel.case_map
    (mode_changes s.features (params_from 1 m)) channel.seats

abbrev pub mode_line : Message → List ℕ → Act
mode_line m buffer = printed buffer (nick_tags (codes "irc_mode") m) (codes "--")
    (codes "Mode " ++ param 0 m ++ codes " [" ++ spaced (params_from 1 m) ++ codes "] by " ++ m.nick)

abbrev pub mode_on : ServerState → Message → List ℕ → List Act
mode_on s m buffer = mode_moves s m buffer (channel_at s (param 0 m)) ++ mode_line m buffer ∷ []

abbrev pub mode_acts : EntryGroups → ServerState → Message → List Act
mode_acts groups s m = on_found (found groups s (param 0 m)) (mode_on s m)

-- The joined channels, with their nicks.
use Rattle.std.specs.Prelude.{◌≡◌, ℕ, Bool, false, List, map, find, Option}
use Rattle.wc_ircmsg.specs.declared.case_map.CaseMap.{CaseMap}
use Rattle.wc_irc.specs.declared.channel.Channel.{Channel}
use Rattle.wc_irc_texts.specs.declared.seat.Seat.{Seat}
use Rattle.wc_irc_texts.specs.Names.{is_same}
use Rattle.wc_irc_nicks.specs.Seats.{has_seat, without_seat}

-- a channel with its nicks in the order of their coming, and the case map that tells them apart
pub record Joined : Type 0 where
  pub name : List ℕ
  pub case_map : CaseMap
  pub seats : List Seat

abbrev pub joined : Channel → Joined
joined channel = record {
  name = channel.name;
  case_map = channel.nicks.case_map;
  seats = channel.nicks.seats;
}

abbrev pub is_channel_named : CaseMap → List ℕ → Channel → Bool
is_channel_named case_map name channel = is_same case_map name channel.name

abbrev pub channel_of : CaseMap → List ℕ → List Channel → Option Channel
channel_of case_map name channels = find (is_channel_named case_map name) channels

-- a channel without a nick
abbrev pub without_nick : List ℕ → Joined → Joined
without_nick nick channel = record channel {
  seats = without_seat channel.case_map nick channel.seats;
}

-- the channels without a nick
abbrev pub after_quit : List ℕ → List Channel → List Joined
after_quit nick channels = map (λ (channel : Channel). without_nick nick (joined channel)) channels

-- a channel that had not the nick is as it was
abbrev pub LeavesOthers : List ℕ → Joined → Type 0
LeavesOthers nick channel = has_seat channel.case_map nick channel.seats ≡ false →
    without_nick nick channel ≡ channel

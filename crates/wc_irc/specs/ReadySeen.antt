-- Another name for a nick of each channel, as the code makes it ready before it gives it.
use Rattle.std.specs.Prelude.{◌≡◌, ℕ, ◌≤◌, true, false, List, [], ◌∷◌, length}
use Rattle.std.specs.Prelude.{Option, Some, None}
use Rattle.wc_ircmsg.specs.declared.prefixes.Prefixes.{Prefixes}
use Rattle.wc_irc.specs.declared.channel.Channel.{Channel}
use Rattle.wc_irc.specs.Channels.{Joined, joined, without_nick}
use Rattle.wc_irc.specs.ChannelStates.{renamed}
use Rattle.wc_irc_nicks.specs.Kept.{NewNickValue}
use Rattle.wc_irc_nicks.specs.Seats.{has_seat, without_seat, with_name}

-- a nick gets the name that is ready, or goes
abbrev pub given : List ℕ → Option NewNickValue → Joined → Joined
given old None channel = without_nick old channel
given old (Some next) channel = record channel {
  seats = with_name channel.case_map old next.nick channel.seats;
}

-- each channel gives the name that is ready for it
abbrev pub give_each : List ℕ → List (Option NewNickValue) → List Joined → List Joined
give_each old [] channels = channels
give_each old (next ∷ names) [] = []
give_each old (next ∷ names) (channel ∷ channels) =
    given old next channel ∷ give_each old names channels

-- it gets it without taking memory
pub record MayGive (old : List ℕ) (channel : Channel) (next : NewNickValue) : Type 0 where
  pub case_map : next.case_map ≡ channel.nicks.case_map
  pub short : length next.nick ≤ 64
  pub there : has_seat channel.nicks.case_map old channel.nicks.seats ≡ true
  pub absent : has_seat channel.nicks.case_map next.nick
      (without_seat channel.nicks.case_map old channel.nicks.seats) ≡ false
  pub room : 1 ≤ channel.nicks.room

abbrev pub CanGive : List ℕ → Channel → Option NewNickValue → Type 0
CanGive old channel None = Unit {0}
CanGive old channel (Some next) = MayGive old channel next

abbrev pub AllCanGive : List ℕ → List Channel → List (Option NewNickValue) → Type 0
AllCanGive old channels [] = Unit {0}
AllCanGive old [] (next ∷ names) = ⊥
AllCanGive old (channel ∷ channels) (next ∷ names) = CanGive old channel next
    × AllCanGive old channels names

-- what is ready is what a NICK makes
pub record IsReady (prefixes : Prefixes) (old new : List ℕ) (channel : Channel)
    (next : Option NewNickValue) : Type 0 where
  pub can : CanGive old channel next
  pub is : given old next (joined channel) ≡ renamed prefixes old new (joined channel)

abbrev pub AreReady : Prefixes → List ℕ → List ℕ → List Channel → List (Option NewNickValue) → Type 0
AreReady prefixes old new [] [] = Unit {0}
AreReady prefixes old new [] (next ∷ names) = ⊥
AreReady prefixes old new (channel ∷ channels) [] = ⊥
AreReady prefixes old new (channel ∷ channels) (next ∷ names) =
    IsReady prefixes old new channel next × AreReady prefixes old new channels names

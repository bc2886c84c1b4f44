-- What one server is known to be, and what it is after messages of the server itself.
use Rattle.std.specs.Prelude.{ℕ, ◌+◌, Bool, true, nat_lt, List, [], ◌∷◌, ◌++◌, codes, drop}
use Rattle.std.specs.Prelude.{if◌then◌else◌, ◌&&◌}
use Rattle.wc_text.specs.declared.names.Address.{Address}
use Rattle.wc_text.specs.Words.{is_filled}
use Rattle.wc_ircmsg.specs.declared.message.Message.{Message}
use Rattle.wc_irc_texts.specs.declared.features.Features.{Features}
use Rattle.wc_irc_texts.specs.declared.negotiation.Negotiation.{Negotiation}
use Rattle.wc_irc.specs.Channels.{Joined}
use Rattle.wc_irc_texts.specs.Features.{after_tokens}
use Rattle.wc_irc_texts.specs.Capabilities.{is_among}
use Rattle.wc_irc_texts.specs.Names.{is_nick, is_same}
use Rattle.wc_irc_texts.specs.Negotiation.{ended}

-- A server over one link. What its options give is what they had when its connection was begun.
pub record ServerState : Type 0 where
  pub name : List ℕ
  pub address : Address
  pub user : List ℕ
  pub real_name : List ℕ
  pub password : List ℕ
  pub autojoin : List ℕ
  -- the own nick, which before the first 001 is the one that was tried last
  pub nick : List ℕ
  -- those that are still to be tried, and how many of those that were tried are taken
  pub nicks_left : List (List ℕ)
  pub taken : ℕ
  -- how the login goes on
  pub negotiation : Negotiation
  -- `user@host` as others see the own nick, or nothing before it is told
  pub mask : List ℕ
  -- whether the link stands, and whether it had its first 001
  pub is_connected : Bool
  pub is_registered : Bool
  -- what the server told of itself
  pub features : Features
  -- the joined channels in the order of joining
  pub channels : List Joined
  -- how many private buffers messages may open
  pub private_max : ℕ

abbrev pub is_own : ServerState → List ℕ → Bool
is_own s nick = is_same s.features.case_map nick s.nick

-- whether the capability of a name stands
abbrev pub has_capability : List ℕ → ServerState → Bool
has_capability name s = is_among name s.negotiation.stands

-- ---- 001: the first one of a link gives the own nick, where it is a nick, and ends the login

abbrev pub own_nick_from : ServerState → List ℕ → List ℕ
own_nick_from s nick = if is_nick s.features.prefixes nick then nick else s.nick

abbrev pub after_welcome : ServerState → List ℕ → ServerState
after_welcome s nick = if s.is_registered then s
    else record s {
      nick = own_nick_from s nick;
      is_registered = true;
      negotiation = ended s.negotiation;
    }

-- ---- 433 before it: the next nick is tried, and after the last of them the same with a `_` more

abbrev pub first_of : List (List ℕ) → List ℕ → List ℕ
first_of [] other = other
first_of (nick ∷ nicks) other = nick

abbrev pub next_nick : ServerState → List ℕ
next_nick s = first_of s.nicks_left (s.nick ++ codes "_")

-- four of them are answered so
abbrev pub may_try : ServerState → Bool
may_try s = nat_lt s.taken 4

abbrev pub after_taken : ServerState → ServerState
after_taken s = if may_try s then record s {
  nick = next_nick s;
  nicks_left = drop 1 s.nicks_left;
  taken = s.taken + 1;
} else s

-- ---- 005: while a channel is joined it changes nothing

abbrev pub told_if_alone : List Joined → ServerState → List (List ℕ) → ServerState
told_if_alone [] s params = record s { features = after_tokens s.features params }
told_if_alone (channel ∷ channels) s params = s

abbrev pub after_features : ServerState → List (List ℕ) → ServerState
after_features s params = told_if_alone s.channels s params

-- ---- a message of the own nick tells how others see it

abbrev pub tells_mask : ServerState → Message → Bool
tells_mask s m = (is_filled m.user && is_filled m.host) && is_own s m.nick

abbrev pub mask_after : ServerState → Message → List ℕ
mask_after s m = if tells_mask s m then m.user ++ 64 ∷ m.host else s.mask

-- No more channels are joined than a server may have.
use Rattle.std.proofs.Common.{◌≡◌, ◌≤◌, ◌+◌, ℕ, Bool, true, false, cond, List, [], ◌∷◌, length, drop, refl, ap, sym, ◌∙◌, arith, length-append}
use Rattle.std.specs.Prelude.{◌&&◌, not, nat_le, is_some}
use Rattle.std.proofs.lemmas.Bool.Decides.{nat_tests}
use Rattle.std.proofs.lemmas.List.{length-map}
use Rattle.wc_ircmsg.specs.declared.case_map.CaseMap.{CaseMap}
use Rattle.wc_ircmsg.specs.declared.message.Message.{Message}
use Rattle.wc_irc_texts.specs.declared.kind.MessageKind.{MessageKind}
use Rattle.wc_irc_texts.specs.declared.kind.MessageKind.TheVariants.{Welcome, Tokens, NickInUse, Join, Part, Quit, Kick, Nick, Mode, Topic, TopicReply, Names, NamesEnd, ModeReply, Privmsg, Notice, Ping, Error, Invite, Other}
use Rattle.wc_irc.specs.ChannelLaws.{HasFewChannels}
use Rattle.wc_irc.specs.Channels.{Joined, without_nick}
use Rattle.wc_irc.specs.ChannelStates.{channel_at, is_beyond, change_first, without_first, change_one, leave_one, with_nick, new_channel, entered, after_join, after_leave, renamed}
use Rattle.wc_irc.specs.ModeActs.{with_modes_of}
use Rattle.wc_irc.specs.NameActs.{with_names, seats_in}
use Rattle.wc_irc_texts.specs.Names.{is_same}
use Rattle.wc_irc_texts.specs.Negotiation.{ended}
use Rattle.wc_irc_texts.specs.Rows.{param, kind_of}
use Rattle.wc_irc.specs.ServerActs.{after_kind, is_too_many, kind_within, kind_to}
use Rattle.wc_irc.specs.Servers.{ServerState, is_own, may_try, after_welcome, after_taken, told_if_alone, own_nick_from, next_nick}

-- ---- what the changes make of their number

one_changed : (case_map : CaseMap) (name : List ℕ) (f : Joined → Joined) (cs : List Joined) → length (change_first case_map name f cs) ≡ length cs
one_changed case_map name f [] = refl
one_changed case_map name f (c ∷ cs) = by (is_same case_map name c.name) (one_changed case_map name f cs) where
  by : (t : Bool) → length (change_first case_map name f cs) ≡ length cs → length (cond t (f c ∷ cs) (c ∷ change_first case_map name f cs)) ≡ length (c ∷ cs)
  by true rest = refl
  by false rest = omega (arith, rest)

one_left : (case_map : CaseMap) (name : List ℕ) (cs : List Joined) → length (without_first case_map name cs) ≤ length cs
one_left case_map name [] = omega arith
one_left case_map name (c ∷ cs) = by (is_same case_map name c.name) (one_left case_map name cs) where
  by : (t : Bool) → length (without_first case_map name cs) ≤ length cs → length (cond t cs (c ∷ without_first case_map name cs)) ≤ length (c ∷ cs)
  by true rest = omega arith
  by false rest = omega (arith, rest)

-- ---- each kind of message

welcomed : (s : ServerState) (nick : List ℕ) → HasFewChannels s → HasFewChannels (after_welcome s nick)
welcomed s nick few = by s.is_registered where
  by : (t : Bool) → HasFewChannels (cond t s (record s { nick = own_nick_from s nick; is_registered = true; negotiation = ended s.negotiation }))
  by true = few
  by false = few

taken : (s : ServerState) → HasFewChannels s → HasFewChannels (after_taken s)
taken s few = by (may_try s) where
  by : (t : Bool) → HasFewChannels (cond t (record s { nick = next_nick s; nicks_left = drop 1 s.nicks_left; taken = s.taken + 1 }) s)
  by true = few
  by false = few

told : (channels : List Joined) (s : ServerState) (params : List (List ℕ)) → HasFewChannels s → HasFewChannels (told_if_alone channels s params)
told [] s params few = few
told (c ∷ channels) s params few = few

-- the own JOIN is of this kind where there is room for one more
joins : (s : ServerState) (nick name : List ℕ) → (is_own s nick && is_beyond s name) ≡ false → HasFewChannels s → HasFewChannels (after_join s nick name)
joins s nick name room few = by (is_some (channel_at s name)) (is_own s nick) (nat_le 1024 (length s.channels)) refl room where
  by : (t u v : Bool) → nat_le 1024 (length s.channels) ≡ v → (u && (v && not t)) ≡ false
      → HasFewChannels (cond t (change_one s name (with_nick s.features.prefixes nick)) (cond u (entered s nick name) s))
  by true u v full is = omega (arith, one_changed s.features.case_map name (with_nick s.features.prefixes nick) s.channels, few)
  by false true true full is = absurd (cc)
  by false true false full is =
      let below : length s.channels + 1 ≤ 1024 = grind (arith, nat_tests) in
      omega (arith, length-append s.channels (with_nick s.features.prefixes nick (new_channel s name) ∷ []), below)
  by false false v full is = few

leaves : (s : ServerState) (nick name : List ℕ) → HasFewChannels s → HasFewChannels (after_leave s nick name)
leaves s nick name few = by (is_own s nick) where
  by : (t : Bool) → HasFewChannels (cond t (leave_one s name) (change_one s name (without_nick nick)))
  by true = omega (arith, one_left s.features.case_map name s.channels, few)
  by false = omega (arith, one_changed s.features.case_map name (without_nick nick) s.channels, few)

-- a message that joins a channel has the kind by its form, and the channel is not one too many
pub within_join : (s : ServerState) (m : Message) (kind : MessageKind) → kind_within s m kind ≡ Join → (kind ≡ Join) × (is_too_many s m Join ≡ false)
within_join s m kind e = by (is_too_many s m kind) refl e where
  by : (t : Bool) → is_too_many s m kind ≡ t → cond t Other kind ≡ Join → (kind ≡ Join) × (is_too_many s m Join ≡ false)
  by true full is = absurd (cc)
  by false full is = (is, sym (ap (is_too_many s m) is) ∙ full)

pub kind_few : (s : ServerState) (m : Message) (kind : MessageKind) → kind_to s m ≡ kind → HasFewChannels s → HasFewChannels (after_kind s m kind)
unfolding after_kind
kind_few s m Welcome is few = welcomed s (param 0 m) few
kind_few s m Tokens is few = told s.channels s m.params few
kind_few s m NickInUse is few = taken s few
kind_few s m Join is few = joins s m.nick (param 0 m) (within_join s m (kind_of s.features.chan_types s.is_registered m) is).1 few
kind_few s m Part is few = leaves s m.nick (param 0 m) few
kind_few s m Quit is few = omega (arith, length-map s.channels (without_nick m.nick), few)
kind_few s m Kick is few = leaves s (param 1 m) (param 0 m) few
kind_few s m Nick is few = omega (arith, length-map s.channels (renamed s.features.prefixes m.nick (param 0 m)), few)
kind_few s m Mode is few = omega (arith, one_changed s.features.case_map (param 0 m) (with_modes_of s m) s.channels, few)
kind_few s m Topic is few = few
kind_few s m TopicReply is few = few
kind_few s m Names is few = omega (arith, one_changed s.features.case_map (param 2 m) (with_names (seats_in s m)) s.channels, few)
kind_few s m NamesEnd is few = few
kind_few s m ModeReply is few = few
kind_few s m Privmsg is few = few
kind_few s m Notice is few = few
kind_few s m Ping is few = few
kind_few s m Error is few = few
kind_few s m Invite is few = few
kind_few s m Other is few = few

-- Each joined channel has the name of one, after any messages, and there are not too many.
use Rattle.std.proofs.Common.{◌≡◌, ℕ, Bool, true, false, cond, List, [], ◌∷◌, ◌++◌, map, drop, ◌+◌, Result, Ok, Err, Option, Some, None, refl, ap, sym, ◌∙◌, subst, arith}
use Rattle.std.specs.Prelude.{◌&&◌, is_some, OnOk, OnErr}
use Rattle.wc_text.specs.declared.names.Address.{Address}
use Rattle.wc_options.specs.Options.{OptionsValue}
use Rattle.wc_ircmsg.specs.declared.case_map.CaseMap.{CaseMap}
use Rattle.wc_ircmsg.specs.declared.message.Message.{Message}
use Rattle.wc_ircmsg.specs.declared.prefixes.Prefixes.{Prefixes}
use Rattle.wc_irc_texts.specs.declared.kind.MessageKind.{MessageKind}
use Rattle.wc_irc_texts.specs.declared.kind.MessageKind.TheVariants.{Welcome, Tokens, NickInUse, Join, Part, Quit, Kick, Nick, Mode, Topic, TopicReply, Names, NamesEnd, ModeReply, Privmsg, Notice, Ping, Error, Invite, Other}
use Rattle.wc_irc.specs.declared.refused.ServerRefused.TheVariants.{TlsOn}
use Rattle.wc_irc.specs.ChannelLaws.{AreNamed, HasChannelNames, AreKept}
use Rattle.wc_irc.specs.Channels.{Joined, without_nick}
use Rattle.wc_irc.specs.ChannelStates.{channel_at, change_first, without_first, change_one, leave_one, comes_in, with_nick, new_channel, entered, after_join, after_leave, may_have, renamed}
use Rattle.wc_irc_texts.specs.Features.{after_tokens}
use Rattle.wc_irc.specs.ModeActs.{with_modes_of}
use Rattle.wc_irc.specs.NameActs.{with_names, seats_in}
use Rattle.wc_irc_texts.specs.Names.{is_channel, is_same}
use Rattle.wc_irc_texts.specs.Negotiation.{ended}
use Rattle.wc_irc_texts.specs.Rows.{param, has_params, kind_named, is_complete, kind_of}
use Rattle.wc_irc_nicks.specs.Seats.{with_name}
use Rattle.wc_irc.specs.ServerActs.{after_kind, kind_to, after_server}
use Rattle.wc_irc.specs.Servers.{ServerState, is_own, may_try, after_welcome, after_taken, told_if_alone, own_nick_from, next_nick}
use Rattle.wc_irc.specs.Start.{is_tls, address_in, first_state, start_at, start_of}
use Rattle.wc_irc.proofs.FewLemmas.{within_join, kind_few}

-- a change of channels that keeps each name
abbrev KeepsNames : (Joined → Joined) → Type 0
KeepsNames f = (c : Joined) → (f c).name ≡ c.name

one_changed : (chan_types : List ℕ) (case_map : CaseMap) (name : List ℕ) (f : Joined → Joined) (cs : List Joined) → KeepsNames f → AreNamed chan_types cs → AreNamed chan_types (change_first case_map name f cs)
one_changed chan_types case_map name f [] keeps are = tt
one_changed chan_types case_map name f (c ∷ cs) keeps are = by (is_same case_map name c.name) (one_changed chan_types case_map name f cs keeps are.1) where
  by : (t : Bool) → AreNamed chan_types (change_first case_map name f cs) → AreNamed chan_types (cond t (f c ∷ cs) (c ∷ change_first case_map name f cs))
  by true rest = (ap (is_channel chan_types) (keeps c) ∙ are.0, are.1)
  by false rest = (are.0, rest)

all_changed : (chan_types : List ℕ) (f : Joined → Joined) (cs : List Joined) → KeepsNames f → AreNamed chan_types cs → AreNamed chan_types (map f cs)
all_changed chan_types f [] keeps are = tt
all_changed chan_types f (c ∷ cs) keeps are = (ap (is_channel chan_types) (keeps c) ∙ are.0, all_changed chan_types f cs keeps are.1)

one_left : (chan_types : List ℕ) (case_map : CaseMap) (name : List ℕ) (cs : List Joined) → AreNamed chan_types cs → AreNamed chan_types (without_first case_map name cs)
one_left chan_types case_map name [] are = tt
one_left chan_types case_map name (c ∷ cs) are = by (is_same case_map name c.name) (one_left chan_types case_map name cs are.1) where
  by : (t : Bool) → AreNamed chan_types (without_first case_map name cs) → AreNamed chan_types (cond t cs (c ∷ without_first case_map name cs))
  by true rest = are.1
  by false rest = (are.0, rest)

one_more : (chan_types : List ℕ) (c : Joined) (cs : List Joined) → is_channel chan_types c.name ≡ true → AreNamed chan_types cs → AreNamed chan_types (cs ++ c ∷ [])
one_more chan_types c [] named are = (named, tt)
one_more chan_types c (d ∷ cs) named are = (are.0, one_more chan_types c cs named are.1)

-- ---- the changes keep the names

joins_keeps : (prefixes : Prefixes) (nick : List ℕ) → KeepsNames (with_nick prefixes nick)
joins_keeps prefixes nick c = by (comes_in prefixes nick c) where
  by : (t : Bool) → (cond t (record c { seats = c.seats ++ record { nick = nick; modes = record { 0 = 0 } } ∷ [] }) c).name ≡ c.name
  by true = refl
  by false = refl

renamed_keeps : (prefixes : Prefixes) (old new : List ℕ) → KeepsNames (renamed prefixes old new)
renamed_keeps prefixes old new c = by (may_have prefixes old new c) where
  by : (t : Bool) → (cond t (record c { seats = with_name c.case_map old new c.seats }) (without_nick old c)).name ≡ c.name
  by true = refl
  by false = refl

-- ---- each kind of message

welcomed : (s : ServerState) (nick : List ℕ) → HasChannelNames s → HasChannelNames (after_welcome s nick)
welcomed s nick are = by s.is_registered where
  by : (t : Bool) → HasChannelNames (cond t s (record s { nick = own_nick_from s nick; is_registered = true; negotiation = ended s.negotiation }))
  by true = are
  by false = are

taken : (s : ServerState) → HasChannelNames s → HasChannelNames (after_taken s)
taken s are = by (may_try s) where
  by : (t : Bool) → HasChannelNames (cond t (record s { nick = next_nick s; nicks_left = drop 1 s.nicks_left; taken = s.taken + 1 }) s)
  by true = are
  by false = are

told : (channels : List Joined) (s : ServerState) (params : List (List ℕ)) → s.channels ≡ channels → HasChannelNames s → HasChannelNames (told_if_alone channels s params)
told [] s params none are = subst (λ (l : List Joined). AreNamed (after_tokens s.features params).chan_types l) (sym none) tt
told (c ∷ channels) s params some are = are

joins : (s : ServerState) (nick name : List ℕ) → is_channel s.features.chan_types name ≡ true → HasChannelNames s → HasChannelNames (after_join s nick name)
joins s nick name named are = by (is_some (channel_at s name)) (is_own s nick) where
  by : (t u : Bool) → HasChannelNames (cond t (change_one s name (with_nick s.features.prefixes nick)) (cond u (entered s nick name) s))
  by true u = one_changed s.features.chan_types s.features.case_map name (with_nick s.features.prefixes nick) s.channels (joins_keeps s.features.prefixes nick) are
  by false true = one_more s.features.chan_types (with_nick s.features.prefixes nick (new_channel s name)) s.channels (ap (is_channel s.features.chan_types) (joins_keeps s.features.prefixes nick (new_channel s name)) ∙ named) are
  by false false = are

leaves : (s : ServerState) (nick name : List ℕ) → HasChannelNames s → HasChannelNames (after_leave s nick name)
leaves s nick name are = by (is_own s nick) where
  by : (t : Bool) → HasChannelNames (cond t (leave_one s name) (change_one s name (without_nick nick)))
  by true = one_left s.features.chan_types s.features.case_map name s.channels are
  by false = one_changed s.features.chan_types s.features.case_map name (without_nick nick) s.channels (λ c. refl) are

-- a JOIN names a channel
second_true : (t u : Bool) → (t && u) ≡ true → u ≡ true
second_true true u both = both
second_true false u both = absurd (cc)

join_named : (chan_types : List ℕ) (registered : Bool) (m : Message) → kind_of chan_types registered m ≡ Join → is_channel chan_types (param 0 m) ≡ true
unfolding kind_of is_complete
join_named chan_types registered m e = by (is_complete chan_types registered m (kind_named m.command)) refl e where
  by : (t : Bool) → is_complete chan_types registered m (kind_named m.command) ≡ t → cond t (kind_named m.command) Other ≡ Join → is_channel chan_types (param 0 m) ≡ true
  by true full is = second_true (has_params 1 m) (is_channel chan_types (param 0 m)) (sym (ap (is_complete chan_types registered m) is) ∙ full)
  by false full is = absurd (cc)

kind_keeps : (s : ServerState) (m : Message) (kind : MessageKind) → kind_to s m ≡ kind → HasChannelNames s → HasChannelNames (after_kind s m kind)
unfolding after_kind
kind_keeps s m Welcome is are = welcomed s (param 0 m) are
kind_keeps s m Tokens is are = told s.channels s m.params refl are
kind_keeps s m NickInUse is are = taken s are
kind_keeps s m Join is are = joins s m.nick (param 0 m) (join_named s.features.chan_types s.is_registered m (within_join s m (kind_of s.features.chan_types s.is_registered m) is).0) are
kind_keeps s m Part is are = leaves s m.nick (param 0 m) are
kind_keeps s m Quit is are = all_changed s.features.chan_types (without_nick m.nick) s.channels (λ c. refl) are
kind_keeps s m Kick is are = leaves s (param 1 m) (param 0 m) are
kind_keeps s m Nick is are = all_changed s.features.chan_types (renamed s.features.prefixes m.nick (param 0 m)) s.channels (renamed_keeps s.features.prefixes m.nick (param 0 m)) are
kind_keeps s m Mode is are = one_changed s.features.chan_types s.features.case_map (param 0 m) (with_modes_of s m) s.channels (λ c. refl) are
kind_keeps s m Topic is are = are
kind_keeps s m TopicReply is are = are
kind_keeps s m Names is are = one_changed s.features.chan_types s.features.case_map (param 2 m) (with_names (seats_in s m)) s.channels (λ c. refl) are
kind_keeps s m NamesEnd is are = are
kind_keeps s m ModeReply is are = are
kind_keeps s m Privmsg is are = are
kind_keeps s m Notice is are = are
kind_keeps s m Ping is are = are
kind_keeps s m Error is are = are
kind_keeps s m Invite is are = are
kind_keeps s m Other is are = are

-- ---- a server at its start, after any message, and where its link begins or is lost

pub started_kept : (options : OptionsValue) (name : List ℕ) (s : ServerState) → start_of options name ≡ Ok s → AreKept s
unfolding start_of first_state
started_kept options name s made = by (is_tls options name) (address_in options name) made where
  by : (t : Bool) (o : Option Address) → cond t (Err TlsOn) (start_at options name o) ≡ Ok s → AreKept s
  by true o e = absurd (cc)
  by false None e = absurd (cc)
  by false (Some address) e =
      let same : first_state options name address ≡ s = cc in
      subst AreKept same (tt, omega arith)

pub message_kept : (s : ServerState) (m : Message) → AreKept s → AreKept (after_server s m)
message_kept s m kept = (kind_keeps s m (kind_to s m) refl kept.0, kind_few s m (kind_to s m) refl kept.1)

-- what is kept in both cases of an answer
pub kept_by : {A : Type 0} {E : Type 0} (r : Result A E) (new good bad : ServerState) → OnOk r (new ≡ good) → OnErr r (new ≡ bad) → AreKept good → AreKept bad → AreKept new
kept_by (Ok a) new good bad ok err one other = subst AreKept (sym ok) one
kept_by (Err e) new good bad ok err one other = subst AreKept (sym err) other

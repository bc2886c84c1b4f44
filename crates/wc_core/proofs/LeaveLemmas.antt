-- For what the loss of a server is asked for by what it says, or by what is typed for it.
use Rattle.std.proofs.Common.{◌≡◌, ◌⊎◌, inl, inr, ℕ, Bool, true, false, cond, ◌&&◌, List, [], ◌∷◌, ◌++◌, codes, Option, Some, None, refl, sym, subst, ◌∙◌}
use Rattle.std.specs.Prelude.{map, flat_map, length, nat_le, option_map, option_and_then}
use Rattle.wc_text.specs.declared.names.Cause.{Cause}
use Rattle.wc_text.specs.declared.names.Cause.TheVariants as cause
use Rattle.wc_text.specs.declared.names.Handle.{Handle}
use Rattle.wc_text.specs.Splits.{word_of}
use Rattle.wc_buffers.specs.Calls.{EntryGroups, buffer_of, vars_at}
use Rattle.wc_buffers.specs.Groups.{rows}
use Rattle.wc_buffers.specs.declared.row.BufferRow.{BufferRow}
use Rattle.wc_ircmsg.specs.declared.case_map.CaseMap.{CaseMap}
use Rattle.wc_ircmsg.specs.declared.message.Message.{Message}
use Rattle.wc_ircmsg.specs.declared.prefixes.Prefixes.{Prefixes}
use Rattle.wc_ircmsg.specs.Written.{line_of}
use Rattle.wc_irc_texts.specs.Groups.{group_names}
use Rattle.wc_irc_texts.specs.ModeBits.{highest}
use Rattle.wc_irc_texts.specs.Modes.{ModeChange, mode_changes}
use Rattle.wc_irc_texts.specs.Names.{is_channel, is_nick}
use Rattle.wc_irc_texts.specs.Negotiation.{login_step, listed, granted, has_sasl}
use Rattle.wc_irc_texts.specs.Parts.{parts}
use Rattle.wc_irc_texts.specs.Rows.{param, params_from}
use Rattle.wc_irc_texts.specs.Sasl.{login_pieces}
use Rattle.wc_irc_texts.specs.Texts.{in_one_line}
use Rattle.wc_irc_texts.specs.declared.kind.MessageKind.{MessageKind}
use Rattle.wc_irc_texts.specs.declared.kind.MessageKind.TheVariants as kind
use Rattle.wc_irc_texts.specs.declared.login_step.LoginStep.{LoginStep}
use Rattle.wc_irc_texts.specs.declared.login_step.LoginStep.TheVariants as steps
use Rattle.wc_irc_texts.specs.declared.moment.Moment.{Moment}
use Rattle.wc_irc_texts.specs.declared.negotiation.Negotiation.{Negotiation}
use Rattle.wc_irc_texts.specs.declared.seat.Seat.{Seat}
use Rattle.wc_irc_words.specs.Typed.{ServerCommand, asked_of}
use Rattle.wc_irc.specs.declared.act.Act.{Act}
use Rattle.wc_irc.specs.declared.act.Act.TheVariants as act
use Rattle.wc_irc.specs.Autojoin.{message, autojoin_lines}
use Rattle.wc_irc.specs.ChannelActs.{comes, come, join_line, join_on, join_in, own_join, join_acts, gone, leave_as, part_line, part_on, part_acts, kick_line, kick_on, kick_acts, quit_on, quit_as, quit_of, quit_acts}
use Rattle.wc_irc.specs.ChannelStates.{channel_at, may_have}
use Rattle.wc_irc.specs.Channels.{Joined}
use Rattle.wc_irc.specs.CloseActs.{disconnect_acts}
use Rattle.wc_irc.specs.CommandActs.{Place, Errand, Refuses, Sends, Speaks, Notifies, SendsLine, Opens, SendsBoth, SendsEach, place_in, errand_of, if_linked, acts_of_errand, acts_of_line, linked_in, acts_of_typed, acts_of_unlinked}
use Rattle.wc_irc.specs.Dates.{moment_of, dated, dated_acts}
use Rattle.wc_irc.specs.InviteActs.{is_of_another, invite_on}
use Rattle.wc_irc.specs.LongTexts.{room_for, text_to, speech, wrapped, sent_parts, deed_room, long_speech, speech_acts, long_notice, notify_acts}
use Rattle.wc_irc.specs.SentLines.{told_in, refusal, too_long, sent_message, fits_line, line_acts, both_acts, each_acts}
use Rattle.wc_irc.specs.LinkActs.{pass_acts, user_act, first_acts}
use Rattle.wc_irc.specs.LoginActs.{cap_act, end_act, asking_act, failure_act, refusal_act, acts_of_step}
use Rattle.wc_irc.specs.ModeActs.{modes_after, with_change, moved, change_acts, changes_acts, mode_moves, mode_line, mode_on, mode_acts, same_place}
use Rattle.wc_irc.specs.NameActs.{seats_in, placed, placed_all, names_in, names_acts}
use Rattle.wc_irc.specs.NewBuffers.{opened, name_or}
use Rattle.wc_irc.specs.PrivateBuffers.{opens_too_many}
use Rattle.wc_irc.specs.NickActs.{add_group, add_groups, remove_nick, emptied}
use Rattle.wc_irc.specs.OwnSpeech.{own_line, own_talk, hides, shown_text, acts_of_own, own_speech, own_lines, private_lines, own_texts, shown_parts}
use Rattle.wc_irc.specs.RenameActs.{come_again, nick_line, rename_on, rename_as, rename_of, renamed_buffer, rename_private, own_var, own_vars, nick_acts}
use Rattle.wc_irc.specs.ServerActs.{acts_of_kind, kind_to, acts_of_server}
use Rattle.wc_irc.specs.Servers.{ServerState, is_own, own_nick_from, next_nick, may_try}
use Rattle.wc_irc.specs.SpeechActs.{Talk, Says, Does, Requests, talk_of, talk_heard, talk_line, talk_tags, on_private, heard_privately, heard_on, acts_of_talk}
use Rattle.wc_irc.specs.TalkActs.{on_found, other_acts, aimed, sent, differs, told_nick, tell_nick, welcome_line, raised, welcome_acts, notice_line, notice_acts, has_var}
use Rattle.wc_irc.specs.Targets.{server_buffer, found, full_name}
use Rattle.wc_core.specs.ServerSteps.{leave_in}
use Rattle.wc_core.specs.ServerTyped.{acts_in}

-- these acts ask for no loss
abbrev Stays : List Act → Type 0
Stays acts = leave_in acts ≡ None

both : (a b : List Act) → Stays a → Stays b → Stays (a ++ b)
both [] b p q = q
both (act.Open spec ∷ a) b p q = both a b p q
both (act.On name w ∷ a) b p q = both a b p q
both (act.Send line ∷ a) b p q = both a b p q
both (act.Raise signal payload ∷ a) b p q = both a b p q
both (act.Leave why ∷ a) b p q = absurd (cc)

either : (t : Bool) (a b : List Act) → Stays a → Stays b → Stays (cond t a b)
either true a b p q = p
either false a b p q = q

where_found : (o : Option (List ℕ)) (f : List ℕ → List Act) → ((buffer : List ℕ) → Stays (f buffer)) → Stays (on_found o f)
where_found None f p = refl
where_found (Some buffer) f p = p buffer

each : {X : Type 0} (f : X → List Act) (xs : List X) → ((x : X) → Stays (f x)) → Stays (flat_map f xs)
each f [] p = refl
each f (x ∷ xs) p = both (f x) (flat_map f xs) (p x) (each f xs p)

alone : {X : Type 0} (f : X → Act) (xs : List X) → ((x : X) (acts : List Act) → leave_in (f x ∷ acts) ≡ leave_in acts) → Stays (map f xs)
alone f [] p = refl
alone f (x ∷ xs) p = p x (map f xs) ∙ alone f xs p

opening : (there : Option (List ℕ)) (kind : List ℕ) (s : ServerState) (target : List ℕ) → Stays (opened there kind s target)
opening None kind s target = refl
opening (Some buffer) kind s target = refl

-- ---- what a server says

welcomed : (groups : EntryGroups) (s : ServerState) (m : Message) → Stays (welcome_acts groups s m)
welcomed groups s m =
    let nick = own_nick_from s (param 0 m) in
    let more = welcome_line s m ∷ raised (codes "irc_server_connected") s ∷ map (λ line. act.Send line) (autojoin_lines s.autojoin) in
    either s.is_registered (welcome_line s m ∷ []) (tell_nick groups s nick ++ more) refl
    (both (tell_nick groups s nick) more (each (told_nick s nick) (rows groups) (λ buffer. either (differs s nick buffer) _ [] refl refl)) (alone (λ line. act.Send line) (autojoin_lines s.autojoin) (λ line acts. refl)))

joined_on : (s : ServerState) (m : Message) (buffer : List ℕ) → Stays (join_on s m buffer)
joined_on s m buffer = both (come s m buffer) (join_line m buffer ∷ []) (either (comes s m.nick (channel_at s (param 0 m))) _ [] refl refl) refl

joined : (groups : EntryGroups) (s : ServerState) (m : Message) → Stays (join_acts groups s m)
joined groups s m =
    let there = found groups s (param 0 m) in
    let name = name_or there (full_name s.name (param 0 m)) in
    either (is_own s m.nick) (own_join s m there) (on_found there (join_on s m))
    (both (opened there (codes "channel") s (param 0 m)) (join_in s m name) (opening there (codes "channel") s (param 0 m))
    (both (add_groups s.features.prefixes name) (join_on s m name) (alone (add_group name) (group_names s.features.prefixes) (λ group acts. refl)) (joined_on s m name)))
    (where_found there (join_on s m) (joined_on s m))

left_as : (s : ServerState) (nick buffer : List ℕ) (o : Option Joined) → Stays (leave_as s nick buffer o)
left_as s nick buffer None = refl
left_as s nick buffer (Some channel) =
    either (is_own s nick) (emptied buffer channel.seats) (gone buffer _) (alone (λ (seat : Seat). remove_nick buffer seat.nick) channel.seats (λ seat acts. refl)) (left _)
  where
    left : (o : Option Seat) → Stays (gone buffer o)
    left None = refl
    left (Some seat) = refl

parted : (groups : EntryGroups) (s : ServerState) (m : Message) → Stays (part_acts groups s m)
parted groups s m = where_found (found groups s (param 0 m)) (part_on s m) (λ buffer. both (leave_as s m.nick buffer (channel_at s (param 0 m))) (part_line m buffer ∷ []) (left_as s m.nick buffer (channel_at s (param 0 m))) refl)

kicked : (groups : EntryGroups) (s : ServerState) (m : Message) → Stays (kick_acts groups s m)
kicked groups s m = where_found (found groups s (param 0 m)) (kick_on s m) (λ buffer. both (leave_as s (param 1 m) buffer (channel_at s (param 0 m))) (kick_line m buffer ∷ []) (left_as s (param 1 m) buffer (channel_at s (param 0 m))) refl)

quitted : (groups : EntryGroups) (s : ServerState) (m : Message) → Stays (quit_acts groups s m)
quitted groups s m = each (quit_of groups s m) s.channels (λ channel. of channel _) where
  of : (channel : Joined) (o : Option Seat) → Stays (quit_as groups s m channel o)
  of channel None = refl
  of channel (Some seat) = where_found (found groups s channel.name) (quit_on m seat) (λ buffer. refl)

renamed : (groups : EntryGroups) (s : ServerState) (m : Message) → Stays (nick_acts groups s m)
renamed groups s m =
    let there = renamed_buffer groups s m in
    let private = on_found there (rename_private (param 0 m) (full_name s.name (param 0 m))) in
    both (flat_map (rename_of groups s m) s.channels) (private ++ own_vars groups s m) (each (rename_of groups s m) s.channels (λ channel. of channel _))
    (both private (own_vars groups s m) (where_found there (rename_private (param 0 m) (full_name s.name (param 0 m))) (λ buffer. refl))
    (either (is_own s m.nick && is_nick s.features.prefixes (param 0 m)) (flat_map (own_var there (full_name s.name (param 0 m)) s (param 0 m)) (rows groups)) []
    (each (own_var there (full_name s.name (param 0 m)) s (param 0 m)) (rows groups) (λ buffer. either (has_var (codes "server") s.name buffer) _ [] refl refl)) refl))
  where
    of : (channel : Joined) (o : Option Seat) → Stays (rename_as groups s m channel o)
    of channel None = refl
    of channel (Some seat) = where_found (found groups s channel.name) (rename_on s m channel seat) (λ buffer. both (come_again s m channel seat buffer) (nick_line m buffer ∷ []) (either (may_have s.features.prefixes m.nick (param 0 m) channel) _ [] refl refl) refl)

moves : (prefixes : Prefixes) (buffer : List ℕ) (seat : Seat) (place : Option ℕ) → Stays (moved prefixes buffer seat place)
moves prefixes buffer seat place = either (same_place (highest seat.modes.0) place) [] _ refl refl

changes : (prefixes : Prefixes) (buffer : List ℕ) (case_map : CaseMap) (list : List ModeChange) (seats : List Seat) → Stays (changes_acts prefixes buffer case_map list seats)
changes prefixes buffer case_map [] seats = refl
changes prefixes buffer case_map (change ∷ list) seats =
    both (change_acts prefixes buffer change _) (changes_acts prefixes buffer case_map list (with_change prefixes case_map change seats)) (one _) (changes prefixes buffer case_map list (with_change prefixes case_map change seats))
  where
    one : (o : Option Seat) → Stays (change_acts prefixes buffer change o)
    one None = refl
    one (Some seat) = moves prefixes buffer seat (highest (modes_after prefixes change seat.modes).0)

moded : (groups : EntryGroups) (s : ServerState) (m : Message) → Stays (mode_acts groups s m)
moded groups s m = where_found (found groups s (param 0 m)) (mode_on s m) (λ buffer. both (mode_moves s m buffer (channel_at s (param 0 m))) (mode_line m buffer ∷ []) (of buffer (channel_at s (param 0 m))) refl) where
  of : (buffer : List ℕ) (o : Option Joined) → Stays (mode_moves s m buffer o)
  of buffer None = refl
  of buffer (Some channel) = changes s.features.prefixes buffer channel.case_map (mode_changes s.features (params_from 1 m)) channel.seats

places : (prefixes : Prefixes) (buffer : List ℕ) (case_map : CaseMap) (list seats : List Seat) → Stays (placed_all prefixes buffer case_map list seats)
places prefixes buffer case_map [] seats = refl
places prefixes buffer case_map (listed ∷ list) seats =
    both (placed prefixes buffer listed _) (placed_all prefixes buffer case_map list _) (one _) (places prefixes buffer case_map list _)
  where
    one : (o : Option Seat) → Stays (placed prefixes buffer listed o)
    one None = refl
    one (Some seat) = moves prefixes buffer seat (highest listed.modes.0)

named : (groups : EntryGroups) (s : ServerState) (m : Message) → Stays (names_acts groups s m)
named groups s m = where_found (found groups s (param 2 m)) _ (λ buffer. of buffer (channel_at s (param 2 m))) where
  of : (buffer : List ℕ) (o : Option Joined) → Stays (names_in s m buffer o)
  of buffer None = refl
  of buffer (Some channel) = places s.features.prefixes buffer channel.case_map (seats_in s m) channel.seats

talked : (groups : EntryGroups) (s : ServerState) (target nick : List ℕ) (does : Bool) (text : List ℕ) (tags : List (List ℕ)) (said : List ℕ) → Stays (heard_on groups s target nick (talk_line s said nick does text tags))
talked groups s target nick does text tags said =
    let line = talk_line s said nick does text tags in
    let there = found groups s nick in
    let heard = found groups s (aimed s target) in
    either (is_channel s.features.chan_types (aimed s target)) (on_found heard (λ buffer. line buffer ∷ [])) (heard_privately groups s nick line there) (where_found heard (λ buffer. line buffer ∷ []) (λ buffer. one does buffer))
    (either (opens_too_many groups s there) (line (server_buffer s.name) ∷ []) (on_private s nick line there) (one does (server_buffer s.name))
    (both (opened there (codes "private") s nick) (line (name_or there (full_name s.name nick)) ∷ []) (opening there (codes "private") s nick) (one does (name_or there (full_name s.name nick)))))
  where
    one : (does : Bool) (buffer : List ℕ) → Stays (talk_line s said nick does text tags buffer ∷ [])
    one true buffer = refl
    one false buffer = refl

spoken : (groups : EntryGroups) (s : ServerState) (m : Message) (talk : Talk) → Stays (acts_of_talk groups s m talk)
spoken groups s m (Says text) = talked groups s (param 0 m) m.nick false text (talk_tags s m false) (param 0 m)
spoken groups s m (Does deed) = talked groups s (param 0 m) m.nick true deed (talk_tags s m true) (param 0 m)
spoken groups s m (Requests word) = refl

noticed : (groups : EntryGroups) (s : ServerState) (m : Message) → Stays (notice_acts groups s m)
noticed groups s m =
    let heard = found groups s (aimed s (param 0 m)) in
    either (is_channel s.features.chan_types (aimed s (param 0 m))) (on_found heard (λ buffer. notice_line m buffer ∷ [])) _ (where_found heard (λ buffer. notice_line m buffer ∷ []) (λ buffer. refl)) refl

-- what a server says asks for its loss where its nicks are taken or it lets none in, and else not
abbrev pub MayLeave : Cause → Option Cause → Type 0
MayLeave why o = (o ≡ None) ⊎ (o ≡ Some why)

-- what is said as it logs in does so where it lets none in

asking : (names : List (List ℕ)) → Stays (asking_act names ∷ [])
asking [] = refl
asking (name ∷ names) = refl

failing : (strict : Bool) → MayLeave cause.NickTaken (leave_in (cond strict (act.Leave cause.NickTaken) end_act ∷ []))
failing true = inr refl
failing false = inl refl

refused : (n : Negotiation) → MayLeave cause.NickTaken (leave_in (refusal_act n ∷ []))
refused n = by (has_sasl n.offered) where
  by : (t : Bool) → MayLeave cause.NickTaken (leave_in (cond t (failure_act n) end_act ∷ []))
  by true = failing n.is_strict
  by false = inl refl

granting : (sasl : Bool) → Stays (cond sasl (sent (codes "AUTHENTICATE") (codes "PLAIN")) end_act ∷ [])
granting true = refl
granting false = refl

step-leaves : (s : ServerState) (m : Message) (step : LoginStep) → MayLeave cause.NickTaken (leave_in (acts_of_step s m step))
unfolding acts_of_step
step-leaves s m steps.Foreign = inl refl
step-leaves s m steps.Nothing = inl refl
step-leaves s m steps.Lists = inl refl
step-leaves s m steps.EndsList = inl (asking (listed s.negotiation m))
step-leaves s m steps.Grants = inl (granting (has_sasl (granted s.negotiation m)))
step-leaves s m steps.Refuses = refused s.negotiation
step-leaves s m steps.TakesAway = inl refl
step-leaves s m steps.AsksProof = inl (alone (sent (codes "AUTHENTICATE")) (login_pieces s.negotiation.user s.negotiation.password) (λ piece acts. refl))
step-leaves s m steps.Admits = inl refl
step-leaves s m steps.Rejects = failing s.negotiation.is_strict

kind-leaves : (groups : EntryGroups) (s : ServerState) (m : Message) (k : MessageKind) → MayLeave cause.NickTaken (leave_in (acts_of_kind groups s m k))
unfolding acts_of_kind
kind-leaves groups s m kind.Welcome = inl (welcomed groups s m)
kind-leaves groups s m kind.Tokens = inl refl
kind-leaves groups s m kind.NickInUse = by (may_try s) where
  by : (t : Bool) → MayLeave cause.NickTaken (leave_in (cond t (sent (codes "NICK") (next_nick s) ∷ []) (act.Leave cause.NickTaken ∷ [])))
  by true = inl refl
  by false = inr refl
kind-leaves groups s m kind.Join = inl (joined groups s m)
kind-leaves groups s m kind.Part = inl (parted groups s m)
kind-leaves groups s m kind.Quit = inl (quitted groups s m)
kind-leaves groups s m kind.Kick = inl (kicked groups s m)
kind-leaves groups s m kind.Nick = inl (renamed groups s m)
kind-leaves groups s m kind.Mode = inl (moded groups s m)
kind-leaves groups s m kind.Topic = inl (where_found (found groups s (param 0 m)) _ (λ buffer. refl))
kind-leaves groups s m kind.TopicReply = inl (where_found (found groups s (param 1 m)) _ (λ buffer. refl))
kind-leaves groups s m kind.Names = inl (named groups s m)
kind-leaves groups s m kind.NamesEnd = inl (where_found (found groups s (param 1 m)) _ (λ buffer. refl))
kind-leaves groups s m kind.ModeReply = inl (where_found (found groups s (param 1 m)) _ (λ buffer. refl))
kind-leaves groups s m kind.Privmsg = inl (spoken groups s m (talk_heard m))
kind-leaves groups s m kind.Notice = inl (noticed groups s m)
kind-leaves groups s m kind.Ping = inl refl
kind-leaves groups s m kind.Error = inl refl
kind-leaves groups s m kind.Invite = inl (either (is_of_another s m) (on_found (found groups s (param 1 m)) (invite_on m)) (other_acts s m) (where_found (found groups s (param 1 m)) (invite_on m) (λ buffer. refl)) refl)
kind-leaves groups s m kind.Other = step-leaves s m (login_step s.negotiation m)

-- dates change nothing of it
dated-leaves : (moment : Moment) (acts : List Act) → leave_in (map (dated moment) acts) ≡ leave_in acts
dated-leaves moment [] = refl
dated-leaves moment (act.Open spec ∷ acts) = dated-leaves moment acts
dated-leaves moment (act.On full_name change ∷ acts) = dated-leaves moment acts
dated-leaves moment (act.Send line ∷ acts) = dated-leaves moment acts
dated-leaves moment (act.Raise signal payload ∷ acts) = dated-leaves moment acts
dated-leaves moment (act.Leave why ∷ acts) = refl

all-dated-leave : (moment : Option Moment) (acts : List Act) → leave_in (dated_acts moment acts) ≡ leave_in acts
all-dated-leave None acts = refl
all-dated-leave (Some moment) acts = dated-leaves moment acts

pub server-leaves : (groups : EntryGroups) (s : ServerState) (m : Message) → MayLeave cause.NickTaken (leave_in (acts_of_server groups s m))
server-leaves groups s m =
    let acts = acts_of_kind groups s m (kind_to s m) in
    subst (MayLeave cause.NickTaken) (sym (all-dated-leave (moment_of s m) acts)) (kind-leaves groups s m (kind_to s m))

-- as its link stands it doesn't
pub first-leaves : (s : ServerState) → leave_in (first_acts s) ≡ None
first-leaves s = by s.negotiation.is_used s.password where
  by : (used : Bool) (password : List ℕ) → Stays (cond used (cap_act (codes "LS") (codes "302") ∷ []) [] ++ pass_acts password ++ sent (codes "NICK") s.nick ∷ user_act s ∷ [])
  by true [] = refl
  by true (b ∷ password) = refl
  by false [] = refl
  by false (b ∷ password) = refl

-- ---- what is typed

pub disconnect-leaves : (s : ServerState) → leave_in (disconnect_acts s) ≡ Some cause.Disconnected
disconnect-leaves s = by s.is_connected where
  by : (t : Bool) → leave_in (cond t (sent_message (message (codes "QUIT") []) ∷ []) [] ++ act.Leave cause.Disconnected ∷ []) ≡ Some cause.Disconnected
  by true = refl
  by false = refl

refuses : (groups : EntryGroups) (text : List ℕ) → Stays (refusal groups text)
refuses groups text = by (buffer_of (record { 0 = 1 }) groups) where
  by : (o : Option BufferRow) → Stays (told_in o text)
  by None = refl
  by (Some row) = refl

linked-stays : (groups : EntryGroups) (link : Option ServerState) (acts : ServerState → List Act) → ((s : ServerState) → Stays (acts s)) → Stays (if_linked groups link acts)
linked-stays groups None acts p = refuses groups (codes "irc: not connected")
linked-stays groups (Some s) acts p = p s

own_stays : (groups : EntryGroups) (s : ServerState) (target : List ℕ) (does : Bool) (text : List ℕ) → Stays (own_talk groups s target does text)
own_stays groups s target does text =
    let line = own_line s target does text in
    let there = found groups s target in
    let heard = found groups s (aimed s target) in
    either (is_channel s.features.chan_types (aimed s target)) (on_found heard (λ buffer. line buffer ∷ [])) (on_private s target line there) (where_found heard (λ buffer. line buffer ∷ []) (λ buffer. one does buffer))
    (both (opened there (codes "private") s target) (line (name_or there (full_name s.name target)) ∷ []) (opening there (codes "private") s target) (one does (name_or there (full_name s.name target))))
  where
    one : (does : Bool) (buffer : List ℕ) → Stays (own_line s target does text buffer ∷ [])
    one true buffer = refl
    one false buffer = refl

owns : (groups : EntryGroups) (s : ServerState) (target : List ℕ) (talk : Talk) → Stays (acts_of_own groups s target talk)
owns groups s target (Says text) = own_stays groups s target false (shown_text target text)
owns groups s target (Does deed) = own_stays groups s target true deed
owns groups s target (Requests word) = refl

-- ---- the parts of a text

own_line-stays : (s : ServerState) (target : List ℕ) (does : Bool) (text buffer : List ℕ) (acts : List Act) → leave_in (own_line s target does text buffer ∷ acts) ≡ leave_in acts
own_line-stays s target true text buffer acts = refl
own_line-stays s target false text buffer acts = refl

own_lines-stay : (s : ServerState) (target : List ℕ) (does : Bool) (texts : List (List ℕ)) (buffer : List ℕ) → Stays (own_lines s target does texts buffer)
own_lines-stay s target does texts buffer = alone (λ text. own_line s target does text buffer) texts (λ text acts. own_line-stays s target does text buffer acts)

texts-stay : (groups : EntryGroups) (s : ServerState) (target : List ℕ) (does : Bool) (texts : List (List ℕ)) → Stays (own_texts groups s target does texts)
texts-stay groups s target does texts =
    let there = found groups s target in
    let heard = found groups s (aimed s target) in
    let name = name_or there (full_name s.name target) in
    either (is_channel s.features.chan_types (aimed s target)) (on_found heard (own_lines s target does texts)) (private_lines s target does texts there)
    (where_found heard (own_lines s target does texts) (λ buffer. own_lines-stay s target does texts buffer))
    (both (opened there (codes "private") s target) (own_lines s target does texts name) (opening there (codes "private") s target) (own_lines-stay s target does texts name))

shown-stay : (groups : EntryGroups) (s : ServerState) (target text : List ℕ) (texts : List (List ℕ)) → Stays (shown_parts groups s target text texts)
shown-stay groups s target text texts =
    either (hides target text) (own_talk groups s target false (shown_text target text)) (own_texts groups s target false texts) (own_stays groups s target false (shown_text target text)) (texts-stay groups s target false texts)

parts-stay : (command target : List ℕ) (does : Bool) (texts : List (List ℕ)) → Stays (sent_parts command target does texts)
parts-stay command target does texts = alone (λ text. sent_message (text_to command target (wrapped does text))) texts (λ text acts. refl)

long-stays : (groups : EntryGroups) (s : ServerState) (target : List ℕ) (room : ℕ) (talk : Talk) → Stays (long_speech groups s target room talk)
long-stays groups s target room (Says text) =
    let texts = parts room text in
    let said = sent_parts (codes "PRIVMSG") target false texts in
    let shown = shown_parts groups s target text texts in
    either (nat_le 4 room) (said ++ shown) (too_long groups (codes "PRIVMSG")) (both said shown (parts-stay (codes "PRIVMSG") target false texts) (shown-stay groups s target text texts)) (refuses groups _)
long-stays groups s target room (Does deed) =
    let left = deed_room room in
    let texts = parts left deed in
    let said = sent_parts (codes "PRIVMSG") target true texts in
    let shown = own_texts groups s target true texts in
    either (nat_le 4 left) (said ++ shown) (too_long groups (codes "PRIVMSG")) (both said shown (parts-stay (codes "PRIVMSG") target true texts) (texts-stay groups s target true texts)) (refuses groups _)
long-stays groups s target room (Requests word) = refuses groups _

speech-stays : (groups : EntryGroups) (s : ServerState) (target text : List ℕ) → Stays (speech_acts groups s target text)
speech-stays groups s target text =
    let room = room_for s (codes "PRIVMSG") target in
    either (nat_le (length text) room) (sent_message (speech target text) ∷ own_speech groups s target text) (long_speech groups s target room (talk_of text)) (owns groups s target (talk_of text)) (long-stays groups s target room (talk_of text))

notify-stays : (groups : EntryGroups) (s : ServerState) (target text : List ℕ) → Stays (notify_acts groups s target text)
notify-stays groups s target text =
    let room = room_for s (codes "NOTICE") target in
    let texts = parts room text in
    either (nat_le (length text) room) (sent_message (text_to (codes "NOTICE") target text) ∷ []) (long_notice groups target room text) refl
    (either (nat_le 4 room) (sent_parts (codes "NOTICE") target false texts) (too_long groups (codes "NOTICE")) (parts-stay (codes "NOTICE") target false texts) (refuses groups _))

-- ---- lines

sent-stays : (groups : EntryGroups) (line : List ℕ) → Stays (line_acts groups line)
sent-stays groups line = either (fits_line line) (act.Send line ∷ []) (too_long groups (word_of line)) refl (refuses groups _)

both-stay : (groups : EntryGroups) (first second : List ℕ) → Stays (both_acts groups first second)
both-stay groups first second =
    by (fits_line first) (fits_line second)
  where
    by : (t u : Bool) → Stays (cond t (cond u (act.Send first ∷ act.Send second ∷ []) (too_long groups (word_of second))) (too_long groups (word_of first)))
    by true true = refl
    by true false = refuses groups _
    by false u = refuses groups _

errand-stays : (groups : EntryGroups) (link : Option ServerState) (errand : Errand) → Stays (acts_of_errand groups link errand)
unfolding acts_of_errand
errand-stays groups link (Refuses text) = refuses groups text
errand-stays groups link (Sends m) = linked-stays groups link (λ s. line_acts groups (line_of m)) (λ s. sent-stays groups (line_of m))
errand-stays groups link (Speaks target text) = linked-stays groups link (λ s. speech_acts groups s target text) (λ s. speech-stays groups s target text)
errand-stays groups link (Notifies target text) = linked-stays groups link (λ s. notify_acts groups s target text) (λ s. notify-stays groups s target text)
errand-stays groups link (SendsLine line) = linked-stays groups link (λ s. line_acts groups line) (λ s. sent-stays groups line)
errand-stays groups link (SendsBoth m n) = linked-stays groups link (λ s. both_acts groups (line_of m) (line_of n)) (λ s. both-stay groups (line_of m) (line_of n))
errand-stays groups link (SendsEach ms) = linked-stays groups link (λ s. each_acts groups ms) (λ s. each (λ m. line_acts groups (line_of m)) ms (λ m. sent-stays groups (line_of m)))
errand-stays groups link (Opens nick) = linked-stays groups link (λ s. opened (found groups s nick) (codes "private") s nick) (λ s. opening (found groups s nick) (codes "private") s nick)

line-stays : (groups : EntryGroups) (link : Option ServerState) (place : Place) (line : List ℕ) → Stays (acts_in (acts_of_line groups link place line))
line-stays groups link place line = by (asked_of line) where
  of : (o : Option Errand) → Stays (acts_in (option_map (acts_of_errand groups link) o))
  of None = refl
  of (Some errand) = errand-stays groups link errand

  by : (o : Option ServerCommand) → Stays (acts_in (option_and_then (λ command. option_map (acts_of_errand groups link) (errand_of link place command)) o))
  by None = refl
  by (Some command) = of (errand_of link place command)

pub typed-leaves : (groups : EntryGroups) (s : ServerState) (buffer : Handle) (text : List ℕ) → leave_in (acts_in (acts_of_typed groups s buffer text)) ≡ None
unfolding acts_of_typed
typed-leaves groups s buffer text = line-stays groups (linked_in s (vars_at buffer groups)) (place_in (vars_at buffer groups)) (in_one_line text)

pub unlinked-leaves : (groups : EntryGroups) (buffer : Handle) (text : List ℕ) → leave_in (acts_in (acts_of_unlinked groups buffer text)) ≡ None
unfolding acts_of_unlinked
unlinked-leaves groups buffer text = line-stays groups None (place_in (vars_at buffer groups)) (in_one_line text)

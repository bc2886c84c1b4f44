-- What follows of the messages of servers is mild.
use Rattle.std.proofs.Common.{ℕ, Bool, true, false, cond, ◌&&◌, List, [], ◌∷◌, ◌++◌, map, Option, Some, None, refl}
use Rattle.std.specs.Prelude.{codes}
use Rattle.std.specs.List.{flat_map}
use Rattle.wc_buffers.specs.declared.row.BufferEntry.{BufferEntry}
use Rattle.wc_buffers.specs.Calls.{EntryGroups}
use Rattle.wc_buffers.specs.Groups.{rows}
use Rattle.wc_text.specs.declared.names.Cause.TheVariants as cause
use Rattle.wc_ircmsg.specs.declared.case_map.CaseMap.{CaseMap}
use Rattle.wc_ircmsg.specs.declared.message.Message.{Message}
use Rattle.wc_ircmsg.specs.declared.prefixes.Prefixes.{Prefixes}
use Rattle.wc_model.specs.declared.change.What.{What}
use Rattle.wc_model.specs.declared.change.What.TheVariants as what
use Rattle.wc_irc.specs.declared.act.Act.{Act}
use Rattle.wc_irc.specs.declared.act.Act.TheVariants as act
use Rattle.wc_irc.specs.Autojoin.{autojoin_lines}
use Rattle.wc_irc.specs.Channels.{Joined}
use Rattle.wc_irc.specs.ChannelActs.{comes, come, join_line, join_on, join_in, own_join, join_acts, gone, leave_as, part_line, part_on, part_acts, kick_line, kick_on, kick_acts, quit_on, quit_as, quit_of, quit_acts}
use Rattle.wc_irc.specs.ChannelStates.{channel_at, may_have}
use Rattle.wc_irc.specs.Lines.{printed, full_tags}
use Rattle.wc_irc.specs.LoginActs.{end_act, asking_act, failure_act, refusal_act, acts_of_step}
use Rattle.wc_irc.specs.ModeActs.{same_place, moved, modes_after, change_acts, with_change, changes_acts, mode_moves, mode_line, mode_on, mode_acts}
use Rattle.wc_irc.specs.Dates.{moment_of, dated, dated_what, dated_acts}
use Rattle.wc_irc.specs.InviteActs.{is_of_another, invite_on}
use Rattle.wc_irc.specs.NameActs.{placed, placed_all, seats_in, names_in, names_on, names_acts}
use Rattle.wc_irc.specs.NewBuffers.{opened, name_or}
use Rattle.wc_irc.specs.PrivateBuffers.{opens_too_many}
use Rattle.wc_irc.specs.NickActs.{add_group, add_groups, add_nick, remove_nick, emptied}
use Rattle.wc_irc.specs.RenameActs.{come_again, nick_line, rename_on, rename_as, rename_of, renamed_buffer, rename_private, own_var, own_vars, nick_acts}
use Rattle.wc_irc.specs.Servers.{ServerState, is_own, own_nick_from, may_try, next_nick}
use Rattle.wc_irc.specs.ServerActs.{acts_of_kind, acts_of_server, kind_to}
use Rattle.wc_irc.specs.SpeechActs.{Talk, Says, Does, Requests, talk_heard, talk_line, talk_tags, on_private, on_target, heard_privately, heard_on, acts_of_talk, privmsg_acts}
use Rattle.wc_irc.specs.TalkActs.{on_found, aimed, sent, other_acts, taken_acts, has_var, differs, told_nick, tell_nick, welcome_line, raised, welcome_acts, notice_line, notice_acts}
use Rattle.wc_irc.specs.Targets.{found, full_name, server_buffer}
use Rattle.wc_irc.specs.TitleActs.{topic_on, topic_reply_on, names_end_on, mode_reply_on}
use Rattle.wc_irc_nicks.specs.Seats.{seat_of}
use Rattle.wc_irc_texts.specs.declared.kind.MessageKind.{MessageKind}
use Rattle.wc_irc_texts.specs.declared.kind.MessageKind.TheVariants as kind
use Rattle.wc_irc_texts.specs.declared.login_step.LoginStep.{LoginStep}
use Rattle.wc_irc_texts.specs.declared.login_step.LoginStep.TheVariants as steps
use Rattle.wc_irc_texts.specs.declared.moment.Moment.{Moment}
use Rattle.wc_irc_texts.specs.declared.negotiation.Negotiation.{Negotiation}
use Rattle.wc_irc_texts.specs.declared.seat.Seat.{Seat}
use Rattle.wc_irc_texts.specs.Groups.{group_names}
use Rattle.wc_irc_texts.specs.ModeBits.{highest}
use Rattle.wc_irc_texts.specs.Modes.{ModeChange, mode_changes}
use Rattle.wc_irc_texts.specs.Names.{is_channel, is_nick}
use Rattle.wc_irc_texts.specs.Negotiation.{login_step, listed, granted, has_sasl}
use Rattle.wc_irc_texts.specs.Rows.{param, params_from, last_param}
use Rattle.wc_irc_texts.specs.Sasl.{login_pieces}
use Rattle.wc_irc_texts.specs.Speech.{calls_nick}
use Rattle.wc_irc_texts.specs.Texts.{plain}
use Rattle.wc_mirror_laws.proofs.MildLemmas.{IsMild, IsMildAct, AreMild, mild_said, mild_both, mild_if, mild_map, mild_each, mild_found}

-- ---- lines and buffers

mild_line : (buffer : List ℕ) (tags : List (List ℕ)) (prefix text : List ℕ) → AreMild (printed buffer tags prefix text ∷ [])
mild_line buffer tags prefix text = (mild_said buffer tags prefix text false, tt)

pub mild_opened : (there : Option (List ℕ)) (sort : List ℕ) (s : ServerState) (target : List ℕ) → AreMild (opened there sort s target)
mild_opened None sort s target = (tt, tt)
mild_opened (Some buffer) sort s target = tt

mild_emptied : (buffer : List ℕ) (seats : List Seat) → AreMild (emptied buffer seats)
mild_emptied buffer seats = mild_map (λ (seat : Seat). remove_nick buffer seat.nick) seats (λ seat. tt)

-- ---- who comes and who goes

mild_come : (s : ServerState) (m : Message) (buffer : List ℕ) → AreMild (come s m buffer)
mild_come s m buffer = mild_if (comes s m.nick (channel_at s (param 0 m))) (add_nick s.features.prefixes buffer m.nick None ∷ []) [] (tt, tt) tt

mild_join_on : (s : ServerState) (m : Message) (buffer : List ℕ) → AreMild (join_on s m buffer)
mild_join_on s m buffer = mild_both (come s m buffer) (join_line m buffer ∷ []) (mild_come s m buffer) (mild_said buffer (full_tags (codes "irc_join") m) _ _ false, tt)

mild_join_in : (s : ServerState) (m : Message) (buffer : List ℕ) → AreMild (join_in s m buffer)
mild_join_in s m buffer =
    mild_both (add_groups s.features.prefixes buffer) (join_on s m buffer) (mild_map (add_group buffer) (group_names s.features.prefixes) (λ name. tt)) (mild_join_on s m buffer)

mild_join : (groups : EntryGroups) (s : ServerState) (m : Message) → AreMild (join_acts groups s m)
mild_join groups s m =
    let there = found groups s (param 0 m) in
    let name = name_or there (full_name s.name (param 0 m)) in
    mild_if (is_own s m.nick) (own_join s m there) _ (mild_both (opened there (codes "channel") s (param 0 m)) (join_in s m name) (mild_opened there (codes "channel") s (param 0 m)) (mild_join_in s m name))
    (mild_found there (join_on s m) (λ buffer. mild_join_on s m buffer))

mild_gone : (buffer : List ℕ) (seat : Option Seat) → AreMild (gone buffer seat)
mild_gone buffer None = tt
mild_gone buffer (Some seat) = (tt, tt)

mild_leave : (s : ServerState) (nick buffer : List ℕ) (channel : Option Joined) → AreMild (leave_as s nick buffer channel)
mild_leave s nick buffer None = tt
mild_leave s nick buffer (Some channel) =
    mild_if (is_own s nick) (emptied buffer channel.seats) (gone buffer (seat_of channel.case_map nick channel.seats)) (mild_emptied buffer channel.seats) (mild_gone buffer (seat_of channel.case_map nick channel.seats))

mild_part : (groups : EntryGroups) (s : ServerState) (m : Message) → AreMild (part_acts groups s m)
mild_part groups s m =
    mild_found (found groups s (param 0 m)) (part_on s m)
    (λ buffer. mild_both (leave_as s m.nick buffer (channel_at s (param 0 m))) (part_line m buffer ∷ []) (mild_leave s m.nick buffer (channel_at s (param 0 m))) (mild_line buffer _ _ _))

mild_kick : (groups : EntryGroups) (s : ServerState) (m : Message) → AreMild (kick_acts groups s m)
mild_kick groups s m =
    mild_found (found groups s (param 0 m)) (kick_on s m)
    (λ buffer. mild_both (leave_as s (param 1 m) buffer (channel_at s (param 0 m))) (kick_line m buffer ∷ []) (mild_leave s (param 1 m) buffer (channel_at s (param 0 m))) (mild_line buffer _ _ _))

mild_quit : (groups : EntryGroups) (s : ServerState) (m : Message) → AreMild (quit_acts groups s m)
mild_quit groups s m = mild_each (quit_of groups s m) s.channels (λ channel. by channel (seat_of channel.case_map m.nick channel.seats)) where
  by : (channel : Joined) (seat : Option Seat) → AreMild (quit_as groups s m channel seat)
  by channel None = tt
  by channel (Some seat) = mild_found (found groups s channel.name) (quit_on m seat) (λ buffer. (tt, mild_line buffer _ _ _))

-- ---- nicks

mild_rename : (groups : EntryGroups) (s : ServerState) (m : Message) (channel : Joined) → AreMild (rename_of groups s m channel)
mild_rename groups s m channel = by (seat_of channel.case_map m.nick channel.seats) where
  by : (seat : Option Seat) → AreMild (rename_as groups s m channel seat)
  by None = tt
  by (Some seat) = mild_found (found groups s channel.name) (rename_on s m channel seat) (λ buffer. (
    tt,
    mild_both (come_again s m channel seat buffer) (nick_line m buffer ∷ [])
        (mild_if (may_have s.features.prefixes m.nick (param 0 m) channel) (add_nick s.features.prefixes buffer (param 0 m) (highest seat.modes.0) ∷ []) [] (tt, tt) tt) (mild_line buffer _ _ _),
  ))

mild_own_var : (renamed : Option (List ℕ)) (new : List ℕ) (s : ServerState) (nick : List ℕ) (buffer : BufferEntry) → AreMild (own_var renamed new s nick buffer)
mild_own_var renamed new s nick buffer = mild_if (has_var (codes "server") s.name buffer) _ [] (tt, tt) tt

mild_nick : (groups : EntryGroups) (s : ServerState) (m : Message) → AreMild (nick_acts groups s m)
mild_nick groups s m =
    let new = full_name s.name (param 0 m) in
    let renamed = renamed_buffer groups s m in
    mild_both (flat_map (rename_of groups s m) s.channels) _ (mild_each (rename_of groups s m) s.channels (λ channel. mild_rename groups s m channel))
    (mild_both _ (own_vars groups s m) (mild_found renamed (rename_private (param 0 m) new) (λ old. (tt, (tt, (tt, tt)))))
    (mild_if (is_own s m.nick && is_nick s.features.prefixes (param 0 m)) _ [] (mild_each (own_var renamed new s (param 0 m)) (rows groups) (λ buffer. mild_own_var renamed new s (param 0 m) buffer)) tt))

-- ---- modes and lists of names

mild_moved : (prefixes : Prefixes) (buffer : List ℕ) (seat : Seat) (place : Option ℕ) → AreMild (moved prefixes buffer seat place)
mild_moved prefixes buffer seat place = mild_if (same_place (highest seat.modes.0) place) [] (remove_nick buffer seat.nick ∷ add_nick prefixes buffer seat.nick place ∷ []) tt (tt, (tt, tt))

mild_change : (prefixes : Prefixes) (buffer : List ℕ) (change : ModeChange) (seat : Option Seat) → AreMild (change_acts prefixes buffer change seat)
mild_change prefixes buffer change None = tt
mild_change prefixes buffer change (Some seat) = mild_moved prefixes buffer seat (highest (modes_after prefixes change seat.modes).0)

mild_changes : (prefixes : Prefixes) (buffer : List ℕ) (case_map : CaseMap) (changes : List ModeChange) (seats : List Seat) → AreMild (changes_acts prefixes buffer case_map changes seats)
mild_changes prefixes buffer case_map [] seats = tt
mild_changes prefixes buffer case_map (change ∷ changes) seats =
    let next = with_change prefixes case_map change seats in
    let seat = seat_of case_map change.nick seats in
    mild_both (change_acts prefixes buffer change seat) (changes_acts prefixes buffer case_map changes next) (mild_change prefixes buffer change seat) (mild_changes prefixes buffer case_map changes next)

mild_mode : (groups : EntryGroups) (s : ServerState) (m : Message) → AreMild (mode_acts groups s m)
mild_mode groups s m = mild_found (found groups s (param 0 m)) (mode_on s m) (λ buffer. mild_both (mode_moves s m buffer (channel_at s (param 0 m))) (mode_line m buffer ∷ []) (by buffer (channel_at s (param 0 m))) (mild_line buffer _ _ _))
  where
    by : (buffer : List ℕ) (channel : Option Joined) → AreMild (mode_moves s m buffer channel)
    by buffer None = tt
    by buffer (Some channel) = mild_changes s.features.prefixes buffer channel.case_map (mode_changes s.features (params_from 1 m)) channel.seats

mild_placed : (prefixes : Prefixes) (buffer : List ℕ) (listed : Seat) (seat : Option Seat) → AreMild (placed prefixes buffer listed seat)
mild_placed prefixes buffer listed None = (tt, tt)
mild_placed prefixes buffer listed (Some seat) = mild_moved prefixes buffer seat (highest listed.modes.0)

mild_placed_all : (prefixes : Prefixes) (buffer : List ℕ) (case_map : CaseMap) (names seats : List Seat) → AreMild (placed_all prefixes buffer case_map names seats)
mild_placed_all prefixes buffer case_map [] seats = tt
mild_placed_all prefixes buffer case_map (listed ∷ others) seats =
    mild_both (placed prefixes buffer listed (seat_of case_map listed.nick seats)) _ (mild_placed prefixes buffer listed (seat_of case_map listed.nick seats)) (mild_placed_all prefixes buffer case_map others _)

mild_names : (groups : EntryGroups) (s : ServerState) (m : Message) → AreMild (names_acts groups s m)
mild_names groups s m = mild_found (found groups s (param 2 m)) (names_on s m) (λ buffer. by buffer (channel_at s (param 2 m))) where
  by : (buffer : List ℕ) (channel : Option Joined) → AreMild (names_in s m buffer channel)
  by buffer None = tt
  by buffer (Some channel) = mild_placed_all s.features.prefixes buffer channel.case_map (seats_in s m) channel.seats

-- ---- what is said

pub mild_talk_line : (s : ServerState) (target nick : List ℕ) (does : Bool) (text : List ℕ) (tags : List (List ℕ)) (buffer : List ℕ) → IsMildAct (talk_line s target nick does text tags buffer)
mild_talk_line s target nick true text tags buffer = mild_said buffer tags _ _ (calls_nick s.nick (plain text))
mild_talk_line s target nick false text tags buffer = mild_said buffer tags _ _ (calls_nick s.nick (plain text))

mild_private : (s : ServerState) (nick : List ℕ) (line : List ℕ → Act) (there : Option (List ℕ)) → ((buffer : List ℕ) → IsMildAct (line buffer)) → AreMild (on_private s nick line there)
mild_private s nick line there each = mild_both (opened there (codes "private") s nick) (line (name_or there (full_name s.name nick)) ∷ []) (mild_opened there (codes "private") s nick) (each _, tt)

mild_target : (groups : EntryGroups) (s : ServerState) (target nick : List ℕ) (line : List ℕ → Act) → ((buffer : List ℕ) → IsMildAct (line buffer)) → AreMild (on_target groups s target nick line)
mild_target groups s target nick line each =
    mild_if (is_channel s.features.chan_types (aimed s target)) _ (on_private s nick line (found groups s nick)) (mild_found (found groups s (aimed s target)) (λ buffer. line buffer ∷ []) (λ buffer. (each buffer, tt)))
    (mild_private s nick line (found groups s nick) each)

-- on a target, from a nick
pub mild_talk : (groups : EntryGroups) (s : ServerState) (target nick from : List ℕ) (does : Bool) (text : List ℕ) (tags : List (List ℕ)) → AreMild (on_target groups s target nick (talk_line s target from does text tags))
mild_talk groups s target nick from does text tags = mild_target groups s target nick (talk_line s target from does text tags) (λ buffer. mild_talk_line s target from does text tags buffer)

-- what others say, which may be a line of the server's own buffer
mild_heard : (groups : EntryGroups) (s : ServerState) (target nick : List ℕ) (line : List ℕ → Act) → ((buffer : List ℕ) → IsMildAct (line buffer)) → AreMild (heard_on groups s target nick line)
mild_heard groups s target nick line each =
    let there = found groups s nick in
    mild_if (is_channel s.features.chan_types (aimed s target)) _ (heard_privately groups s nick line there) (mild_found (found groups s (aimed s target)) (λ buffer. line buffer ∷ []) (λ buffer. (each buffer, tt)))
    (mild_if (opens_too_many groups s there) (line (server_buffer s.name) ∷ []) (on_private s nick line there) (each (server_buffer s.name), tt) (mild_private s nick line there each))

mild_privmsg : (groups : EntryGroups) (s : ServerState) (m : Message) → AreMild (privmsg_acts groups s m)
mild_privmsg groups s m = by (talk_heard m) where
  by : (talk : Talk) → AreMild (acts_of_talk groups s m talk)
  by (Says text) = mild_heard groups s (param 0 m) m.nick (talk_line s (param 0 m) m.nick false text (talk_tags s m false)) (λ buffer. mild_talk_line s (param 0 m) m.nick false text (talk_tags s m false) buffer)
  by (Does deed) = mild_heard groups s (param 0 m) m.nick (talk_line s (param 0 m) m.nick true deed (talk_tags s m true)) (λ buffer. mild_talk_line s (param 0 m) m.nick true deed (talk_tags s m true) buffer)
  by (Requests word) = mild_line (server_buffer s.name) _ _ _

mild_notice : (groups : EntryGroups) (s : ServerState) (m : Message) → AreMild (notice_acts groups s m)
mild_notice groups s m =
    mild_if (is_channel s.features.chan_types (aimed s (param 0 m))) _ (notice_line m (server_buffer s.name) ∷ []) (mild_found (found groups s (aimed s (param 0 m))) (λ buffer. notice_line m buffer ∷ []) (λ buffer. mild_line buffer _ _ _))
    (mild_line (server_buffer s.name) _ _ _)

-- ---- the server itself

mild_told_nick : (s : ServerState) (nick : List ℕ) (buffer : BufferEntry) → AreMild (told_nick s nick buffer)
mild_told_nick s nick buffer = mild_if (differs s nick buffer) _ [] (tt, tt) tt

mild_welcome : (groups : EntryGroups) (s : ServerState) (m : Message) → AreMild (welcome_acts groups s m)
mild_welcome groups s m =
    let nick = own_nick_from s (param 0 m) in
    let line = mild_line (server_buffer s.name) (codes "irc_001" ∷ []) (codes "--") (last_param m) in
    let joins = map (λ l. act.Send l) (autojoin_lines s.autojoin) in
    mild_if s.is_registered (welcome_line s m ∷ []) (tell_nick groups s nick ++ welcome_line s m ∷ raised (codes "irc_server_connected") s ∷ joins) line
    (mild_both (tell_nick groups s nick) (welcome_line s m ∷ raised (codes "irc_server_connected") s ∷ joins) (mild_each (told_nick s nick) (rows groups) (λ buffer. mild_told_nick s nick buffer))
    (line.0, (tt, mild_map (λ l. act.Send l) (autojoin_lines s.autojoin) (λ l. tt))))

mild_taken : (s : ServerState) → AreMild (taken_acts s)
mild_taken s = mild_if (may_try s) (sent (codes "NICK") (next_nick s) ∷ []) _ (tt, tt) (tt, tt)

-- ---- a login

mild_asking : (names : List (List ℕ)) → AreMild (asking_act names ∷ [])
mild_asking [] = (tt, tt)
mild_asking (name ∷ names) = (tt, tt)

mild_one_of : (t : Bool) (a b : Act) → IsMildAct a → IsMildAct b → AreMild (cond t a b ∷ [])
mild_one_of true a b one other = (one, tt)
mild_one_of false a b one other = (other, tt)

mild_failure : (n : Negotiation) → AreMild (failure_act n ∷ [])
mild_failure n = mild_one_of n.is_strict (act.Leave cause.NickTaken) end_act tt tt

mild_refusal : (n : Negotiation) → AreMild (refusal_act n ∷ [])
mild_refusal n = mild_one_of (has_sasl n.offered) (failure_act n) end_act (mild_failure n).0 tt

mild_step : (s : ServerState) (m : Message) (step : LoginStep) → AreMild (acts_of_step s m step)
unfolding acts_of_step
mild_step s m steps.Foreign = mild_line (server_buffer s.name) _ _ _
mild_step s m steps.Nothing = tt
mild_step s m steps.Lists = tt
mild_step s m steps.EndsList = mild_asking (listed s.negotiation m)
mild_step s m steps.Grants = mild_one_of (has_sasl (granted s.negotiation m)) (sent (codes "AUTHENTICATE") (codes "PLAIN")) end_act tt tt
mild_step s m steps.Refuses = mild_refusal s.negotiation
mild_step s m steps.TakesAway = tt
mild_step s m steps.AsksProof = mild_map (sent (codes "AUTHENTICATE")) (login_pieces s.negotiation.user s.negotiation.password) (λ piece. tt)
mild_step s m steps.Admits = mild_both (other_acts s m) (end_act ∷ []) (mild_line (server_buffer s.name) _ _ _) (tt, tt)
mild_step s m steps.Rejects = mild_both (other_acts s m) (failure_act s.negotiation ∷ []) (mild_line (server_buffer s.name) _ _ _) (mild_failure s.negotiation)

-- ---- each kind

mild_kind : (groups : EntryGroups) (s : ServerState) (m : Message) (k : MessageKind) → AreMild (acts_of_kind groups s m k)
unfolding acts_of_kind
mild_kind groups s m kind.Welcome = mild_welcome groups s m
mild_kind groups s m kind.Tokens = mild_line (server_buffer s.name) _ _ _
mild_kind groups s m kind.NickInUse = mild_taken s
mild_kind groups s m kind.Join = mild_join groups s m
mild_kind groups s m kind.Part = mild_part groups s m
mild_kind groups s m kind.Quit = mild_quit groups s m
mild_kind groups s m kind.Kick = mild_kick groups s m
mild_kind groups s m kind.Nick = mild_nick groups s m
mild_kind groups s m kind.Mode = mild_mode groups s m
mild_kind groups s m kind.Topic = mild_found (found groups s (param 0 m)) (topic_on m) (λ buffer. (tt, mild_line buffer _ _ _))
mild_kind groups s m kind.TopicReply = mild_found (found groups s (param 1 m)) (topic_reply_on m) (λ buffer. (tt, mild_line buffer _ _ _))
mild_kind groups s m kind.Names = mild_names groups s m
mild_kind groups s m kind.NamesEnd = mild_found (found groups s (param 1 m)) (names_end_on s m) (λ buffer. mild_line buffer _ _ _)
mild_kind groups s m kind.ModeReply = mild_found (found groups s (param 1 m)) (mode_reply_on m) (λ buffer. mild_line buffer _ _ _)
mild_kind groups s m kind.Privmsg = mild_privmsg groups s m
mild_kind groups s m kind.Notice = mild_notice groups s m
mild_kind groups s m kind.Ping = (tt, tt)
mild_kind groups s m kind.Error = mild_line (server_buffer s.name) _ _ _
mild_kind groups s m kind.Invite = mild_if (is_of_another s m) (on_found (found groups s (param 1 m)) (invite_on m)) (other_acts s m) (mild_found (found groups s (param 1 m)) (invite_on m) (λ buffer. mild_line buffer _ _ _)) (mild_line (server_buffer s.name) _ _ _)
mild_kind groups s m kind.Other = mild_step s m (login_step s.negotiation m)

-- ---- dates

mild_dated_what : (moment : Moment) (w : What) → IsMild w → IsMild (dated_what moment w)
mild_dated_what moment (what.Print line) mild = mild
mild_dated_what moment (what.Add spec) mild = mild
mild_dated_what moment w mild = mild

mild_dated_all : (moment : Moment) (acts : List Act) → AreMild acts → AreMild (map (dated moment) acts)
mild_dated_all moment [] mild = tt
mild_dated_all moment (act.Open spec ∷ acts) mild = (tt, mild_dated_all moment acts mild.1)
mild_dated_all moment (act.On full_name change ∷ acts) mild = (mild_dated_what moment change mild.0, mild_dated_all moment acts mild.1)
mild_dated_all moment (act.Send line ∷ acts) mild = (tt, mild_dated_all moment acts mild.1)
mild_dated_all moment (act.Raise signal payload ∷ acts) mild = (tt, mild_dated_all moment acts mild.1)
mild_dated_all moment (act.Leave why ∷ acts) mild = (tt, mild_dated_all moment acts mild.1)

mild_dated : (moment : Option Moment) (acts : List Act) → AreMild acts → AreMild (dated_acts moment acts)
mild_dated None acts mild = mild
mild_dated (Some moment) acts mild = mild_dated_all moment acts mild

pub mild_message : (groups : EntryGroups) (s : ServerState) (m : Message) → AreMild (acts_of_server groups s m)
mild_message groups s m = mild_dated (moment_of s m) (acts_of_kind groups s m (kind_to s m)) (mild_kind groups s m (kind_to s m))

-- What is said to servers as their links begin and end, and what is typed for them, is mild.
use Rattle.std.proofs.Common.{ℕ, Bool, true, false, List, [], ◌∷◌, ◌++◌, length, Option, Some, None}
use Rattle.std.specs.Prelude.{nat_le, codes, is_some, option_and_then, option_map}
use Rattle.std.specs.List.{flat_map}
use Rattle.wc_text.specs.declared.names.Cause.TheVariants as cause
use Rattle.wc_text.specs.declared.names.Handle.{Handle}
use Rattle.wc_buffers.specs.declared.row.BufferRow.{BufferRow}
use Rattle.wc_buffers.specs.Calls.{EntryGroups, buffer_of, vars_at}
use Rattle.wc_irc.specs.declared.act.Act.{Act}
use Rattle.wc_irc.specs.declared.act.Act.TheVariants as act
use Rattle.wc_irc.specs.Channels.{Joined}
use Rattle.wc_irc.specs.ChannelStates.{channel_at}
use Rattle.wc_irc.specs.CloseActs.{quit_line, disconnect_acts, part_of, part_from, close_acts}
use Rattle.wc_irc.specs.CommandActs.{Errand, Refuses, Sends, Speaks, Notifies, SendsLine, Opens, SendsBoth, SendsEach, Place, channel_in, place_in, errand_of, if_linked, acts_of_errand, acts_of_line, linked_in, acts_of_typed, acts_of_unlinked}
use Rattle.wc_irc.specs.LinkActs.{pass_acts, user_act, first_acts, lost_of, lost_line, loss_acts}
use Rattle.wc_irc.specs.LongTexts.{room_for, text_to, speech, wrapped, sent_parts, deed_room, long_speech, speech_acts, long_notice, notify_acts}
use Rattle.wc_irc.specs.NewBuffers.{opened, name_or}
use Rattle.wc_irc.specs.NickActs.{remove_nick}
use Rattle.wc_irc.specs.OwnSpeech.{own_tags, own_line, own_talk, hides, shown_text, acts_of_own, own_speech, own_lines, private_lines, own_texts, shown_parts}
use Rattle.wc_irc.specs.SentLines.{told_in, refusal, too_long, sent_message, fits_line, line_acts, both_acts, each_acts}
use Rattle.wc_irc.specs.Servers.{ServerState}
use Rattle.wc_irc.specs.SpeechActs.{Talk, Says, Does, Requests, talk_of}
use Rattle.wc_irc.specs.TalkActs.{sent, raised, on_found, aimed}
use Rattle.wc_irc.specs.Targets.{found, full_name, server_buffer}
use Rattle.wc_irc_texts.specs.Names.{is_channel}
use Rattle.wc_irc_texts.specs.Parts.{parts}
use Rattle.wc_text.specs.Splits.{word_of}
use Rattle.wc_ircmsg.specs.Written.{line_of}
use Rattle.wc_irc_texts.specs.declared.seat.Seat.{Seat}
use Rattle.wc_irc_texts.specs.Texts.{in_one_line}
use Rattle.wc_irc.specs.LoginActs.{list_acts}
use Rattle.wc_irc_texts.specs.declared.negotiation.Negotiation.{Negotiation}
use Rattle.wc_irc_words.specs.Typed.{ServerCommand, asked_of}
use Rattle.wc_core.specs.ServerTyped.{acts_in}
use Rattle.wc_mirror_laws.proofs.MildLemmas.{AreMild, mild_said, mild_both, mild_if, mild_map, mild_each, mild_found}
use Rattle.wc_mirror_laws.proofs.MildMessages.{mild_opened, mild_talk_line, mild_talk}

-- ---- links

mild_pass : (password : List ℕ) → AreMild (pass_acts password)
mild_pass [] = tt
mild_pass (b ∷ password) = (tt, tt)

mild_list : (n : Negotiation) → AreMild (list_acts n)
mild_list n = mild_if n.is_used _ [] (tt, tt) tt

pub mild_first : (s : ServerState) → AreMild (first_acts s)
mild_first s =
    let named = sent (codes "NICK") s.nick ∷ user_act s ∷ [] in
    mild_both (list_acts s.negotiation ++ pass_acts s.password) named (mild_both (list_acts s.negotiation) (pass_acts s.password) (mild_list s.negotiation) (mild_pass s.password)) (tt, (tt, tt))

mild_lost : (groups : EntryGroups) (s : ServerState) (channel : Joined) → AreMild (lost_of groups s channel)
mild_lost groups s channel = mild_found (found groups s channel.name) _ (λ buffer. mild_map (λ (seat : Seat). remove_nick buffer seat.nick) channel.seats (λ seat. tt))

pub mild_loss : (groups : EntryGroups) (s : ServerState) → AreMild (loss_acts groups s)
mild_loss groups s =
    mild_both (flat_map (lost_of groups s) s.channels) (lost_line s ∷ raised (codes "irc_server_disconnected") s ∷ []) (mild_each (lost_of groups s) s.channels (λ channel. mild_lost groups s channel))
    (mild_said (server_buffer s.name) [] (codes "--") (codes "disconnected") false, (tt, tt))

mild_quit : (s : ServerState) → AreMild (quit_line s)
mild_quit s = mild_if s.is_connected _ [] (tt, tt) tt

pub mild_disconnect : (s : ServerState) → AreMild (disconnect_acts s)
mild_disconnect s = mild_both (quit_line s) (act.Leave cause.Disconnected ∷ []) (mild_quit s) (tt, tt)

-- ---- the buffer of a channel is closed

mild_part_of : (s : ServerState) (channel : Option (List ℕ)) → AreMild (part_of s channel)
mild_part_of s None = tt
mild_part_of s (Some channel) = mild_if (is_some (channel_at s channel)) _ [] (tt, tt) tt

mild_part_from : (link : Option ServerState) (channel : Option (List ℕ)) → AreMild (part_from link channel)
mild_part_from None channel = tt
mild_part_from (Some s) channel = mild_part_of s channel

pub mild_close : (groups : EntryGroups) (s : ServerState) (buffer : Handle) → AreMild (close_acts groups s buffer)
unfolding close_acts
mild_close groups s buffer = mild_part_from (linked_in s (vars_at buffer groups)) (channel_in (place_in (vars_at buffer groups)))

-- ---- what is typed

mild_told : (row : Option BufferRow) (text : List ℕ) → AreMild (told_in row text)
mild_told None text = tt
mild_told (Some row) text = (mild_said row.full_name [] (codes "=!=") text false, tt)

mild_refusal : (groups : EntryGroups) (text : List ℕ) → AreMild (refusal groups text)
mild_refusal groups text = mild_told (buffer_of (record { 0 = 1 }) groups) text

mild_linked : (groups : EntryGroups) (link : Option ServerState) (acts : ServerState → List Act) → ((s : ServerState) → AreMild (acts s)) → AreMild (if_linked groups link acts)
mild_linked groups None acts each = mild_refusal groups (codes "irc: not connected")
mild_linked groups (Some s) acts each = each s

mild_own : (groups : EntryGroups) (s : ServerState) (target text : List ℕ) → AreMild (own_speech groups s target text)
mild_own groups s target text = by (talk_of text) where
  by : (talk : Talk) → AreMild (acts_of_own groups s target talk)
  by (Says text) = mild_talk groups s target target s.nick false (shown_text target text) (own_tags s)
  by (Does deed) = mild_talk groups s target target s.nick true deed (own_tags s)
  by (Requests word) = tt

-- ---- the parts of a text

mild_own_lines : (s : ServerState) (target : List ℕ) (does : Bool) (texts : List (List ℕ)) (buffer : List ℕ) → AreMild (own_lines s target does texts buffer)
mild_own_lines s target does texts buffer = mild_map (λ text. own_line s target does text buffer) texts (λ text. mild_talk_line s target s.nick does text (own_tags s) buffer)

mild_texts : (groups : EntryGroups) (s : ServerState) (target : List ℕ) (does : Bool) (texts : List (List ℕ)) → AreMild (own_texts groups s target does texts)
mild_texts groups s target does texts =
    let heard = found groups s (aimed s target) in
    let there = found groups s target in
    let name = name_or there (full_name s.name target) in
    mild_if (is_channel s.features.chan_types (aimed s target)) (on_found heard (own_lines s target does texts)) (private_lines s target does texts there)
    (mild_found heard (own_lines s target does texts) (λ buffer. mild_own_lines s target does texts buffer))
    (mild_both (opened there (codes "private") s target) (own_lines s target does texts name) (mild_opened there (codes "private") s target) (mild_own_lines s target does texts name))

mild_shown : (groups : EntryGroups) (s : ServerState) (target text : List ℕ) (texts : List (List ℕ)) → AreMild (shown_parts groups s target text texts)
mild_shown groups s target text texts =
    mild_if (hides target text) (own_talk groups s target false (shown_text target text)) (own_texts groups s target false texts)
    (mild_talk groups s target target s.nick false (shown_text target text) (own_tags s)) (mild_texts groups s target false texts)

mild_parts : (command target : List ℕ) (does : Bool) (texts : List (List ℕ)) → AreMild (sent_parts command target does texts)
mild_parts command target does texts = mild_map (λ text. sent_message (text_to command target (wrapped does text))) texts (λ text. tt)

mild_long : (groups : EntryGroups) (s : ServerState) (target : List ℕ) (room : ℕ) (talk : Talk) → AreMild (long_speech groups s target room talk)
mild_long groups s target room (Says text) =
    mild_if (nat_le 4 room) _ (too_long groups (codes "PRIVMSG"))
    (mild_both (sent_parts (codes "PRIVMSG") target false (parts room text)) (shown_parts groups s target text (parts room text)) (mild_parts (codes "PRIVMSG") target false (parts room text)) (mild_shown groups s target text (parts room text)))
    (mild_refusal groups _)
mild_long groups s target room (Does deed) =
    let left = deed_room room in
    mild_if (nat_le 4 left) _ (too_long groups (codes "PRIVMSG"))
    (mild_both (sent_parts (codes "PRIVMSG") target true (parts left deed)) (own_texts groups s target true (parts left deed)) (mild_parts (codes "PRIVMSG") target true (parts left deed)) (mild_texts groups s target true (parts left deed)))
    (mild_refusal groups _)
mild_long groups s target room (Requests word) = mild_refusal groups _

mild_speech : (groups : EntryGroups) (s : ServerState) (target text : List ℕ) → AreMild (speech_acts groups s target text)
mild_speech groups s target text =
    let room = room_for s (codes "PRIVMSG") target in
    mild_if (nat_le (length text) room) (sent_message (speech target text) ∷ own_speech groups s target text) (long_speech groups s target room (talk_of text))
    (tt, mild_own groups s target text) (mild_long groups s target room (talk_of text))

mild_notify : (groups : EntryGroups) (s : ServerState) (target text : List ℕ) → AreMild (notify_acts groups s target text)
mild_notify groups s target text =
    let room = room_for s (codes "NOTICE") target in
    mild_if (nat_le (length text) room) (sent_message (text_to (codes "NOTICE") target text) ∷ []) (long_notice groups target room text) (tt, tt)
    (mild_if (nat_le 4 room) (sent_parts (codes "NOTICE") target false (parts room text)) (too_long groups (codes "NOTICE")) (mild_parts (codes "NOTICE") target false (parts room text)) (mild_refusal groups _))

-- ---- lines

mild_sent : (groups : EntryGroups) (line : List ℕ) → AreMild (line_acts groups line)
mild_sent groups line = mild_if (fits_line line) (act.Send line ∷ []) (too_long groups (word_of line)) (tt, tt) (mild_refusal groups _)

mild_sent_both : (groups : EntryGroups) (first second : List ℕ) → AreMild (both_acts groups first second)
mild_sent_both groups first second =
    mild_if (fits_line first) _ (too_long groups (word_of first))
    (mild_if (fits_line second) (act.Send first ∷ act.Send second ∷ []) (too_long groups (word_of second)) (tt, (tt, tt)) (mild_refusal groups _)) (mild_refusal groups _)

mild_errand : (groups : EntryGroups) (link : Option ServerState) (errand : Errand) → AreMild (acts_of_errand groups link errand)
unfolding acts_of_errand
mild_errand groups link (Refuses text) = mild_refusal groups text
mild_errand groups link (Sends m) = mild_linked groups link (λ s. line_acts groups (line_of m)) (λ s. mild_sent groups (line_of m))
mild_errand groups link (Speaks target text) = mild_linked groups link (λ s. speech_acts groups s target text) (λ s. mild_speech groups s target text)
mild_errand groups link (Notifies target text) = mild_linked groups link (λ s. notify_acts groups s target text) (λ s. mild_notify groups s target text)
mild_errand groups link (SendsLine line) = mild_linked groups link (λ s. line_acts groups line) (λ s. mild_sent groups line)
mild_errand groups link (SendsBoth m n) = mild_linked groups link (λ s. both_acts groups (line_of m) (line_of n)) (λ s. mild_sent_both groups (line_of m) (line_of n))
mild_errand groups link (SendsEach ms) = mild_linked groups link (λ s. each_acts groups ms) (λ s. mild_each (λ m. line_acts groups (line_of m)) ms (λ m. mild_sent groups (line_of m)))
mild_errand groups link (Opens nick) = mild_linked groups link (λ s. opened (found groups s nick) (codes "private") s nick) (λ s. mild_opened (found groups s nick) (codes "private") s nick)

mild_line : (groups : EntryGroups) (link : Option ServerState) (place : Place) (line : List ℕ) → AreMild (acts_in (acts_of_line groups link place line))
mild_line groups link place line = asked (asked_of line) where
  made : (errand : Option Errand) → AreMild (acts_in (option_map (acts_of_errand groups link) errand))
  made None = tt
  made (Some errand) = mild_errand groups link errand

  asked : (command : Option ServerCommand) → AreMild (acts_in (option_and_then (λ command. option_map (acts_of_errand groups link) (errand_of link place command)) command))
  asked None = tt
  asked (Some command) = made (errand_of link place command)

pub mild_typed : (groups : EntryGroups) (s : ServerState) (buffer : Handle) (text : List ℕ) → AreMild (acts_in (acts_of_typed groups s buffer text))
unfolding acts_of_typed
mild_typed groups s buffer text = mild_line groups (linked_in s (vars_at buffer groups)) (place_in (vars_at buffer groups)) (in_one_line text)

pub mild_unlinked : (groups : EntryGroups) (buffer : Handle) (text : List ℕ) → AreMild (acts_in (acts_of_unlinked groups buffer text))
unfolding acts_of_unlinked
mild_unlinked groups buffer text = mild_line groups None (place_in (vars_at buffer groups)) (in_one_line text)

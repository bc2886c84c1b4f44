-- The lines that a command sends.
use Rattle.std.proofs.Common.{◌≡◌, ◌≤◌, ℕ, Bool, true, false, cond, List, [], ◌∷◌, ◌++◌, length, Option, Some, None, refl, subst, codes, arith}
use Rattle.std.specs.Prelude.{option_map, option_and_then, nat_le}
use Rattle.std.proofs.lemmas.Bool.Decides.{nat_tests}
use Rattle.std.specs.List.{AllByRecursion}
use Rattle.std.specs.Str.{IsUtf8}
use Rattle.wc_text.specs.declared.names.Handle.{Handle}
use Rattle.wc_buffers.specs.declared.row.BufferRow.{BufferRow}
use Rattle.wc_buffers.specs.Calls.{EntryGroups, buffer_of, vars_at}
use Rattle.wc_buffers.specs.Kept.{AreBuffers}
use Rattle.wc_ircmsg.proofs.WriteLemmas.{ReadsLine-written, written_in_line}
use Rattle.wc_ircmsg.specs.declared.message.Message.{Message}
use Rattle.wc_irc.specs.declared.act.Act.{Act}
use Rattle.wc_irc.specs.declared.act.Act.TheVariants as act
use Rattle.wc_irc.specs.CommandActs.{Errand, Refuses, Sends, Speaks, Notifies, SendsLine, Opens, SendsBoth, SendsEach, Place, if_linked, acts_of_errand, errand_of, place_in, linked_in, acts_of_typed}
use Rattle.wc_irc.specs.LongTexts.{room_for, text_to, speech, wrapped, sent_parts, deed_room, long_speech, speech_acts, long_notice, notify_acts}
use Rattle.wc_irc.specs.SentLines.{told_in, refusal, too_long, sent_message, fits_line, line_acts, both_acts, each_acts}
use Rattle.wc_irc.specs.CommandLaws.{IsInLine, AreInLine, IsReadBack, ArePartsRead, IsTalkRead, IsSpelled, IsSpelledIn, errand_typed}
use Rattle.wc_irc.specs.CommandSeen.{IsLine, IsLead, IsSent, IsSendable, IsFit, IsFitIn, IsReadyIn, IsPlaceUtf8}
use Rattle.wc_irc_texts.specs.Names.{is_channel}
use Rattle.wc_irc.specs.NewBuffers.{opened, name_or}
use Rattle.wc_irc.specs.OwnSpeech.{own_line, own_talk, hides, shown_text, acts_of_own, own_speech, own_lines, private_lines, own_texts, shown_parts}
use Rattle.wc_irc.specs.Servers.{ServerState}
use Rattle.wc_irc.specs.SpeechActs.{Talk, Says, Does, Requests, talk_of, on_private}
use Rattle.wc_irc.specs.TalkActs.{on_found, aimed}
use Rattle.wc_irc.specs.Targets.{found, full_name}
use Rattle.wc_irc_texts.specs.Texts.{in_one_line}
use Rattle.wc_irc_words.specs.Typed.{ServerCommand, asked_of}
use Rattle.wc_irc.proofs.AskedLemmas.{asked_ready}
use Rattle.wc_irc.proofs.ErrandLemmas.{errand_fit, place_utf8}
use Rattle.wc_irc.proofs.LineTextLemmas.{line_made}
use Rattle.wc_irc.proofs.LongLemmas.{IsTalkLine, talk_line, part_lines, part_sent}
use Rattle.wc_ircmsg.specs.Written.{is_one_line, line_of}
use Rattle.wc_ircmsg.specs.Commands.{is_command}
use Rattle.wc_irc_texts.specs.Parts.{parts}
use Rattle.wc_text.specs.Splits.{word_of}

-- ---- acts that send nothing

abbrev All : List Act → Type 0
All acts = AllByRecursion IsInLine acts

told_line : (row : Option BufferRow) (text : List ℕ) → All (told_in row text)
told_line None text = tt
told_line (Some row) text = (tt, tt)

opened_line : (there : Option (List ℕ)) (kind : List ℕ) (s : ServerState) (target : List ℕ) → All (opened there kind s target)
opened_line None kind s target = (tt, tt)
opened_line (Some buffer) kind s target = tt

said_line : (s : ServerState) (target : List ℕ) (does : Bool) (text buffer : List ℕ) → IsInLine (own_line s target does text buffer)
said_line s target true text buffer = tt
said_line s target false text buffer = tt

found_line : (o : Option (List ℕ)) (s : ServerState) (target : List ℕ) (does : Bool) (text : List ℕ) → All (on_found o (λ buffer. own_line s target does text buffer ∷ []))
found_line None s target does text = tt
found_line (Some buffer) s target does text = (said_line s target does text buffer, tt)

private_line : (o : Option (List ℕ)) (s : ServerState) (target : List ℕ) (does : Bool) (text : List ℕ) → All (on_private s target (own_line s target does text) o)
private_line None s target does text = (tt, (said_line s target does text (full_name s.name target), tt))
private_line (Some buffer) s target does text = (said_line s target does text buffer, tt)

told_talk : (groups : EntryGroups) (s : ServerState) (target : List ℕ) (does : Bool) (text : List ℕ) → All (own_talk groups s target does text)
told_talk groups s target does text = by (is_channel s.features.chan_types (aimed s target)) where
  by : (t : Bool) → All (cond t (on_found (found groups s (aimed s target)) (λ buffer. own_line s target does text buffer ∷ [])) (on_private s target (own_line s target does text) (found groups s target)))
  by true = found_line (found groups s (aimed s target)) s target does text
  by false = private_line (found groups s target) s target does text

own_acts : (groups : EntryGroups) (s : ServerState) (target : List ℕ) (talk : Talk) → All (acts_of_own groups s target talk)
own_acts groups s target (Says text) = told_talk groups s target false (shown_text target text)
own_acts groups s target (Does deed) = told_talk groups s target true deed
own_acts groups s target (Requests word) = tt

-- ---- the parts of a text

both : (first second : List Act) → All first → All second → All (first ++ second)
both [] second one two = two
both (act ∷ first) second one two = (one.0, both first second one.1 two)

own_parts : (s : ServerState) (target : List ℕ) (does : Bool) (texts : List (List ℕ)) (buffer : List ℕ) → All (own_lines s target does texts buffer)
own_parts s target does [] buffer = tt
own_parts s target does (text ∷ texts) buffer = (said_line s target does text buffer, own_parts s target does texts buffer)

found_parts : (o : Option (List ℕ)) (s : ServerState) (target : List ℕ) (does : Bool) (texts : List (List ℕ)) → All (on_found o (own_lines s target does texts))
found_parts None s target does texts = tt
found_parts (Some buffer) s target does texts = own_parts s target does texts buffer

own_texts_in : (groups : EntryGroups) (s : ServerState) (target : List ℕ) (does : Bool) (texts : List (List ℕ)) → All (own_texts groups s target does texts)
own_texts_in groups s target does texts = by (is_channel s.features.chan_types (aimed s target)) where
  there : Option (List ℕ)
  there = found groups s target

  by : (t : Bool) → All (cond t (on_found (found groups s (aimed s target)) (own_lines s target does texts)) (private_lines s target does texts there))
  by true = found_parts (found groups s (aimed s target)) s target does texts
  by false =
      both (opened there (codes "private") s target) (own_lines s target does texts (name_or there (full_name s.name target))) (opened_line there (codes "private") s target)
      (own_parts s target does texts (name_or there (full_name s.name target)))

shown_in : (groups : EntryGroups) (s : ServerState) (target text : List ℕ) (texts : List (List ℕ)) → All (shown_parts groups s target text texts)
shown_in groups s target text texts = by (hides target text) where
  by : (t : Bool) → All (cond t (own_talk groups s target false (shown_text target text)) (own_texts groups s target false texts))
  by true = told_talk groups s target false (shown_text target text)
  by false = own_texts_in groups s target false texts

parts_in : (command target : List ℕ) (does : Bool) (texts : List (List ℕ)) → is_command command ≡ true → IsLead target → IsUtf8 target → AllByRecursion IsLine texts → All (sent_parts command target does texts)
parts_in command target does [] known lead utf8 are = tt
parts_in command target does (text ∷ texts) known lead utf8 are =
    (written_in_line (text_to command target (wrapped does text)) (part_sent command target does text known lead utf8 are.0).0, parts_in command target does texts known lead utf8 are.1)

parts_read : (command target : List ℕ) (does : Bool) (texts : List (List ℕ)) → is_command command ≡ true → IsLead target → IsUtf8 target → AllByRecursion IsLine texts
    → AllByRecursion (λ part. IsReadBack (text_to command target (wrapped does part))) texts
parts_read command target does [] known lead utf8 are = tt
parts_read command target does (text ∷ texts) known lead utf8 are =
    let sent = part_sent command target does text known lead utf8 are.0 in
    (ReadsLine-written (text_to command target (wrapped does text)) sent.0 sent.1, parts_read command target does texts known lead utf8 are.1)

text_read : (command target : List ℕ) (does : Bool) (text : List ℕ) → is_command command ≡ true → IsLead target → IsUtf8 target → IsLine text → ArePartsRead command target does text
text_read command target does text known lead utf8 line = λ room most. parts_read command target does (parts room text) known lead utf8 (part_lines room text most line)

talk_read : (target : List ℕ) (talk : Talk) → IsLead target → IsUtf8 target → IsTalkLine talk → IsTalkRead target talk
talk_read target (Says text) lead utf8 line = text_read (codes "PRIVMSG") target false text refl lead utf8 line
talk_read target (Does deed) lead utf8 line = text_read (codes "PRIVMSG") target true deed refl lead utf8 line
talk_read target (Requests word) lead utf8 line = tt

-- ---- what an errand comes to

refusal_in : (groups : EntryGroups) (text : List ℕ) → All (refusal groups text)
refusal_in groups text = told_line (buffer_of (record { 0 = 1 }) groups) text

linked_line : (groups : EntryGroups) (link : Option ServerState) (acts : ServerState → List Act) → ((s : ServerState) → All (acts s)) → All (if_linked groups link acts)
linked_line groups None acts all = refusal_in groups (codes "irc: not connected")
linked_line groups (Some s) acts all = all s

line_in : (groups : EntryGroups) (line : List ℕ) → is_one_line line ≡ true → All (line_acts groups line)
line_in groups line one = by (fits_line line) where
  by : (t : Bool) → All (cond t (act.Send line ∷ []) (too_long groups (word_of line)))
  by true = (one, tt)
  by false = refusal_in groups _

both_in : (groups : EntryGroups) (first second : List ℕ) → is_one_line first ≡ true → is_one_line second ≡ true → All (both_acts groups first second)
both_in groups first second one two = by (fits_line first) (fits_line second) where
  by : (t u : Bool) → All (cond t (cond u (act.Send first ∷ act.Send second ∷ []) (too_long groups (word_of second))) (too_long groups (word_of first)))
  by true true = (one, (two, tt))
  by true false = refusal_in groups _
  by false u = refusal_in groups _

each_in : (groups : EntryGroups) (ms : List Message) → AllByRecursion IsSent ms → All (each_acts groups ms)
each_in groups [] fit = tt
each_in groups (m ∷ ms) fit = both (line_acts groups (line_of m)) (each_acts groups ms) (line_in groups (line_of m) (written_in_line m fit.0.0)) (each_in groups ms fit.1)

each_read : (ms : List Message) → AllByRecursion IsSent ms → AllByRecursion IsReadBack ms
each_read [] fit = tt
each_read (m ∷ ms) fit = (ReadsLine-written m fit.0.0 fit.0.1, each_read ms fit.1)

-- where a character fits, and else a refusal
roomy : (groups : EntryGroups) (room : ℕ) (acts : List Act) (command : List ℕ) → (4 ≤ room → All acts) → All (cond (nat_le 4 room) acts (too_long groups command))
roomy groups room acts command all = by (nat_le 4 room) refl where
  by : (t : Bool) → nat_le 4 room ≡ t → All (cond t acts (too_long groups command))
  by true e = all (grind (arith, nat_tests))
  by false e = refusal_in groups _

long_in : (groups : EntryGroups) (s : ServerState) (target : List ℕ) (room : ℕ) (talk : Talk) → IsLead target → IsUtf8 target → IsTalkLine talk → All (long_speech groups s target room talk)
long_in groups s target room (Says text) lead utf8 line =
    roomy groups room _ (codes "PRIVMSG") (λ most. both (sent_parts (codes "PRIVMSG") target false (parts room text)) (shown_parts groups s target text (parts room text))
    (parts_in (codes "PRIVMSG") target false (parts room text) refl lead utf8 (part_lines room text most line)) (shown_in groups s target text (parts room text)))
long_in groups s target room (Does deed) lead utf8 line =
    let left = deed_room room in
    roomy groups left _ (codes "PRIVMSG") (λ most. both (sent_parts (codes "PRIVMSG") target true (parts left deed)) (own_texts groups s target true (parts left deed))
    (parts_in (codes "PRIVMSG") target true (parts left deed) refl lead utf8 (part_lines left deed most line)) (own_texts_in groups s target true (parts left deed)))
long_in groups s target room (Requests word) lead utf8 line = refusal_in groups _

speech_in : (groups : EntryGroups) (s : ServerState) (target text : List ℕ) → IsSendable target text → All (speech_acts groups s target text)
speech_in groups s target text is = by (nat_le (length text) (room_for s (codes "PRIVMSG") target)) where
  by : (t : Bool) → All (cond t (sent_message (speech target text) ∷ own_speech groups s target text) (long_speech groups s target (room_for s (codes "PRIVMSG") target) (talk_of text)))
  by true = (written_in_line (speech target text) (part_sent (codes "PRIVMSG") target false text refl is.lead is.utf8 is.line).0, own_acts groups s target (talk_of text))
  by false = long_in groups s target (room_for s (codes "PRIVMSG") target) (talk_of text) is.lead is.utf8 (talk_line text is.line)

notify_in : (groups : EntryGroups) (s : ServerState) (target text : List ℕ) → IsSendable target text → All (notify_acts groups s target text)
notify_in groups s target text is = by (nat_le (length text) room) where
  room : ℕ
  room = room_for s (codes "NOTICE") target

  by : (t : Bool) → All (cond t (sent_message (text_to (codes "NOTICE") target text) ∷ []) (long_notice groups target room text))
  by true = (written_in_line (text_to (codes "NOTICE") target text) (part_sent (codes "NOTICE") target false text refl is.lead is.utf8 is.line).0, tt)
  by false = roomy groups room _ (codes "NOTICE") (λ most. parts_in (codes "NOTICE") target false (parts room text) refl is.lead is.utf8 (part_lines room text most is.line))

errand_line : (groups : EntryGroups) (link : Option ServerState) (errand : Errand) → IsFit errand → All (acts_of_errand groups link errand)
unfolding acts_of_errand
errand_line groups link (Refuses text) fit = refusal_in groups text
errand_line groups link (Sends m) fit = linked_line groups link _ (λ s. line_in groups (line_of m) (written_in_line m fit.0))
errand_line groups link (Speaks target text) fit = linked_line groups link _ (λ s. speech_in groups s target text fit)
errand_line groups link (Notifies target text) fit = linked_line groups link _ (λ s. notify_in groups s target text fit)
errand_line groups link (SendsLine line) fit = linked_line groups link _ (λ s. line_in groups line fit)
errand_line groups link (Opens nick) fit = linked_line groups link _ (λ s. opened_line (found groups s nick) (codes "private") s nick)
errand_line groups link (SendsBoth m n) fit = linked_line groups link _ (λ s. both_in groups (line_of m) (line_of n) (written_in_line m fit.0.0) (written_in_line n fit.1.0))
errand_line groups link (SendsEach ms) fit = linked_line groups link _ (λ s. each_in groups ms fit)

errand_spelled : (errand : Errand) → IsFit errand → IsSpelled errand
errand_spelled (Refuses text) fit = tt
errand_spelled (Sends m) fit = ReadsLine-written m fit.0 fit.1
errand_spelled (Speaks target text) fit =
    let sent = part_sent (codes "PRIVMSG") target false text refl fit.lead fit.utf8 fit.line in
    (ReadsLine-written (speech target text) sent.0 sent.1, talk_read target (talk_of text) fit.lead fit.utf8 (talk_line text fit.line))
errand_spelled (Notifies target text) fit =
    let sent = part_sent (codes "NOTICE") target false text refl fit.lead fit.utf8 fit.line in
    (ReadsLine-written (text_to (codes "NOTICE") target text) sent.0 sent.1, text_read (codes "NOTICE") target false text refl fit.lead fit.utf8 fit.line)
errand_spelled (SendsLine line) fit = tt
errand_spelled (Opens nick) fit = tt
errand_spelled (SendsBoth m n) fit = (ReadsLine-written m fit.0.0 fit.0.1, ReadsLine-written n fit.1.0 fit.1.1)
errand_spelled (SendsEach ms) fit = each_read ms fit

-- ---- what a line comes to

fit_in : (link : Option ServerState) (place : Place) (asked : Option ServerCommand) → IsPlaceUtf8 place → IsReadyIn asked → IsFitIn (option_and_then (errand_of link place) asked)
fit_in link place None utf8 ready = tt
fit_in link place (Some command) utf8 ready = errand_fit link place command utf8 ready

lines_in : (groups : EntryGroups) (link : Option ServerState) (o : Option Errand) → IsFitIn o → AreInLine (option_map (acts_of_errand groups link) o)
lines_in groups link None fit = tt
lines_in groups link (Some errand) fit = errand_line groups link errand fit

spelled_in : (o : Option Errand) → IsFitIn o → IsSpelledIn o
spelled_in None fit = tt
spelled_in (Some errand) fit = errand_spelled errand fit

-- one errand after another
chained : (groups : EntryGroups) (link : Option ServerState) (place : Place) (asked : Option ServerCommand)
    → option_map (acts_of_errand groups link) (option_and_then (errand_of link place) asked) ≡ option_and_then (λ command. option_map (acts_of_errand groups link) (errand_of link place command)) asked
chained groups link place None = refl
chained groups link place (Some command) = refl

typed_fit : (groups : EntryGroups) (s : ServerState) (buffer : Handle) (text : List ℕ) → AreBuffers groups → IsUtf8 text → IsFitIn (errand_typed groups s buffer text)
typed_fit groups s buffer text are utf8 =
    let line = line_made text utf8 in
    fit_in (linked_in s (vars_at buffer groups)) (place_in (vars_at buffer groups)) (asked_of (in_one_line text)) (place_utf8 buffer groups are) (asked_ready (in_one_line text) line.one line.utf8)

pub typed_spelled : (groups : EntryGroups) (s : ServerState) (buffer : Handle) (text : List ℕ) → AreBuffers groups → IsUtf8 text → IsSpelledIn (errand_typed groups s buffer text)
typed_spelled groups s buffer text are utf8 = spelled_in (errand_typed groups s buffer text) (typed_fit groups s buffer text are utf8)

pub typed_lines : (groups : EntryGroups) (s : ServerState) (buffer : Handle) (text : List ℕ) → AreBuffers groups → IsUtf8 text → AreInLine (acts_of_typed groups s buffer text)
unfolding acts_of_typed
typed_lines groups s buffer text are utf8 =
    let link = linked_in s (vars_at buffer groups) in
    subst AreInLine (chained groups link (place_in (vars_at buffer groups)) (asked_of (in_one_line text)))
    (lines_in groups link (errand_typed groups s buffer text) (typed_fit groups s buffer text are utf8))

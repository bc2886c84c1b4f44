-- What a command is for can be done as it stands, and where it is typed.
use Rattle.std.proofs.Common.{◌≡◌, ℕ, ◌<◌, Bool, true, false, cond, List, [], ◌∷◌, length, refl, sym, subst, arith, Option, Some, None, codes}
use Rattle.std.specs.Prelude.{◌&&◌, not, nat_le, option_map, find, bytes_eq}
use Rattle.std.specs.List.{list_all}
use Rattle.std.specs.Str.{IsUtf8}
use Rattle.std.proofs.lemmas.Bool.{and_parts, and_from, not-true}
use Rattle.std.proofs.lemmas.Str.{IsUtf8-nil}
use Rattle.wc_text.specs.declared.names.Handle.{Handle}
use Rattle.wc_text.specs.declared.names.Pair.{Pair}
use Rattle.wc_ircmsg.specs.Commands.{is_command}
use Rattle.wc_ircmsg.specs.Utf8.{AreUtf8Texts}
use Rattle.wc_ircmsg.specs.Written.{IsWritable, is_one_line, are_words, needs_colon}
use Rattle.wc_buffers.specs.declared.row.BufferEntry.{BufferEntry}
use Rattle.wc_buffers.specs.Calls.{EntryGroups, entry_of, vars_at}
use Rattle.wc_buffers.specs.Kept.{AreBuffers, AreVars, IsBuffer}
use Rattle.wc_buffers.specs.Vars.{value_of}
use Rattle.wc_irc.specs.Autojoin.{message}
use Rattle.wc_irc.specs.CommandActs.{Place, OnChannel, OnPrivate, Elsewhere, is_kind, place_of, place_in, channel_in, target_in, takes_text, Errand, Refuses, Sends, Speaks, may_lead, on_channel, to_target, talk_at, reason_params, wrong_arguments, is_joined, part_errand, new_topic, is_of_channel, first_word, own_modes, mode_errand, errand_of}
use Rattle.wc_irc.specs.Servers.{ServerState}
use Rattle.wc_irc.proofs.AskedLemmas.{word_lead}
use Rattle.wc_irc.proofs.LineTextLemmas.{line_word, line_rest}
use Rattle.wc_text.specs.Splits.{word_of, rest_of}
use Rattle.wc_text.specs.Words.{words_of}
use Rattle.std.proofs.lemmas.Bool.Decides.{nat_tests}
use Rattle.wc_irc.specs.CommandSeen.{IsSent, IsLine, IsFit, IsFitIn, AreReadyWords, IsReady, IsReadyIn, IsUtf8In, IsPlaceUtf8}
use Rattle.wc_irc_words.specs.Typed.{ServerCommand, AddsServer, DeletesServer, Connects, Disconnects, Joins, Parts, Says, Notices, Queries, Does, Renames, SetsTopic, Kicks, SetsModes, AsksNames, Quotes, Talks, Wrong, Bids, is_target}
use Rattle.wc_irc.specs.LongTexts.{action}
use Rattle.wc_irc.proofs.FormLemmas.{reason_fit, everyday_fit}
use Rattle.wc_irc.proofs.LongLemmas.{action_line}

-- ---- messages

-- parameters that can come after a channel
record CanFollow (params : List (List ℕ)) : Type 0 where
  few : length params < 15
  words : are_words params ≡ true
  one_line : list_all is_one_line params ≡ true
  utf8 : AreUtf8Texts params

one_param : (command param : List ℕ) → is_command command ≡ true → IsLine param → IsSent (message command (param ∷ []))
one_param command param known line = (
  record {
    command = known;
    few = omega arith;
    words = refl;
    one_line = and_from (is_one_line param) true line.one refl;
  },
  (line.utf8, tt),
)

led : (command channel : List ℕ) (params : List (List ℕ)) → is_command command ≡ true → CanFollow params → IsUtf8 channel → may_lead channel params ≡ true → IsSent (message command (channel ∷ params))
led command channel [] known follow utf8 lead = one_param command channel known (record { one = lead; utf8 = utf8 })
led command channel (param ∷ params) known follow utf8 lead =
    let both = and_parts (is_one_line channel) (not (needs_colon channel)) lead in (
      record {
        command = known;
        few = let most = follow.few in omega (arith, most);
        words = and_from (not (needs_colon channel)) (are_words (param ∷ params)) both.1 follow.words;
        one_line = and_from (is_one_line channel) (list_all is_one_line (param ∷ params)) both.0 follow.one_line;
      },
      (utf8, follow.utf8),
    )

channel_fit : (command : List ℕ) (params : List (List ℕ)) (channel : Option (List ℕ)) → is_command command ≡ true → CanFollow params → IsUtf8In channel → IsFit (on_channel command params channel)
channel_fit command params None known follow utf8 = tt
channel_fit command params (Some channel) known follow utf8 = by (may_lead channel params) refl where
  by : (t : Bool) → may_lead channel params ≡ t → IsFit (cond t (Sends (message command (channel ∷ params))) (on_channel command params None))
  by true e = led command channel params known follow utf8 e
  by false e = tt

target_fit : (text : List ℕ) (target : Option (List ℕ)) → IsLine text → IsUtf8In target → IsFit (to_target text target)
target_fit text None line utf8 = tt
target_fit text (Some target) line utf8 = by (may_lead target (text ∷ [])) refl where
  by : (t : Bool) → may_lead target (text ∷ []) ≡ t → IsFit (cond t (Speaks target text) (to_target text None))
  by true e =
      let both = and_parts (is_one_line target) (not (needs_colon target)) e in
      record { lead = (both.0, not-true (needs_colon target) both.1); utf8 = utf8; line = line }
  by false e = tt

-- ---- commands

no_params : CanFollow []
no_params = record { few = omega arith; words = refl; one_line = refl; utf8 = tt }

last_param : (param : List ℕ) → IsLine param → CanFollow (param ∷ [])
last_param param line = record { few = omega arith; words = refl; one_line = and_from (is_one_line param) true line.one refl; utf8 = (line.utf8, tt) }

reason_follows : (reason : List ℕ) → IsLine reason → CanFollow (reason_params reason)
reason_follows [] line = no_params
reason_follows (b ∷ reason) line = last_param (b ∷ reason) line

kick_follows : (nick reason : List ℕ) → are_words (nick ∷ reason_params reason) ≡ true → IsLine nick → IsLine reason → CanFollow (nick ∷ reason_params reason)
kick_follows nick [] words line other = last_param nick line
kick_follows nick (b ∷ reason) words line other = record {
  few = omega arith;
  words = words;
  one_line = and_from (is_one_line nick) (is_one_line (b ∷ reason) && true) line.one (and_from (is_one_line (b ∷ reason)) true other.one refl);
  utf8 = (line.utf8, (other.utf8, tt));
}

channel_text : (place : Place) → IsPlaceUtf8 place → IsUtf8In (channel_in place)
channel_text (OnChannel channel) utf8 = utf8
channel_text (OnPrivate nick) utf8 = tt
channel_text Elsewhere utf8 = tt

target_text : (place : Place) → IsPlaceUtf8 place → IsUtf8In (target_in place)
target_text (OnChannel channel) utf8 = utf8
target_text (OnPrivate nick) utf8 = utf8
target_text Elsewhere utf8 = tt

talk_fit : (text : List ℕ) (place : Place) → IsLine text → IsPlaceUtf8 place → IsFit (talk_at text place)
talk_fit text place line utf8 = by (takes_text place) where
  by : (t : Bool) → IsFit (cond t (to_target text (target_in place)) (Refuses (codes "no text here")))
  by true = target_fit text (target_in place) line (target_text place utf8)
  by false = tt

parts_fit : (link : Option ServerState) (place : Place) (text : List ℕ) → IsPlaceUtf8 place → IsLine text → IsFit (part_errand link place text)
parts_fit link place text utf8 line = by (is_target (word_of text)) (is_joined link (word_of text)) refl where
  here : List ℕ → Errand
  here reason = on_channel (codes "PART") (reason_params reason) (channel_in place)

  by : (t u : Bool) → is_target (word_of text) ≡ t → IsFit (cond (t && u) (Sends (message (codes "PART") (word_of text ∷ reason_params (rest_of text)))) (here text))
  by true true e = reason_fit (codes "PART") (word_of text) (rest_of text) refl (word_lead text line e) (line_word text line).utf8 (line_rest text line)
  by true false e = channel_fit (codes "PART") (reason_params text) (channel_in place) refl (reason_follows text line) (channel_text place utf8)
  by false u e = channel_fit (codes "PART") (reason_params text) (channel_in place) refl (reason_follows text line) (channel_text place utf8)

topic_line : (topic : List ℕ) → IsLine topic → IsLine (new_topic topic)
topic_line topic line = by (bytes_eq topic (codes "-delete")) where
  by : (t : Bool) → IsLine (cond t [] topic)
  by true = record { one = refl; utf8 = IsUtf8-nil }
  by false = line

words_fit : (command : List ℕ) (words : List (List ℕ)) → is_command command ≡ true → AreReadyWords words → IsSent (message command words)
words_fit command words known ready = (record { command = known; few = ready.0; words = ready.1; one_line = ready.2 }, ready.3)

own_modes_fit : (place : Place) (words : List (List ℕ)) → IsPlaceUtf8 place → AreReadyWords words → IsFit (own_modes place words)
own_modes_fit place words utf8 ready = by (nat_le (length words) 14) refl where
  fewer : (n : ℕ) → nat_le n 14 ≡ true → n < 15
  fewer n e = grind (arith, nat_tests)

  by : (t : Bool) → nat_le (length words) 14 ≡ t → IsFit (cond t (on_channel (codes "MODE") words (channel_in place)) (wrong_arguments (codes "mode")))
  by true e = channel_fit (codes "MODE") words (channel_in place) refl (record { few = fewer (length words) e; words = ready.1; one_line = ready.2; utf8 = ready.3 }) (channel_text place utf8)
  by false e = tt

modes_fit : (place : Place) (words : List (List ℕ)) → IsPlaceUtf8 place → AreReadyWords words → IsFit (mode_errand place words)
modes_fit place words utf8 ready = by (is_of_channel place (first_word words)) where
  by : (t : Bool) → IsFit (cond t (own_modes place words) (Sends (message (codes "MODE") words)))
  by true = own_modes_fit place words utf8 ready
  by false = words_fit (codes "MODE") words refl ready

pub errand_fit : (link : Option ServerState) (place : Place) (command : ServerCommand) → IsPlaceUtf8 place → IsReady command → IsFitIn (errand_of link place command)
unfolding errand_of
errand_fit link place (AddsServer name address tls) utf8 ready = tt
errand_fit link place (DeletesServer name) utf8 ready = tt
errand_fit link place (Connects name) utf8 ready = tt
errand_fit link place (Disconnects name) utf8 ready = tt
errand_fit link place (Joins text) utf8 ready = words_fit (codes "JOIN") (words_of text) refl ready
errand_fit link place (Parts text) utf8 ready = parts_fit link place text utf8 ready
errand_fit link place (Says target text) utf8 ready = ready
errand_fit link place (Notices target text) utf8 ready = ready
errand_fit link place (Queries nick) utf8 ready = ready
errand_fit link place (Does deed) utf8 ready = target_fit (action deed) (target_in place) (action_line deed ready) (target_text place utf8)
errand_fit link place (Renames nick) utf8 ready = one_param (codes "NICK") nick refl ready
errand_fit link place (SetsTopic topic) utf8 ready = channel_fit (codes "TOPIC") (new_topic topic ∷ []) (channel_in place) refl (last_param (new_topic topic) (topic_line topic ready)) (channel_text place utf8)
errand_fit link place (Kicks nick reason) utf8 ready = channel_fit (codes "KICK") (nick ∷ reason_params reason) (channel_in place) refl (kick_follows nick reason ready.0 ready.1 ready.2) (channel_text place utf8)
errand_fit link place (SetsModes words) utf8 ready = modes_fit place words utf8 ready
errand_fit link place AsksNames utf8 ready = channel_fit (codes "NAMES") [] (channel_in place) refl no_params (channel_text place utf8)
errand_fit link place (Bids word text) utf8 ready = everyday_fit place word text (channel_text place utf8) ready
errand_fit link place (Quotes line) utf8 ready = ready.one
errand_fit link place (Talks text) utf8 ready = talk_fit text place ready utf8
errand_fit link place (Wrong name) utf8 ready = tt

-- ---- places

value_text : (name : List ℕ) (vars : List Pair) → AreVars vars → IsUtf8In (value_of name vars)
value_text name [] are = tt
value_text name (v ∷ vars) are = by (bytes_eq name v.name) (value_text name vars are.1) where
  by : (t : Bool) → IsUtf8In (value_of name vars) → IsUtf8In (option_map (λ (v : Pair). v.value) (cond t (Some v) (find (λ (v : Pair). bytes_eq name v.name) vars)))
  by true more = are.0.value
  by false more = more

place_text : (vars : List Pair) → AreVars vars → IsPlaceUtf8 (place_of vars)
place_text vars are = by (is_kind (codes "channel") vars) (is_kind (codes "private") vars) (value_text (codes "channel") vars are) where
  by : (t u : Bool) → IsUtf8In (value_of (codes "channel") vars)
      → IsPlaceUtf8 (cond t (OnChannel (value_of (codes "channel") vars)) (cond u (OnPrivate (value_of (codes "channel") vars)) Elsewhere))
  by true u utf8 = utf8
  by false true utf8 = utf8
  by false false utf8 = tt

text_in : (o : Option BufferEntry) → ((e : BufferEntry) → o ≡ Some e → IsBuffer e) → IsPlaceUtf8 (place_in (option_map (λ (e : BufferEntry). e.vars) o))
text_in None fit = tt
text_in (Some e) fit = place_text e.vars (fit e refl).vars

pub place_utf8 : (buffer : Handle) (groups : EntryGroups) → AreBuffers groups → IsPlaceUtf8 (place_in (vars_at buffer groups))
place_utf8 buffer groups are = text_in (entry_of buffer groups) (are.fit buffer)

-- ---- an errand that was read

pub read_fit : (link : Option ServerState) (place : Place) (asked : Option ServerCommand) (command : ServerCommand) (errand : Errand) → IsPlaceUtf8 place → IsReadyIn asked → asked ≡ Some command
    → errand_of link place command ≡ Some errand → IsFit errand
read_fit link place asked command errand utf8 ready is made =
    subst IsFitIn made (errand_fit link place command utf8 (subst IsReadyIn is ready))

-- ---- the same message from other texts

pub writable_as : (command word : List ℕ) (params same : List (List ℕ)) → IsWritable (message command params) → word ≡ command → same ≡ params → IsWritable (message word same)
writable_as command word params same is named are =
    subst (λ (w : List ℕ). IsWritable (message w same)) (sym named) (subst (λ (p : List (List ℕ)). IsWritable (message command p)) (sym are) is)

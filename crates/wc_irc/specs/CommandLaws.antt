-- What holds of the lines that a command sends.
use Rattle.std.specs.Prelude.{◌≡◌, ◌≤◌, ℕ, Bool, true, false, List, Option, Some}
use Rattle.std.specs.Prelude.{None, codes, option_and_then}
use Rattle.std.specs.List.{AllByRecursion}
use Rattle.wc_text.specs.declared.names.Handle.{Handle}
use Rattle.wc_ircmsg.specs.declared.message.Message.{Message}
use Rattle.wc_ircmsg.specs.Grammar.{ReadsLine}
use Rattle.wc_ircmsg.specs.Written.{is_one_line, line_of, without_prefix}
use Rattle.wc_buffers.specs.Calls.{EntryGroups, vars_at}
use Rattle.wc_irc.specs.declared.act.Act.{Act}
use Rattle.wc_irc.specs.declared.act.Act.TheVariants as act
use Rattle.wc_irc.specs.CommandActs.{Errand, Refuses, Sends, Speaks, Notifies, SendsLine}
use Rattle.wc_irc.specs.CommandActs.{Opens, SendsBoth, SendsEach, place_in, linked_in, errand_of}
use Rattle.wc_irc.specs.LongTexts.{text_to, speech, wrapped}
use Rattle.wc_irc.specs.SpeechActs.{Talk, Says, Does, Requests, talk_of}
use Rattle.wc_irc.specs.Servers.{ServerState}
use Rattle.wc_irc_texts.specs.Parts.{parts}
use Rattle.wc_irc_texts.specs.Texts.{in_one_line}
use Rattle.wc_irc_words.specs.Typed.{asked_of}

-- a line that is sent has no CR, LF and NUL
abbrev pub IsInLine : Act → Type 0
IsInLine (act.Open spec) = Unit {0}
IsInLine (act.On full_name what) = Unit {0}
IsInLine (act.Send line) = is_one_line line ≡ true
IsInLine (act.Raise signal payload) = Unit {0}
IsInLine (act.Leave cause) = Unit {0}

abbrev pub AreInLine : Option (List Act) → Type 0
AreInLine None = Unit {0}
AreInLine (Some acts) = AllByRecursion IsInLine acts

-- the line of a message is read as the same message
abbrev pub IsReadBack : Message → Type 0
IsReadBack m = ReadsLine (line_of m) (without_prefix m)

-- and so is that of each part of a text, whatever the room
abbrev pub ArePartsRead : List ℕ → List ℕ → Bool → List ℕ → Type 0
ArePartsRead command target does text = (room : ℕ) → 4 ≤ room →
    AllByRecursion (λ part. IsReadBack (text_to command target (wrapped does part)))
    (parts room text)

abbrev pub IsTalkRead : List ℕ → Talk → Type 0
IsTalkRead target (Says text) = ArePartsRead (codes "PRIVMSG") target false text
IsTalkRead target (Does deed) = ArePartsRead (codes "PRIVMSG") target true deed
IsTalkRead target (Requests word) = Unit {0}

abbrev pub IsSpelled : Errand → Type 0
IsSpelled (Refuses text) = Unit {0}
IsSpelled (Sends m) = IsReadBack m
IsSpelled (Speaks target text) = IsReadBack (speech target text)
    × IsTalkRead target (talk_of text)
IsSpelled (Notifies target text) = IsReadBack (text_to (codes "NOTICE") target text)
    × ArePartsRead (codes "NOTICE") target false text
IsSpelled (SendsLine line) = Unit {0}
IsSpelled (Opens nick) = Unit {0}
IsSpelled (SendsBoth m n) = IsReadBack m × IsReadBack n
IsSpelled (SendsEach ms) = AllByRecursion IsReadBack ms

abbrev pub IsSpelledIn : Option Errand → Type 0
IsSpelledIn None = Unit {0}
IsSpelledIn (Some errand) = IsSpelled errand

-- what a text that is typed into a buffer is for
abbrev pub errand_typed : EntryGroups → ServerState → Handle → List ℕ → Option Errand
errand_typed groups s buffer text = option_and_then
    (errand_of (linked_in s (vars_at buffer groups)) (place_in (vars_at buffer groups)))
    (asked_of (in_one_line text))

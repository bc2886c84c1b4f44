-- What is sent of a text to other users, and printed of it: all of it, in as many lines as it needs.
use Rattle.std.specs.Prelude.{ℕ, ◌-◌, Bool, true, false, nat_le, List, [], ◌∷◌, ◌++◌, codes, length}
use Rattle.std.specs.Prelude.{map, if◌then◌else◌}
use Rattle.wc_text.specs.Words.{is_filled}
use Rattle.wc_ircmsg.specs.declared.message.Message.{Message}
use Rattle.wc_buffers.specs.Calls.{EntryGroups}
use Rattle.wc_irc.specs.declared.act.Act.{Act}
use Rattle.wc_irc.specs.Autojoin.{message}
use Rattle.wc_irc.specs.LinkActs.{user_word}
use Rattle.wc_irc.specs.OwnSpeech.{own_speech, own_texts, shown_parts}
use Rattle.wc_irc.specs.SentLines.{sent_message, too_long}
use Rattle.wc_irc.specs.Servers.{ServerState}
use Rattle.wc_irc.specs.SpeechActs.{Talk, Says, Does, Requests, talk_of}
use Rattle.wc_irc_texts.specs.Parts.{parts}

-- ---- how much of a text reaches others in one line

-- what `user@host` leaves of 504 bytes; before it is told it is the user name after one sign, and a
-- host of 63 bytes
abbrev pub mask_room : ServerState → ℕ
mask_room s = if is_filled s.mask then 504 - length s.mask else 439 - length (user_word s.user)

-- how many of 510 bytes the line `:N!U@H C T :` leaves
unfoldable pub room_for : ServerState → List ℕ → List ℕ → ℕ
room_for s command target = ((mask_room s - length s.nick) - length command) - length target

-- ---- a text as it is sent

abbrev pub text_to : List ℕ → List ℕ → List ℕ → Message
text_to command target text = message command (target ∷ text ∷ [])

abbrev pub speech : List ℕ → List ℕ → Message
speech target text = text_to (codes "PRIVMSG") target text

-- what is done, as a request between clients tells it
abbrev pub action : List ℕ → List ℕ
action deed = 1 ∷ codes "ACTION " ++ deed ++ 1 ∷ []

-- something that is said or done
abbrev pub wrapped : Bool → List ℕ → List ℕ
wrapped false text = text
wrapped true deed = action deed

abbrev pub sent_parts : List ℕ → List ℕ → Bool → List (List ℕ) → List Act
sent_parts command target does texts =
    map (λ text. sent_message (text_to command target (wrapped does text))) texts

-- ---- texts that do not fit into one line; without room for a character they are refused

-- what is done has 9 bytes around it
abbrev pub deed_room : ℕ → ℕ
deed_room room = room - 9

abbrev pub long_said : EntryGroups → ServerState → List ℕ → ℕ → List ℕ → List Act
long_said groups s target room text =
    if nat_le 4 room
    then sent_parts (codes "PRIVMSG") target false (parts room text)
    ++ shown_parts groups s target text (parts room text)
    else too_long groups (codes "PRIVMSG")

abbrev pub long_done : EntryGroups → ServerState → List ℕ → ℕ → List ℕ → List Act
long_done groups s target room deed =
    if nat_le 4 room
    then sent_parts (codes "PRIVMSG") target true (parts room deed)
    ++ own_texts groups s target true (parts room deed)
    else too_long groups (codes "PRIVMSG")

-- another request between clients is not parted
abbrev pub long_speech : EntryGroups → ServerState → List ℕ → ℕ → Talk → List Act
long_speech groups s target room (Says text) = long_said groups s target room text
long_speech groups s target room (Does deed) = long_done groups s target (deed_room room) deed
long_speech groups s target room (Requests word) = too_long groups (codes "PRIVMSG")

abbrev pub speech_acts : EntryGroups → ServerState → List ℕ → List ℕ → List Act
speech_acts groups s target text =
    if nat_le (length text) (room_for s (codes "PRIVMSG") target)
    then sent_message (speech target text) ∷ own_speech groups s target text
    else long_speech groups s target (room_for s (codes "PRIVMSG") target) (talk_of text)

-- what is noticed is not printed
abbrev pub long_notice : EntryGroups → List ℕ → ℕ → List ℕ → List Act
long_notice groups target room text =
    if nat_le 4 room then sent_parts (codes "NOTICE") target false (parts room text)
    else too_long groups (codes "NOTICE")

abbrev pub notify_acts : EntryGroups → ServerState → List ℕ → List ℕ → List Act
notify_acts groups s target text =
    if nat_le (length text) (room_for s (codes "NOTICE") target)
    then sent_message (text_to (codes "NOTICE") target text) ∷ []
    else long_notice groups target (room_for s (codes "NOTICE") target) text

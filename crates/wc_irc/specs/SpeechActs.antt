-- What follows of what is said: PRIVMSG, and ACTION and other requests between clients (CTCP) in it.
use Rattle.std.specs.Prelude.{ℕ, Bool, true, false, ◌==◌, ◌-◌, List, [], ◌∷◌, ◌++◌, codes}
use Rattle.std.specs.Prelude.{bytes_eq, length, drop}
use Rattle.std.specs.Prelude.{Option, Some, None, option_map, option_and_then, if◌then◌else◌}
use Rattle.wc_text.specs.Splits.{before, text_after}
use Rattle.wc_text.specs.Words.{is_filled}
use Rattle.wc_ircmsg.specs.declared.message.Message.{Message}
use Rattle.wc_ircmsg.specs.declared.prefixes.Prefixes.{Prefixes}
use Rattle.wc_ircmsg.specs.Sources.{or_empty}
use Rattle.wc_buffers.specs.Calls.{EntryGroups}
use Rattle.wc_irc.specs.declared.act.Act.{Act}
use Rattle.wc_irc_texts.specs.declared.seat.Seat.{Seat}
use Rattle.wc_irc.specs.Channels.{Joined}
use Rattle.wc_irc.specs.ChannelStates.{channel_at}
use Rattle.wc_irc_texts.specs.Groups.{sign_at}
use Rattle.wc_irc.specs.Lines.{said, nick_tag, host_tag}
use Rattle.wc_irc_texts.specs.ModeBits.{highest}
use Rattle.wc_irc_texts.specs.Names.{is_channel, begins_with_text}
use Rattle.wc_irc.specs.NewBuffers.{opened, name_or}
use Rattle.wc_irc.specs.PrivateBuffers.{opens_too_many}
use Rattle.wc_irc_texts.specs.Rows.{param}
use Rattle.wc_irc_nicks.specs.Seats.{seat_of}
use Rattle.wc_irc.specs.Servers.{ServerState}
use Rattle.wc_irc_texts.specs.Speech.{calls_nick}
use Rattle.wc_irc.specs.TalkActs.{on_server, on_found, aimed}
use Rattle.wc_irc.specs.Targets.{server_buffer, found, full_name}
use Rattle.wc_irc_texts.specs.Statuses.{status_sign}
use Rattle.wc_irc_texts.specs.Texts.{plain}

-- ---- requests, computed: what is between a first and a last byte 01, as a word and what comes
-- after one blank

abbrev pub before_last : List ℕ → Option (List ℕ)
before_last [] = None
before_last (b ∷ []) = if b == 1 then Some [] else None
before_last (b ∷ c ∷ text) = option_map (λ inner. b ∷ inner) (before_last (c ∷ text))

abbrev pub quoted : List ℕ → Option (List ℕ)
quoted [] = None
quoted (b ∷ text) = if b == 1 then before_last text else None

abbrev pub word_and_rest : List ℕ → Option (List ℕ × List ℕ)
word_and_rest inner = if is_filled (before 32 inner)
    then Some (before 32 inner, or_empty (text_after 32 inner)) else None

unfoldable pub request_of : List ℕ → Option (List ℕ × List ℕ)
request_of text = option_and_then word_and_rest (quoted text)

-- ---- what a text is: something that is said, something that is done, or another request

pub data Talk : Type 0 where
  Says : List ℕ → Talk
  Does : List ℕ → Talk
  Requests : List ℕ → Talk

abbrev pub talk_in : List ℕ → Option (List ℕ × List ℕ) → Talk
talk_in text None = Says text
talk_in text (Some parts) = if bytes_eq parts.0 (codes "ACTION") then Does parts.1
    else Requests parts.0

abbrev pub talk_of : List ℕ → Talk
talk_of text = talk_in text (request_of text)

-- ---- what is heard: servers cut what is too long, and with it the byte 01 at its end

-- how many of 400 bytes the line `:N!U@H PRIVMSG T :text` of a message leaves, which has 7 beside
-- its parts
abbrev pub room_left : Message → ℕ
room_left m = (((((393 - length m.nick) - length m.user) - length m.host) - length m.command)
    - length (param 0 m)) - length (param 1 m)

abbrev pub deed_front : List ℕ
deed_front = 1 ∷ codes "ACTION "

-- what is done, also without its end
abbrev pub open_deed : List ℕ → Talk
open_deed text = if begins_with_text text deed_front then Does (drop 8 text) else Says text

-- a line of 400 bytes or more may have been cut
abbrev pub may_be_cut : Message → Bool
may_be_cut m = room_left m == 0

abbrev pub said_or_done : Bool → List ℕ → Talk
said_or_done cut text = if cut then open_deed text else Says text

abbrev pub heard_in : Bool → Talk → Talk
heard_in cut (Says text) = said_or_done cut text
heard_in cut (Does deed) = Does deed
heard_in cut (Requests word) = Requests word

abbrev pub talk_heard : Message → Talk
talk_heard m = heard_in (may_be_cut m) (talk_of (param 1 m))

-- ---- the nick as the line of a channel shows it: after its sign, where it has one

abbrev pub seat_in : List ℕ → Option Joined → Option Seat
seat_in nick None = None
seat_in nick (Some channel) = seat_of channel.case_map nick channel.seats

abbrev pub without_space : List ℕ → List ℕ
without_space [] = []
without_space (b ∷ sign) = if b == 32 then [] else b ∷ sign

abbrev pub sign_of : Prefixes → Option Seat → List ℕ
sign_of prefixes None = []
sign_of prefixes (Some seat) = without_space (sign_at prefixes (highest seat.modes.0))

-- one sign in the place of another
abbrev pub sign_or : List ℕ → List ℕ → List ℕ
sign_or [] sign = sign
sign_or (b ∷ status) sign = b ∷ status

-- a target that is no joined channel has no nicks; where it tells some of them by a sign, this is
-- shown
abbrev pub shown_nick : ServerState → List ℕ → List ℕ → List ℕ
shown_nick s target nick = sign_or (status_sign s.features target)
    (sign_of s.features.prefixes (seat_in nick (channel_at s target))) ++ nick

-- ---- the line of what one says or does on a target; it calls the user where it has the own nick

abbrev pub talk_line : ServerState → List ℕ → List ℕ → Bool → List ℕ → List (List ℕ) → List ℕ → Act
talk_line s target nick does text tags buffer =
    if does
    then said buffer tags (codes " *") (nick ++ codes " " ++ text) (calls_nick s.nick (plain text))
    else said buffer tags (shown_nick s target nick) text (calls_nick s.nick (plain text))

abbrev pub notify_tag : ServerState → List ℕ → List ℕ
notify_tag s target = if is_channel s.features.chan_types (aimed s target)
    then codes "notify_message"
    else codes "notify_private"

abbrev pub talk_tags : ServerState → Message → Bool → List (List ℕ)
talk_tags s m does =
    if does
    then codes "irc_privmsg" ∷ codes "irc_action" ∷ notify_tag s (param 0 m) ∷ nick_tag m.nick
    ∷ host_tag m ∷ []
    else codes "irc_privmsg" ∷ notify_tag s (param 0 m) ∷ nick_tag m.nick ∷ host_tag m ∷ []

-- ---- on the channel, where it has a buffer, and else on the private buffer of the nick

-- where this is the full name of the private buffer, if it is there
abbrev pub on_private : ServerState → List ℕ → (List ℕ → Act) → Option (List ℕ) → List Act
on_private s nick line there = opened there (codes "private") s nick
    ++ line (name_or there (full_name s.name nick)) ∷ []

abbrev pub on_target : EntryGroups → ServerState → List ℕ → List ℕ → (List ℕ → Act) → List Act
on_target groups s target nick line =
    if is_channel s.features.chan_types (aimed s target)
    then on_found (found groups s (aimed s target)) (λ buffer. line buffer ∷ [])
    else on_private s nick line (found groups s nick)

-- ---- what others say is a line of the server's own buffer where it would open one private buffer
-- too many

abbrev pub heard_privately : EntryGroups → ServerState → List ℕ → (List ℕ → Act) →
    Option (List ℕ) → List Act
heard_privately groups s nick line there = if opens_too_many groups s there
    then line (server_buffer s.name) ∷ [] else on_private s nick line there

abbrev pub heard_on : EntryGroups → ServerState → List ℕ → List ℕ → (List ℕ → Act) → List Act
heard_on groups s target nick line =
    if is_channel s.features.chan_types (aimed s target)
    then on_found (found groups s (aimed s target)) (λ buffer. line buffer ∷ [])
    else heard_privately groups s nick line (found groups s nick)

abbrev pub talk_acts : EntryGroups → ServerState → Message → Bool → List ℕ → List Act
talk_acts groups s m does text = heard_on groups s (param 0 m) m.nick
    (talk_line s (param 0 m) m.nick does text (talk_tags s m does))

abbrev pub acts_of_talk : EntryGroups → ServerState → Message → Talk → List Act
acts_of_talk groups s m (Says text) = talk_acts groups s m false text
acts_of_talk groups s m (Does deed) = talk_acts groups s m true deed
acts_of_talk groups s m (Requests word) = on_server s (codes "irc_ctcp") (codes "--")
    (codes "CTCP " ++ word ++ codes " from " ++ m.nick) ∷ []

abbrev pub privmsg_acts : EntryGroups → ServerState → Message → List Act
privmsg_acts groups s m = acts_of_talk groups s m (talk_heard m)

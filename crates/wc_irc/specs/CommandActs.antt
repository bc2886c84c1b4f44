-- What a command for a server comes to: what is sent and printed, or why it is refused.
use Rattle.std.specs.Prelude.{ℕ, Bool, true, false, not, ◌&&◌, List, [], ◌∷◌, ◌++◌, codes, Option, Some, None}
use Rattle.std.specs.Prelude.{option_map, option_and_then, if◌then◌else◌, ◌||◌, ◌==◌, is_some}
use Rattle.std.specs.Prelude.{nat_le, length, map, bytes_eq}
use Rattle.wc_text.specs.Splits.{word_of, rest_of}
use Rattle.wc_text.specs.Words.{words_of, is_filled}
use Rattle.wc_text.specs.declared.names.Handle.{Handle}
use Rattle.wc_text.specs.declared.names.Pair.{Pair}
use Rattle.wc_ircmsg.specs.declared.message.Message.{Message}
use Rattle.wc_ircmsg.specs.Written.{needs_colon, is_one_line, line_of}
use Rattle.wc_buffers.specs.Calls.{EntryGroups, vars_at}
use Rattle.wc_buffers.specs.Vars.{value_of}
use Rattle.wc_irc.specs.declared.act.Act.{Act}
use Rattle.wc_irc.specs.Autojoin.{message}
use Rattle.wc_irc.specs.ChannelStates.{channel_at}
use Rattle.wc_irc.specs.LongTexts.{action, speech_acts, notify_acts}
use Rattle.wc_irc.specs.NewBuffers.{opened}
use Rattle.wc_irc.specs.SentLines.{refusal, line_acts, both_acts, each_acts}
use Rattle.wc_irc.specs.Servers.{ServerState}
use Rattle.wc_irc.specs.TalkActs.{has_value}
use Rattle.wc_irc.specs.Targets.{found}
use Rattle.wc_irc_texts.specs.Texts.{in_one_line}
use Rattle.wc_irc_words.specs.Typed.{ServerCommand, Joins, Parts, Says, Notices, Queries, Does, Renames, SetsTopic}
use Rattle.wc_irc_words.specs.Typed.{Kicks, SetsModes, AsksNames, Quotes, Talks, Wrong, asked_of}
use Rattle.wc_irc_words.specs.Typed.{Bids, is_target, are_words_to}
use Rattle.wc_irc_words.specs.Everyday.{everyday_name, everyday_command, form_of}
use Rattle.wc_irc_words.specs.declared.everyday.Everyday.{Everyday}
use Rattle.wc_irc_words.specs.declared.everyday.Form.{Form}
use Rattle.wc_irc_words.specs.declared.everyday.Form.TheVariants as form

-- ---- where a command is typed: the buffer of a channel or of a nick, which its variable
-- `channel` names, or another one

pub data Place : Type 0 where
  OnChannel : Option (List ℕ) → Place
  OnPrivate : Option (List ℕ) → Place
  Elsewhere : Place

abbrev pub is_kind : List ℕ → List Pair → Bool
is_kind kind vars = has_value kind (value_of (codes "type") vars)

abbrev pub place_of : List Pair → Place
place_of vars =
    if is_kind (codes "channel") vars then OnChannel (value_of (codes "channel") vars) else (
    if is_kind (codes "private") vars then OnPrivate (value_of (codes "channel") vars)
    else Elsewhere)

abbrev pub place_in : Option (List Pair) → Place
place_in None = Elsewhere
place_in (Some vars) = place_of vars

abbrev pub channel_in : Place → Option (List ℕ)
channel_in (OnChannel channel) = channel
channel_in (OnPrivate nick) = None
channel_in Elsewhere = None

-- the channel or the nick
abbrev pub target_in : Place → Option (List ℕ)
target_in (OnChannel channel) = channel
target_in (OnPrivate nick) = nick
target_in Elsewhere = None

abbrev pub takes_text : Place → Bool
takes_text (OnChannel channel) = true
takes_text (OnPrivate nick) = true
takes_text Elsewhere = false

-- ---- what a command is for

pub data Errand : Type 0 where
  -- it is refused so, whether the link stands or not
  Refuses : List ℕ → Errand
  -- the line of a message is sent
  Sends : Message → Errand
  -- this is said to the target, and is seen to be said
  Speaks : List ℕ → List ℕ → Errand
  -- this is noticed to the target
  Notifies : List ℕ → List ℕ → Errand
  -- a line is sent as it stands
  SendsLine : List ℕ → Errand
  -- the private buffer of the nick is there
  Opens : List ℕ → Errand
  -- the lines of two messages are sent
  SendsBoth : Message → Message → Errand
  -- the line of each message is sent
  SendsEach : List Message → Errand

abbrev pub wrong_arguments : List ℕ → Errand
wrong_arguments name = Refuses (codes "wrong arguments: /" ++ name)

abbrev pub no_channel : Errand
no_channel = Refuses (codes "irc: no channel here")

-- whether a channel or a nick can be sent before these parameters
abbrev pub may_lead : List ℕ → List (List ℕ) → Bool
may_lead target [] = is_one_line target
may_lead target (param ∷ params) = is_one_line target && not (needs_colon target)

-- a message of the channel, with these parameters after it
abbrev pub on_channel : List ℕ → List (List ℕ) → Option (List ℕ) → Errand
on_channel command params None = no_channel
on_channel command params (Some channel) = if may_lead channel params
    then Sends (message command (channel ∷ params)) else no_channel

-- a text to the channel or the nick
abbrev pub to_target : List ℕ → Option (List ℕ) → Errand
to_target text None = no_channel
to_target text (Some target) = if may_lead target (text ∷ []) then Speaks target text
    else no_channel

-- a text that is no command is one of a channel or a nick
abbrev pub talk_at : List ℕ → Place → Errand
talk_at text place = if takes_text place then to_target text (target_in place)
    else Refuses (codes "no text here")

-- a reason as a parameter, where there is one
abbrev pub reason_params : List ℕ → List (List ℕ)
reason_params [] = []
reason_params (b ∷ reason) = (b ∷ reason) ∷ []

-- ---- `/part`: of the channel that the first word names, where it is joined, and else of the
-- buffer's

abbrev pub is_joined : Option ServerState → List ℕ → Bool
is_joined None name = false
is_joined (Some s) name = is_some (channel_at s name)

abbrev pub names_joined : Option ServerState → List ℕ → Bool
names_joined link text = is_target (word_of text) && is_joined link (word_of text)

abbrev pub part_errand : Option ServerState → Place → List ℕ → Errand
part_errand link place text = if names_joined link text
    then Sends (message (codes "PART") (word_of text ∷ reason_params (rest_of text)))
    else on_channel (codes "PART") (reason_params text) (channel_in place)

-- ---- `/topic`: a new one, or none by `-delete`

abbrev pub new_topic : List ℕ → List ℕ
new_topic text = if bytes_eq text (codes "-delete") then [] else text

-- ---- `/mode`: of the channel of the buffer, where its first word begins with `+` or `-`

abbrev pub is_sign : List ℕ → Bool
is_sign [] = false
is_sign (b ∷ text) = (b == 43) || (b == 45)

abbrev pub is_of_channel : Place → List ℕ → Bool
is_of_channel (OnChannel channel) text = is_sign text
is_of_channel (OnPrivate nick) text = false
is_of_channel Elsewhere text = false

abbrev pub first_word : List (List ℕ) → List ℕ
first_word [] = []
first_word (word ∷ words) = word

abbrev pub own_modes : Place → List (List ℕ) → Errand
own_modes place words = if nat_le (length words) 14
    then on_channel (codes "MODE") words (channel_in place) else wrong_arguments (codes "mode")

abbrev pub mode_errand : Place → List (List ℕ) → Errand
mode_errand place words = if is_of_channel place (first_word words) then own_modes place words
    else Sends (message (codes "MODE") words)

-- ---- everyday commands, each by its form

-- a command with the words after it
abbrev pub words_line : List ℕ → List ℕ → List ℕ
words_line command [] = command
words_line command (b ∷ text) = command ++ 32 ∷ (b ∷ text)

-- a text as the last parameter
abbrev pub text_line : List ℕ → List ℕ → List ℕ
text_line front [] = front
text_line front (b ∷ text) = front ++ 32 ∷ 58 ∷ (b ∷ text)

-- what is done with the channel of the buffer, where it can be sent before others
abbrev pub with_channel : (List ℕ → Errand) → Option (List ℕ) → Errand
with_channel errand None = no_channel
with_channel errand (Some channel) = if may_lead channel ([] ∷ []) then errand channel
    else no_channel

-- a nick and the channel that is named after it, or else that of the buffer
abbrev pub nick_and_channel : List ℕ → Option (List ℕ) → List ℕ → List ℕ → Errand
nick_and_channel command here nick [] = with_channel
    (λ channel. Sends (message command (nick ∷ channel ∷ []))) here
nick_and_channel command here nick (b ∷ channel) =
    Sends (message command (nick ∷ (b ∷ channel) ∷ []))

-- what modes begin with, where they are added or taken away
abbrev pub mode_sign : Bool → ℕ
mode_sign true = 43
mode_sign false = 45

-- the letter once for each name, after its sign
abbrev pub mode_letters : Bool → ℕ → List (List ℕ) → List ℕ
mode_letters adds letter names = mode_sign adds ∷ map (λ name. letter) names

abbrev pub mode_params : Bool → ℕ → List ℕ → List (List ℕ) → List (List ℕ)
mode_params adds letter channel names = channel ∷ mode_letters adds letter names ∷ names

-- names four by four, of which the last may be fewer
abbrev pub fours : List (List ℕ) → List (List (List ℕ))
fours [] = []
fours (a ∷ []) = (a ∷ []) ∷ []
fours (a ∷ b ∷ []) = (a ∷ b ∷ []) ∷ []
fours (a ∷ b ∷ c ∷ []) = (a ∷ b ∷ c ∷ []) ∷ []
fours (a ∷ b ∷ c ∷ d ∷ names) = (a ∷ b ∷ c ∷ d ∷ []) ∷ fours names

-- a line has the modes of four names at most
abbrev pub modes_of : Bool → ℕ → List (List ℕ) → List ℕ → Errand
modes_of adds letter names channel = SendsEach
    (map (λ params. message (codes "MODE") params)
    (map (mode_params adds letter channel) (fours names)))

-- a nick is kept out and taken out of the channel
abbrev pub ban_and_kick : List ℕ → List ℕ → List ℕ → Errand
ban_and_kick nick reason channel =
    SendsBoth (message (codes "MODE") (channel ∷ codes "+b" ∷ (nick ++ codes "!*@*") ∷ []))
    (message (codes "KICK") (channel ∷ nick ∷ reason_params reason))

-- the channel is left and joined again
abbrev pub part_and_join : List ℕ → List ℕ → Errand
part_and_join reason channel = SendsBoth (message (codes "PART") (channel ∷ reason_params reason))
    (message (codes "JOIN") (channel ∷ []))

-- a request between clients
abbrev pub request : List ℕ → List ℕ
request text = 1 ∷ (text ++ 1 ∷ [])

-- whether what comes after the name has the form
abbrev pub is_right : Form → List ℕ → Bool
is_right form.Words text = true
is_right form.SomeWords text = is_filled text
is_right form.Text text = true
is_right form.WordAndText text = is_target (word_of text)
is_right form.NickAndChannel text = is_target (word_of text)
    && not (is_filled (rest_of (rest_of text)))
is_right (form.Modes adds letter) text = are_words_to 100 (words_of text)
is_right form.BanAndKick text = is_target (word_of text)
is_right form.Request text = is_target (word_of text) && is_filled (rest_of text)
is_right form.PartAndJoin text = true

-- what a command of this form is for, where what comes after its name has it
abbrev pub form_errand : Place → Form → List ℕ → List ℕ → Errand
form_errand place form.Words command text = SendsLine (words_line command text)
form_errand place form.SomeWords command text = SendsLine (words_line command text)
form_errand place form.Text command text = SendsLine (text_line command text)
form_errand place form.WordAndText command text =
    SendsLine (text_line (words_line command (word_of text)) (rest_of text))
form_errand place form.NickAndChannel command text = nick_and_channel command (channel_in place)
    (word_of text) (word_of (rest_of text))
form_errand place (form.Modes adds letter) command text = with_channel
    (modes_of adds letter (words_of text)) (channel_in place)
form_errand place form.BanAndKick command text =
    with_channel (ban_and_kick (word_of text) (rest_of text)) (channel_in place)
form_errand place form.Request command text = Speaks (word_of text) (request (rest_of text))
form_errand place form.PartAndJoin command text =
    with_channel (part_and_join text) (channel_in place)

unfoldable pub everyday_errand : Place → Everyday → List ℕ → Errand
everyday_errand place word text = if is_right (form_of word) text
    then form_errand place (form_of word) (everyday_command word) text
    else wrong_arguments (everyday_name word)

-- ---- what each command is for

-- what says something to others, or is to
abbrev pub said_errand : Place → ServerCommand → Option Errand
said_errand place (Says target text) = Some (Speaks target text)
said_errand place (Notices target text) = Some (Notifies target text)
said_errand place (Queries nick) = Some (Opens nick)
said_errand place (Does deed) = Some (to_target (action deed) (target_in place))
said_errand place (Talks text) = Some (talk_at text place)
said_errand place _ = None

-- what comes into a channel, leaves it, or asks who is there
abbrev pub channel_errand : Option ServerState → Place → ServerCommand → Option Errand
channel_errand link place (Joins text) = Some (Sends (message (codes "JOIN") (words_of text)))
channel_errand link place (Parts text) = Some (part_errand link place text)
channel_errand link place AsksNames = Some (on_channel (codes "NAMES") [] (channel_in place))
channel_errand link place _ = None

-- what changes a channel
abbrev pub change_errand : Place → ServerCommand → Option Errand
change_errand place (SetsTopic topic) =
    Some (on_channel (codes "TOPIC") (new_topic topic ∷ []) (channel_in place))
change_errand place (Kicks nick reason) =
    Some (on_channel (codes "KICK") (nick ∷ reason_params reason) (channel_in place))
change_errand place (SetsModes words) = Some (mode_errand place words)
change_errand place _ = None

-- others; none are those that make, delete, connect and disconnect servers
abbrev pub other_errand : Place → ServerCommand → Option Errand
other_errand place (Renames nick) = Some (Sends (message (codes "NICK") (nick ∷ [])))
other_errand place (Bids word text) = Some (everyday_errand place word text)
other_errand place (Quotes line) = Some (SendsLine line)
other_errand place (Wrong name) = Some (wrong_arguments name)
other_errand place _ = None

abbrev pub or_other : Option Errand → Option Errand → Option Errand
or_other None other = other
or_other (Some errand) other = Some errand

-- None for a command that is not about a buffer.
unfoldable pub errand_of : Option ServerState → Place → ServerCommand → Option Errand
errand_of link place command = or_other (said_errand place command)
    (or_other (channel_errand link place command)
    (or_other (change_errand place command) (other_errand place command)))

-- ---- what it comes to

-- what follows where a link stands, which is this server's
abbrev pub if_linked : EntryGroups → Option ServerState → (ServerState → List Act) → List Act
if_linked groups None acts = refusal groups (codes "irc: not connected")
if_linked groups (Some s) acts = acts s

unfoldable pub acts_of_errand : EntryGroups → Option ServerState → Errand → List Act
acts_of_errand groups link (Refuses text) = refusal groups text
acts_of_errand groups link (Sends m) = if_linked groups link (λ s. line_acts groups (line_of m))
acts_of_errand groups link (Speaks target text) = if_linked groups link
    (λ s. speech_acts groups s target text)
acts_of_errand groups link (Notifies target text) = if_linked groups link
    (λ s. notify_acts groups s target text)
acts_of_errand groups link (SendsLine line) = if_linked groups link (λ s. line_acts groups line)
acts_of_errand groups link (Opens nick) = if_linked groups link
    (λ s. opened (found groups s nick) (codes "private") s nick)
acts_of_errand groups link (SendsBoth m n) = if_linked groups link
    (λ s. both_acts groups (line_of m) (line_of n))
acts_of_errand groups link (SendsEach ms) = if_linked groups link (λ s. each_acts groups ms)

-- what a line that is typed there comes to, where this link stands; None where it is not about a
-- buffer
abbrev pub acts_of_line : EntryGroups → Option ServerState → Place → List ℕ → Option (List Act)
acts_of_line groups link place line =
    option_and_then
    (λ command. option_map (acts_of_errand groups link) (errand_of link place command))
    (asked_of line)

-- ---- the link of a buffer is that of the server that its variable names

abbrev pub linked : ServerState → List Pair → Option ServerState
linked s vars = if s.is_connected && has_value s.name (value_of (codes "server") vars)
    then Some s else None

abbrev pub linked_in : ServerState → Option (List Pair) → Option ServerState
linked_in s None = None
linked_in s (Some vars) = linked s vars

-- CR, LF and NUL are taken out of what is typed before anything is read
unfoldable pub acts_of_typed : EntryGroups → ServerState → Handle → List ℕ → Option (List Act)
acts_of_typed groups s buffer text = acts_of_line groups (linked_in s (vars_at buffer groups))
    (place_in (vars_at buffer groups)) (in_one_line text)

-- the same on a buffer of no server
unfoldable pub acts_of_unlinked : EntryGroups → Handle → List ℕ → Option (List Act)
acts_of_unlinked groups buffer text = acts_of_line groups None (place_in (vars_at buffer groups))
    (in_one_line text)

-- What a command comes to, as the code has it, and which texts can be sent.
use Rattle.std.specs.Prelude.{◌≡◌, ◌≤◌, ℕ, true, false, List, ◌∷◌, length, Option}
use Rattle.std.specs.Prelude.{Some, None, [], Bool, All, map, if◌then◌else◌}
use Rattle.std.specs.Borrow.{Bor}
use Rattle.std.specs.List.{list_all, AllByRecursion}
use Rattle.std.specs.Option.{option_copied}
use Rattle.std.specs.Str.{IsUtf8}
use Rattle.wc_text.specs.Words.{words_of}
use Rattle.wc_ircmsg.specs.declared.message.Message.{Message}
use Rattle.wc_ircmsg.specs.Utf8.{AreUtf8Texts}
use Rattle.wc_ircmsg.specs.Written.{IsWritable, are_words, needs_colon, is_one_line}
use Rattle.wc_irc.specs.declared.errand.Errand.{Errand as Lent}
use Rattle.wc_irc.specs.declared.errand.Errand.TheVariants as lent
use Rattle.wc_irc.specs.declared.place.Place.{Place as LentPlace}
use Rattle.wc_irc.specs.declared.place.Place.TheVariants as places
use Rattle.wc_irc.specs.declared.state.State.{State}
use Rattle.wc_irc.specs.Autojoin.{message}
use Rattle.wc_irc.specs.CommandActs.{Place, OnChannel, OnPrivate, Elsewhere, Errand, Refuses}
use Rattle.wc_irc.specs.CommandActs.{Sends, Speaks, Notifies, SendsLine, Opens, SendsBoth, SendsEach}
use Rattle.wc_irc.specs.CommandActs.{reason_params, may_lead}
use Rattle.wc_irc.specs.LongTexts.{text_to, wrapped}
use Rattle.wc_irc.specs.Servers.{ServerState}
use Rattle.wc_irc.specs.ServersSeen.{seen}
use Rattle.wc_irc_words.specs.Typed.{ServerCommand, AddsServer, DeletesServer, Connects, Disconnects}
use Rattle.wc_irc_words.specs.Typed.{Joins, Parts, Says, Notices, Queries, Does, Renames, SetsTopic}
use Rattle.wc_irc_words.specs.Typed.{Kicks, SetsModes, AsksNames, Quotes, Talks, Wrong, Bids}

abbrev pub place_seen : LentPlace → Place
place_seen (places.Channel channel) = OnChannel (option_copied channel)
place_seen (places.Private nick) = OnPrivate (option_copied nick)
place_seen places.Elsewhere = Elsewhere

abbrev pub errand_seen : Lent → Errand
errand_seen (lent.Refuse text) = Refuses text
errand_seen (lent.Send command params) = Sends (message command.now params)
errand_seen (lent.Speak target text) = Speaks target.now text
errand_seen (lent.Notify target text) = Notifies target.now text.now
errand_seen (lent.Line line) = SendsLine line
errand_seen (lent.SendBoth first params second others) =
    SendsBoth (message first.now params) (message second.now others)
errand_seen (lent.SendEach command each) =
    SendsEach (map (λ params. message command.now params) each)
errand_seen (lent.Open nick) = Opens nick.now

-- a channel that can be sent before others
abbrev pub leading_in : Option (List ℕ) → Option (List ℕ)
leading_in None = None
leading_in (Some channel) = if may_lead channel ([] ∷ []) then Some channel else None

abbrev pub link_seen : Option (Bor State) → Option ServerState
link_seen None = None
link_seen (Some state) = Some (seen state.now)

-- ---- what is read of one line of text

-- text without CR, LF and NUL
pub record IsLine (text : List ℕ) : Type 0 where
  pub one : is_one_line text ≡ true
  pub utf8 : IsUtf8 text

-- a word that may be before the last parameter
abbrev pub IsLead : List ℕ → Type 0
IsLead word = (is_one_line word ≡ true) × (needs_colon word ≡ false)

-- a text that can be sent to a target
pub record IsSendable (target text : List ℕ) : Type 0 where
  pub lead : IsLead target
  pub utf8 : IsUtf8 target
  pub line : IsLine text

-- parts of a text that can be sent to a target one by one
abbrev pub AreSendable : List ℕ → List ℕ → Bool → List (List ℕ) → Type 0
AreSendable command target does texts =
    All (λ text. IsWritable (text_to command target (wrapped does text))) texts

-- ---- what can be done as it stands: lines that can be written, and names of buffers that are text

-- a message that can be written, and is read back
abbrev pub IsSent : Message → Type 0
IsSent m = IsWritable m × AreUtf8Texts m.params

abbrev pub IsFit : Errand → Type 0
IsFit (Refuses text) = Unit {0}
IsFit (Sends m) = IsSent m
IsFit (Speaks target text) = IsSendable target text
IsFit (Notifies target text) = IsSendable target text
IsFit (SendsLine line) = is_one_line line ≡ true
IsFit (Opens nick) = IsUtf8 nick
IsFit (SendsBoth m n) = IsSent m × IsSent n
IsFit (SendsEach ms) = AllByRecursion IsSent ms

-- parameters of messages of a command that can be written
abbrev pub AreWritable : List ℕ → List (List (List ℕ)) → Type 0
AreWritable command each = AllByRecursion (λ params. IsWritable (message command params)) each

abbrev pub IsFitIn : Option Errand → Type 0
IsFitIn None = Unit {0}
IsFitIn (Some errand) = IsFit errand

-- ---- commands that were read

-- words that can be the parameters of a line
abbrev pub AreReadyWords : List (List ℕ) → Type 0
AreReadyWords words = (length words ≤ 15) × (are_words words ≡ true)
    × (list_all is_one_line words ≡ true) × AreUtf8Texts words

abbrev pub IsReady : ServerCommand → Type 0
IsReady (AddsServer name address tls) = Unit {0}
IsReady (DeletesServer name) = Unit {0}
IsReady (Connects name) = Unit {0}
IsReady (Disconnects name) = Unit {0}
IsReady (Joins text) = AreReadyWords (words_of text)
IsReady (Parts text) = IsLine text
IsReady (Says target text) = IsSendable target text
IsReady (Notices target text) = IsSendable target text
IsReady (Queries nick) = IsUtf8 nick
IsReady (Does deed) = IsLine deed
IsReady (Renames nick) = IsLine nick
IsReady (SetsTopic topic) = IsLine topic
IsReady (Kicks nick reason) = (are_words (nick ∷ reason_params reason) ≡ true)
    × IsLine nick × IsLine reason
IsReady (SetsModes words) = AreReadyWords words
IsReady AsksNames = Unit {0}
IsReady (Bids word text) = IsLine text
IsReady (Quotes line) = IsLine line
IsReady (Talks text) = IsLine text
IsReady (Wrong name) = Unit {0}

abbrev pub IsReadyIn : Option ServerCommand → Type 0
IsReadyIn None = Unit {0}
IsReadyIn (Some command) = IsReady command

-- the channel or nick that a buffer's variable names is text
abbrev pub IsUtf8In : Option (List ℕ) → Type 0
IsUtf8In None = Unit {0}
IsUtf8In (Some text) = IsUtf8 text

abbrev pub IsPlaceUtf8 : Place → Type 0
IsPlaceUtf8 (OnChannel channel) = IsUtf8In channel
IsPlaceUtf8 (OnPrivate nick) = IsUtf8In nick
IsPlaceUtf8 Elsewhere = Unit {0}

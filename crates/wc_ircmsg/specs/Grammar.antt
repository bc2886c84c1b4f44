-- The grammar of IRC lines, after RFC 1459 and RFC 2812.
use Rattle.std.specs.Prelude.{◌≡◌, ℕ, ◌+◌, false, List, ◌++◌, Option, length, IsTrue}
use Rattle.wc_text.specs.Lossy.{lossy_of}
use Rattle.wc_ircmsg.specs.declared.message.Message.{Message}
use Rattle.wc_ircmsg.specs.declared.message.LineRefused.{LineRefused}
use Rattle.wc_ircmsg.specs.declared.message.LineRefused.TheVariants as Refusals
use Rattle.wc_text.specs.Splits.{BeginsWithout, blanks, WordAndRest}
use Rattle.wc_ircmsg.specs.Words.{Marked}
use Rattle.wc_ircmsg.specs.Commands.{is_command}
use Rattle.wc_ircmsg.specs.Sources.{or_empty, Names}
use Rattle.wc_ircmsg.specs.Params.{SpellsParams}

-- What is before the command: blanks, a first word of tags or none, which `@` marks, and a prefix
-- or none, which `:` marks and which names the source. The call is what follows.
pub record Front (text told source call : List ℕ) : Type 0 where
  pub margin : ℕ
  pub body : List ℕ
  pub spelled : text ≡ blanks margin ++ body
  pub bare : BeginsWithout 32 body
  pub tags : Option (List ℕ)
  pub untagged : List ℕ
  pub tagged : Marked 64 body tags untagged
  pub told_is : told ≡ or_empty tags
  pub prefix : Option (List ℕ)
  pub prefixed : Marked 58 untagged prefix call
  pub source_is : source ≡ or_empty prefix

-- The message that a text spells: after its front a command, and at most 15 parameters.
pub record SpellsLine (text : List ℕ) (message : Message) : Type 0 where
  pub source : List ℕ
  pub call : List ℕ
  pub rest : List ℕ
  pub front : Front text message.tags source call
  pub named : Names source message.nick message.user message.host
  pub called : WordAndRest call message.command rest
  pub readable : IsTrue (is_command message.command)
  pub params : SpellsParams 15 rest message.params

-- a text of blanks alone
abbrev pub IsBlank : List ℕ → Type 0
IsBlank text = (n : ℕ) × (text ≡ blanks n)

-- A text that is not blank has no command at this place, which is where its call begins.
pub record LacksCommand (text : List ℕ) (place : ℕ) : Type 0 where
  pub filled : IsBlank text → ⊥
  pub tags : List ℕ
  pub source : List ℕ
  pub call : List ℕ
  pub word : List ℕ
  pub rest : List ℕ
  pub front : Front text tags source call
  pub called : WordAndRest call word rest
  pub unreadable : is_command word ≡ false
  pub place_is : place + length call ≡ length text

-- why a text spells no message
abbrev pub RefusesLine : List ℕ → LineRefused → Type 0
RefusesLine text Refusals.Empty = IsBlank text
RefusesLine text (Refusals.BadCommand place) = LacksCommand text place
RefusesLine text Refusals.NoMemory = ⊥

-- the message of a line of any bytes, which is made text first
abbrev pub ReadsLine : List ℕ → Message → Type 0
ReadsLine line message = SpellsLine (lossy_of line) message

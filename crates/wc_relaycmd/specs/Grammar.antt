-- The grammar of request lines.
use Rattle.std.specs.Prelude.{◌≡◌, ◌≢◌, ℕ, List, [], ◌∷◌, ◌++◌, Bool, Option, Some, None}
use Rattle.std.specs.Prelude.{codes, ℤ}
use Rattle.std.specs.Str.{IsUtf8, bytes_eq}
use Rattle.std.specs.List.{find}
use Rattle.wc_relaycmd.specs.declared.word.Word.{Word}
use Rattle.wc_relaycmd.specs.declared.word.Word.TheVariants as Words
use Rattle.wc_relaycmd.specs.declared.request.Command.{Command}
use Rattle.wc_relaycmd.specs.declared.request.Command.TheVariants as Commands
use Rattle.wc_relaycmd.specs.declared.request.Request.{Request}
use Rattle.wc_text.specs.Integer.{integer_of}
use Rattle.wc_text.specs.Splits.{Lacks, blanks, WordAndRest}
use Rattle.wc_relaycmd.specs.Lists.{pieces_of, pairs_of}
use Rattle.wc_relaycmd.specs.Escapes.{arguments_meant}

-- how each command is written
abbrev pub name_of : Word → List ℕ
name_of Words.Handshake = codes "handshake"
name_of Words.Init = codes "init"
name_of Words.Hdata = codes "hdata"
name_of Words.Info = codes "info"
name_of Words.Infolist = codes "infolist"
name_of Words.Nicklist = codes "nicklist"
name_of Words.Input = codes "input"
name_of Words.Completion = codes "completion"
name_of Words.Sync = codes "sync"
name_of Words.Desync = codes "desync"
name_of Words.Test = codes "test"
name_of Words.Ping = codes "ping"
name_of Words.Quit = codes "quit"

abbrev pub all_words : List Word
all_words =
    Words.Handshake ∷ Words.Init ∷ Words.Hdata ∷ Words.Info ∷ Words.Infolist ∷ Words.Nicklist ∷
    Words.Input ∷
    Words.Completion ∷ Words.Sync ∷ Words.Desync ∷ Words.Test ∷ Words.Ping ∷ Words.Quit ∷ []

-- the command of that name
abbrev pub word_named : List ℕ → Option Word
word_named text = find (λ word. bytes_eq text (name_of word)) all_words

-- an id has no `)` and does not begin with `_`
abbrev pub IsId : List ℕ → Type 0
IsId [] = Unit {0}
IsId (b ∷ id) = (b ≢ 95) × Lacks 41 (b ∷ id)

-- An id is in parentheses; where there is nothing, the id is empty.
abbrev pub IsTag : List ℕ → List ℕ → Type 0
IsTag [] id = id ≡ []
IsTag (b ∷ tag) id = (b ≡ 40) × (tag ≡ id ++ 41 ∷ []) × IsId id

-- A line is blanks, an id or none, blanks, the name of a command, and after blanks its arguments.
pub record Calls (line id : List ℕ) (word : Word) (arguments : List ℕ) : Type 0 where
  pub margin : ℕ
  pub tag : List ℕ
  pub gap : ℕ
  pub call : List ℕ
  pub spelled : line ≡ blanks margin ++ (tag ++ (blanks gap ++ call))
  pub tagged : IsTag tag id
  pub called : WordAndRest call (name_of word) arguments

-- a line that is text and calls a command
pub record HasCommand (line : List ℕ) : Type 0 where
  pub utf8 : IsUtf8 line
  pub id : List ℕ
  pub word : Word
  pub arguments : List ℕ
  pub calls : Calls line id word arguments

-- A text is two words, of which the second may be empty, and what follows them.
pub record TwoParts (text first second rest : List ℕ) : Type 0 where
  pub filled : first ≢ []
  pub text_after : List ℕ
  pub front : WordAndRest text first text_after
  pub back : WordAndRest text_after second rest

-- what follows the buffers of `sync` and `desync`: one word of options, or none
abbrev pub AreOptions : List ℕ → Option (List (List ℕ)) → Type 0
AreOptions second None = second ≡ []
AreOptions second (Some options) = (second ≢ []) × (options ≡ pieces_of second)

-- the buffers and the options of `sync` and `desync`
abbrev pub Selects : List ℕ → List (List ℕ) → Option (List (List ℕ)) → Type 0
Selects [] buffers options = (buffers ≡ codes "*" ∷ []) × (options ≡ None)
Selects (b ∷ text) buffers options = (first second rest : List ℕ) ×
    TwoParts (b ∷ text) first second rest × (buffers ≡ pieces_of first) × AreOptions second options

-- `nicklist` alone, or with a buffer
abbrev pub AsksNicks : List ℕ → Command → Type 0
AsksNicks [] command = command ≡ Commands.Nicklist None
AsksNicks (b ∷ text) command = (buffer rest : List ℕ) × WordAndRest (b ∷ text) buffer rest
    × (command ≡ Commands.Nicklist (Some buffer))

-- what a command's arguments ask
unfoldable pub Asks : Word → List ℕ → Command → Type 0
Asks Words.Handshake text command = command ≡ Commands.Handshake (pairs_of text)
Asks Words.Init text command = (text ≢ []) × (command ≡ Commands.Init (pairs_of text))
Asks Words.Hdata text command = (path keys rest : List ℕ) × TwoParts text path keys rest
    × (command ≡ Commands.Hdata path keys)
Asks Words.Info text command = (name rest : List ℕ) × (name ≢ []) × WordAndRest text name rest
    × (command ≡ Commands.Info name)
Asks Words.Infolist text command = (name pointer following argument rest : List ℕ) ×
    TwoParts text name pointer following × WordAndRest following argument rest
    × (command ≡ Commands.Infolist name argument)
Asks Words.Nicklist text command = AsksNicks text command
Asks Words.Input text command = (buffer typed : List ℕ) × (buffer ≢ []) × (typed ≢ []) ×
    Lacks 32 buffer × (text ≡ buffer ++ 32 ∷ typed) × (command ≡ Commands.Input buffer typed)
Asks Words.Completion text command = (buffer number typed : List ℕ) × (position : ℤ) ×
    TwoParts text buffer number typed × (integer_of number ≡ Some position)
    × (command ≡ Commands.Completion buffer position typed)
Asks Words.Sync text command = (buffers : List (List ℕ)) × (options : Option (List (List ℕ))) ×
    Selects text buffers options × (command ≡ Commands.Sync buffers options)
Asks Words.Desync text command = (buffers : List (List ℕ)) × (options : Option (List (List ℕ))) ×
    Selects text buffers options × (command ≡ Commands.Desync buffers options)
Asks Words.Test text command = command ≡ Commands.Test
Asks Words.Ping text command = command ≡ Commands.Ping text
Asks Words.Quit text command = command ≡ Commands.Quit

-- The request that a line spells: its id, and what the arguments of its command ask, whose escapes
-- are read first where they are on.
pub record ReadsRequest (line : List ℕ) (escaped : Bool) (request : Request) : Type 0 where
  pub utf8 : IsUtf8 line
  pub word : Word
  pub arguments : List ℕ
  pub calls : Calls line request.id word arguments
  pub asks : Asks word (arguments_meant escaped arguments) request.command

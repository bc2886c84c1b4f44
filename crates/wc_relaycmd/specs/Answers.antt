-- The request of a line, computed.
use Rattle.std.specs.Prelude.{ℕ, List, [], ◌∷◌, Bool, Option, Some, None, option_map}
use Rattle.std.specs.Prelude.{option_and_then, codes, if◌then◌else◌, ◌==◌}
use Rattle.std.specs.Borrow.{Bor}
use Rattle.std.specs.Str.{is_utf8}
use Rattle.wc_relaycmd.specs.declared.word.Word.{Word}
use Rattle.wc_relaycmd.specs.declared.word.Word.TheVariants as Words
use Rattle.wc_relaycmd.specs.declared.line.Call.{Call}
use Rattle.wc_relaycmd.specs.declared.request.Command.{Command}
use Rattle.wc_relaycmd.specs.declared.request.Command.TheVariants as Commands
use Rattle.wc_relaycmd.specs.declared.request.Request.{Request}
use Rattle.wc_text.specs.Integer.{integer_of}
use Rattle.wc_text.specs.Splits.{before, text_after, past, word_of, rest_of}
use Rattle.wc_relaycmd.specs.Lists.{pieces_of, pairs_of}
use Rattle.wc_relaycmd.specs.Escapes.{arguments_meant}
use Rattle.wc_relaycmd.specs.Grammar.{word_named}

-- this value, where the text is not empty
abbrev pub if_filled : {A : Type 0} → List ℕ → A → Option A
if_filled [] value = None
if_filled (b ∷ text) value = Some value

-- the first word of the text, where the text is not empty
abbrev pub leading_of : List ℕ → Option (List ℕ)
leading_of text = if_filled text (word_of text)

abbrev pub second_of : List ℕ → List ℕ
second_of text = word_of (rest_of text)

abbrev pub init_of : List ℕ → Option Command
init_of text = if_filled text (Commands.Init (pairs_of text))

abbrev pub hdata_of : List ℕ → Option Command
hdata_of text = if_filled text (Commands.Hdata (word_of text) (second_of text))

-- the word after the first two
abbrev pub third_of : List ℕ → List ℕ
third_of text = word_of (rest_of (rest_of text))

abbrev pub infolist_of : List ℕ → Option Command
infolist_of text = if_filled text (Commands.Infolist (word_of text) (third_of text))

abbrev pub input_of : List ℕ → Option Command
input_of text = option_and_then (λ typed. if_filled typed (Commands.Input (word_of text) typed))
    (text_after 32 text)

unfoldable pub completion_of : List ℕ → Option Command
completion_of [] = None
completion_of (b ∷ text) =
    option_map (λ position. Commands.Completion (word_of (b ∷ text)) position
    (rest_of (rest_of (b ∷ text)))) (integer_of (second_of (b ∷ text)))

abbrev pub buffers_of : List ℕ → List (List ℕ)
buffers_of [] = codes "*" ∷ []
buffers_of (b ∷ text) = pieces_of (word_of (b ∷ text))

abbrev pub options_of : List ℕ → Option (List (List ℕ))
options_of text = if_filled (second_of text) (pieces_of (second_of text))

-- what a command's arguments ask
unfoldable pub command_of : Word → List ℕ → Option Command
command_of Words.Handshake text = Some (Commands.Handshake (pairs_of text))
command_of Words.Init text = init_of text
command_of Words.Hdata text = hdata_of text
command_of Words.Info text = option_map (λ name. Commands.Info name) (leading_of text)
command_of Words.Infolist text = infolist_of text
command_of Words.Nicklist text = Some (Commands.Nicklist (leading_of text))
command_of Words.Input text = input_of text
command_of Words.Completion text = completion_of text
command_of Words.Sync text = Some (Commands.Sync (buffers_of text) (options_of text))
command_of Words.Desync text = Some (Commands.Desync (buffers_of text) (options_of text))
command_of Words.Test text = Some Commands.Test
command_of Words.Ping text = Some (Commands.Ping text)
command_of Words.Quit text = Some Commands.Quit

-- an id up to its `)`, and what follows it
abbrev pub named_tag : List ℕ → Option (List ℕ × List ℕ)
named_tag [] = None
named_tag (b ∷ text) = if b == 95 then None else option_map (λ rest. (before 41 (b ∷ text), rest))
    (text_after 41 (b ∷ text))

-- the id of a text, empty where it has none, and what follows it
abbrev pub tag_of : List ℕ → Option (List ℕ × List ℕ)
tag_of [] = Some ([], [])
tag_of (b ∷ text) = if b == 40 then named_tag text else Some ([], b ∷ text)

abbrev pub tag_seen : Bor (List ℕ) × Bor (List ℕ) → List ℕ × List ℕ
tag_seen tag = (tag.0.now, tag.1.now)

-- what a line calls
pub record Called : Type 0 where
  pub id : List ℕ
  pub word : Word
  pub arguments : List ℕ

abbrev pub call_named : Call → Called
call_named call = record { id = call.id.now; word = call.word; arguments = call.arguments.now }

abbrev pub called_by : List ℕ → List ℕ → Option Called
called_by id text = option_map (λ word. record { id = id; word = word; arguments = rest_of text })
    (word_named (word_of text))

-- the call of a line that is text
unfoldable pub call_of : List ℕ → Option Called
call_of line = option_and_then (λ (tag : List ℕ × List ℕ). called_by tag.0 (past 32 tag.1))
    (tag_of (past 32 line))

-- the request of a call
unfoldable pub asked_by : Bool → Called → Option Request
asked_by escaped call = option_map (λ command. record { id = call.id; command = command })
    (command_of call.word (arguments_meant escaped call.arguments))

-- the request of a line, where it has one
unfoldable pub request_of : Bool → List ℕ → Option Request
request_of escaped line = if is_utf8 line then option_and_then (asked_by escaped)
    (call_of line) else None

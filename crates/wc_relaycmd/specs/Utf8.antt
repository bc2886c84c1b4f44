-- Requests that hold text alone.
use Rattle.std.specs.Prelude.{ℕ, List, [], ◌∷◌, Option, Some, None}
use Rattle.std.specs.Str.{IsUtf8}
use Rattle.wc_text.specs.declared.names.Pair.{Pair}
use Rattle.wc_relaycmd.specs.declared.request.Command.{Command}
use Rattle.wc_relaycmd.specs.declared.request.Command.TheVariants as Commands
use Rattle.wc_relaycmd.specs.declared.request.Request.{Request}

abbrev pub AreUtf8Words : List (List ℕ) → Type 0
AreUtf8Words [] = Unit {0}
AreUtf8Words (text ∷ texts) = IsUtf8 text × AreUtf8Words texts

abbrev pub PairsUtf8 : List Pair → Type 0
PairsUtf8 [] = Unit {0}
PairsUtf8 (pair ∷ pairs) = (IsUtf8 pair.name × IsUtf8 pair.value) × PairsUtf8 pairs

abbrev pub OptionsUtf8 : Option (List (List ℕ)) → Type 0
OptionsUtf8 None = Unit {0}
OptionsUtf8 (Some texts) = AreUtf8Words texts

abbrev pub OptionUtf8 : Option (List ℕ) → Type 0
OptionUtf8 None = Unit {0}
OptionUtf8 (Some text) = IsUtf8 text

-- each text of a command is UTF-8
unfoldable pub CommandUtf8 : Command → Type 0
CommandUtf8 (Commands.Handshake pairs) = PairsUtf8 pairs
CommandUtf8 (Commands.Init pairs) = PairsUtf8 pairs
CommandUtf8 (Commands.Hdata path keys) = IsUtf8 path × IsUtf8 keys
CommandUtf8 (Commands.Info name) = IsUtf8 name
CommandUtf8 (Commands.Infolist name argument) = IsUtf8 name × IsUtf8 argument
CommandUtf8 (Commands.Nicklist buffer) = OptionUtf8 buffer
CommandUtf8 (Commands.Input buffer text) = IsUtf8 buffer × IsUtf8 text
CommandUtf8 (Commands.Completion buffer position text) = IsUtf8 buffer × IsUtf8 text
CommandUtf8 (Commands.Sync buffers options) = AreUtf8Words buffers × OptionsUtf8 options
CommandUtf8 (Commands.Desync buffers options) = AreUtf8Words buffers × OptionsUtf8 options
CommandUtf8 Commands.Test = Unit {0}
CommandUtf8 (Commands.Ping text) = IsUtf8 text
CommandUtf8 Commands.Quit = Unit {0}

-- each text of a request is UTF-8
pub record RequestIsUtf8 (request : Request) : Type 0 where
  pub id : IsUtf8 request.id
  pub command : CommandUtf8 request.command

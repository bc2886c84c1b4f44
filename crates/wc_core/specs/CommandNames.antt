-- Which names are those of commands.
use Rattle.std.specs.Prelude.{ℕ, Bool, true, false, not, ◌||◌, List, [], is_some}
use Rattle.std.specs.List.{list_any}
use Rattle.std.specs.Str.{bytes_eq}
use Rattle.wc_text.specs.Words.{words_of}
use Rattle.wc_irc_words.specs.Typed.{command_of, is_called}
use Rattle.wc_core.specs.Typed.{TypedCommand, Others, command}
use Rattle.wc_core.specs.Forms.{core_text, server_text}

abbrev pub is_unknown : TypedCommand → Bool
is_unknown (Others text) = true
is_unknown _ = false

-- whether the core or servers know the command of a name, with nothing after it
abbrev pub is_known : List ℕ → Bool
is_known name = not (is_unknown (command name [])) || is_some (command_of name [])

-- whether a name is among these: those of the core as they are written, and those that servers know in
-- letters of any case
abbrev pub is_named : List ℕ → Bool
is_named name = list_any (bytes_eq name) (words_of core_text)
    || list_any (is_called name) (words_of server_text)

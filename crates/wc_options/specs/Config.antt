-- The file of options: what its lines make of the options, and how options are written.
use Rattle.std.specs.Prelude.{ℕ, Bool, ◌+◌, ◌||◌, bytes_eq, List, []}
use Rattle.std.specs.Prelude.{◌∷◌, ◌++◌, Option, Some, None, Result, Ok, Err, is_none, codes, take}
use Rattle.std.specs.Prelude.{option_and_then, option_map, if◌then◌else◌}
use Rattle.std.specs.List.{flat_map}
use Rattle.std.specs.Option.{option_map_or}
use Rattle.std.specs.Str.{is_utf8}
use Rattle.wc_options.specs.File.{lines_of, parted, equals_sign}
use Rattle.wc_options.specs.Names.{server_prefix}
use Rattle.wc_options.specs.Options.{ServerOptions, OptionsValue, fresh, refusal_of, with_value}
use Rattle.wc_options.specs.Quotes.{quoted}
use Rattle.wc_options.specs.Table.{OptionRow, globals, of_server}
use Rattle.wc_options.specs.Version.{version_line, told_version, value_in}
use Rattle.wc_options.specs.declared.version.Version.{Version}
use Rattle.wc_options.specs.declared.version.Version.TheVariants.{One}

-- ---- reading

-- an empty line, or one that begins with `#`
abbrev pub is_passed_over : List ℕ → Bool
is_passed_over line = bytes_eq line [] || bytes_eq (take 1 line) (codes "#")

-- a name and a value that an option takes
abbrev pub with_setting : OptionsValue → Option (List ℕ × List ℕ) → Option OptionsValue
with_setting options None = None
with_setting options (Some parts) = if is_none (refusal_of options parts.0 parts.1)
    then Some (with_value options parts.0 parts.1) else None

-- a name, and its value as the version has it
abbrev pub setting_in : Version → List ℕ × List ℕ → Option (List ℕ × List ℕ)
setting_in version parts = option_map (λ value. (parts.0, value)) (value_in version parts.1)

-- the options after a line, or none where it is unreadable
unfoldable pub after_line : Version → OptionsValue → List ℕ → Option OptionsValue
after_line version options line =
    if is_passed_over line then Some options
    else if is_utf8 line
    then with_setting options (option_and_then (setting_in version) (parted line))
    else None

-- the options after all lines, of which the first has a number, or the number of the first line
-- that is unreadable
abbrev pub after_lines : Version → ℕ → OptionsValue → List (List ℕ) → Result OptionsValue ℕ
after_lines version number options [] = Ok options
after_lines version number options (line ∷ lines) =
    option_map_or (λ following. after_lines version (number + 1) following lines)
    (after_line version options line) (Err number)

-- the options that a file holds; its first line may tell the version, which is 1 without it
abbrev pub of_lines : List (List ℕ) → Result OptionsValue ℕ
of_lines [] = Ok fresh
of_lines (line ∷ lines) = option_map_or (λ version. after_lines version 2 fresh lines)
    (told_version line) (after_lines One 1 fresh (line ∷ lines))

unfoldable pub config_of : List ℕ → Result OptionsValue ℕ
config_of bytes = of_lines (lines_of bytes)

-- ---- writing

abbrev pub set_line : List ℕ → OptionRow → List ℕ → List ℕ
set_line prefix row value = prefix ++ row.name ++ equals_sign ++ quoted value

-- the line of an option, where it is set
abbrev pub lines_of_value : List ℕ → OptionRow → Option (List ℕ) → List (List ℕ)
lines_of_value prefix row None = []
lines_of_value prefix row (Some value) = set_line prefix row value ∷ []

-- a line for each option of a table that is set
abbrev pub set_lines : List ℕ → List OptionRow → List (Option (List ℕ)) → List (List ℕ)
set_lines prefix [] values = []
set_lines prefix (row ∷ rows) [] = []
set_lines prefix (row ∷ rows) (None ∷ values) = set_lines prefix rows values
set_lines prefix (row ∷ rows) (Some value ∷ values) = set_line prefix row value ∷ set_lines prefix
    rows values

-- what the names of a server's options begin with
abbrev pub prefix_of : List ℕ → List ℕ
prefix_of name = server_prefix ++ name ++ codes "."

abbrev pub server_lines : ServerOptions → List (List ℕ)
server_lines server = set_lines (prefix_of server.name) of_server server.own

-- version 2, the options that are set in the order of the table, and those of each server in the
-- order of their making
abbrev pub config_lines : OptionsValue → List (List ℕ)
config_lines options = version_line ∷ (set_lines [] globals options.set
    ++ flat_map server_lines options.servers)

-- each line ended by LF
abbrev pub text_of_lines : List (List ℕ) → List ℕ
text_of_lines lines = flat_map (λ line. line ++ 10 ∷ []) lines

unfoldable pub config_text : OptionsValue → List ℕ
config_text options = text_of_lines (config_lines options)

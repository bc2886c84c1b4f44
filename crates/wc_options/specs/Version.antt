-- The versions of a file, and how each has its values.
use Rattle.std.specs.Prelude.{ℕ, Bool, false, bytes_eq, take, List, [], ◌∷◌, Option, Some, None}
use Rattle.std.specs.Prelude.{codes, if◌then◌else◌}
use Rattle.wc_options.specs.Quotes.{unquoted}
use Rattle.wc_options.specs.declared.version.Version.{Version}
use Rattle.wc_options.specs.declared.version.Version.TheVariants.{One, Two}

abbrev pub version_line : List ℕ
version_line = codes "config_version = 2"

abbrev pub old_version_line : List ℕ
old_version_line = codes "config_version = 1"

-- the version that a first line tells
abbrev pub told_version : List ℕ → Option Version
told_version line =
    if bytes_eq line version_line then Some Two
    else if bytes_eq line old_version_line then Some One
    else None

-- whether a value is in quotes: version 1 has none, and in version 2 it begins with one
abbrev pub is_in_quotes : Version → List ℕ → Bool
is_in_quotes One written = false
is_in_quotes Two written = bytes_eq (take 1 written) (34 ∷ [])

-- the value that is written; without quotes it is the text as it is
abbrev pub value_in : Version → List ℕ → Option (List ℕ)
value_in version written = if is_in_quotes version written then unquoted written else Some written

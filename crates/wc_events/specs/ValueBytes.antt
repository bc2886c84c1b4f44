-- Values of an hdata as bytes, part by part.
use Rattle.std.specs.Prelude.{ℕ, List, [], ◌++◌, Option, Some, None}
use Rattle.wc_text.specs.declared.names.Handle.{Handle}
use Rattle.wc_text.specs.declared.names.Pair.{Pair}
use Rattle.wc_keys.specs.declared.key.Key.{Key}
use Rattle.wc_lines.specs.declared.line.Line.{Line}
use Rattle.wc_objects.specs.declared.object.Object.{Object}
use Rattle.wc_objects.specs.Spelling.{text_bytes, value_bytes}
use Rattle.wc_events.specs.LineObjects.{line_value}

-- a tag, and the name and the value of a variable
abbrev pub tag_bytes : List ℕ → List ℕ
tag_bytes tag = text_bytes (Some tag)

abbrev pub var_bytes : Pair → List ℕ
var_bytes var = text_bytes (Some var.name) ++ text_bytes (Some var.value)

-- a value, and nothing where there is none
abbrev pub bytes_if : Option Object → List ℕ
bytes_if None = []
bytes_if (Some value) = value_bytes value

-- the value of a line of a buffer that a key names
unfoldable pub line_bytes : Handle → Line → Key → List ℕ
line_bytes buffer line key = bytes_if (line_value buffer line key)

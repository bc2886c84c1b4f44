-- Lines that are told in one message, as bytes.
use Rattle.std.specs.Prelude.{◌≡◌, ℕ, ◌+◌, ◌-◌, ◌^◌, ◌<◌, ◌≤◌, List, [], ◌∷◌, ◌++◌, length}
use Rattle.std.specs.Prelude.{filter, Option, MatchOption}
use Rattle.std.specs.List.{flat_map}
use Rattle.wc_text.specs.declared.names.Handle.{Handle}
use Rattle.wc_lines.specs.declared.line.Line.{Line}
use Rattle.wc_model.specs.Parts.{is_flipped}
use Rattle.wc_keys.specs.declared.key.Key.{Key}
use Rattle.wc_objects.specs.Spelling.{pointer_bytes, be32}
use Rattle.wc_events.specs.declared.line_items.ToldLines.{ToldLines}
use Rattle.wc_events.specs.declared.line_items.ToldLines.TheVariants as told
use Rattle.wc_events.specs.declared.line_writer.Size.{Size}
use Rattle.wc_events.specs.declared.nick_bytes.Left.{Left}
use Rattle.wc_events.specs.ValueBytes.{line_bytes}

abbrev pub lines_of : ToldLines → List Line
lines_of (told.New line) = line.now ∷ []
lines_of (told.Flipped flips lines) = filter (is_flipped flips.now) lines.now.lines

-- a line, named by its content, with the values of these keys
unfoldable pub line_spelled : Handle → List Key → Line → List ℕ
line_spelled buffer keys line = pointer_bytes line.content.0 ++ flat_map (line_bytes buffer line) keys

abbrev pub lines_spelled : Handle → List Key → List Line → List ℕ
lines_spelled buffer keys lines = flat_map (line_spelled buffer keys) lines

-- what comes after the length of the message
abbrev pub lines_body : List ℕ → Handle → List Key → List Line → List ℕ
lines_body front buffer keys lines = front
    ++ (be32 (length lines) ++ lines_spelled buffer keys lines)

-- the message
abbrev pub lines_message : List ℕ → Handle → List Key → List Line → List ℕ
lines_message front buffer keys lines = be32 (4 + length (lines_body front buffer keys lines))
    ++ lines_body front buffer keys lines

-- what is left of a room after lines, each of which takes some
pub record IsRest (bytes : List ℕ) (count : ℕ) (left rest : Left) : Type 0 where
  pub room : rest.room + length bytes ≡ left.room
  pub counted : rest.items ≡ left.items + count
  pub few : rest.items + rest.room ≤ left.items + left.room

abbrev pub Leaves : Option Left → Left → List ℕ → ℕ → Type 0
Leaves result left bytes count = MatchOption result (left.room < length bytes)
    (IsRest bytes count left)

-- how long the message is, and how many lines it has, where it is not too long
pub record IsSize (message : List ℕ) (lines : List Line) (size : Size) : Type 0 where
  pub bytes : size.bytes ≡ length message
  pub counted : size.items ≡ length lines
  pub short : size.bytes ≤ 2 ^ 31 - 1

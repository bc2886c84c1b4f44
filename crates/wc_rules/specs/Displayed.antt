-- Which lines are displayed, and which flags differ from that.
use Rattle.std.specs.Prelude.{ℕ, Bool, not, List, map, filter}
use Rattle.wc_filters.specs.Hides.{hides}
use Rattle.wc_filters.specs.declared.filter.Filter.{Filter}
use Rattle.wc_lines.specs.declared.line.Line.{Line}
use Rattle.wc_model.specs.Notices.{bool_eq}
use Rattle.wc_model.specs.declared.change.Flip.{Flip}

-- no enabled filter hides a line with these tags, prefix and message in the buffer of this name
abbrev pub is_displayed : List Filter → List ℕ → List (List ℕ) → List ℕ → List ℕ → Bool
is_displayed filters name tags prefix message = not (hides filters name tags prefix message)

abbrev pub line_is_displayed : List Filter → List ℕ → Line → Bool
line_is_displayed filters name line =
    is_displayed filters name line.tags line.prefix line.message

-- the flag of a line is another one
abbrev pub is_flipped : List Filter → List ℕ → Line → Bool
is_flipped filters name line =
    not (bool_eq line.displayed (line_is_displayed filters name line))

-- the other flag for a line
abbrev pub flip_of : Line → Flip
flip_of line = record { content = line.content; displayed = not line.displayed }

-- those of the lines whose flag is another one, in their order
abbrev pub flips_of : List Filter → List ℕ → List Line → List Flip
flips_of filters name lines = map flip_of (filter (is_flipped filters name) lines)

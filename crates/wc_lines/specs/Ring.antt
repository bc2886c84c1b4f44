-- What the calls do to the lines.
use Rattle.std.specs.Prelude.{ℕ, ◌+◌, ◌-◌, ◌^◌, min, max, Bool, ◌==◌, List, [], ◌∷◌, ◌++◌, length, drop, Option, Some}
use Rattle.std.specs.Prelude.{None, if◌then◌else◌}
use Rattle.std.specs.List.{list_any, position, slice_get}
use Rattle.wc_text.specs.declared.names.Handle.{Handle}
use Rattle.wc_lines.specs.declared.line.Line.{Line}
use Rattle.wc_lines.specs.Held.{RingView}

-- the last n of a list, or all where it has fewer
abbrev pub last_of : {A : Type 0} → ℕ → List A → List A
last_of n xs = drop (length xs - n) xs

-- the last line
abbrev pub newest : List Line → Option Line
newest [] = None
newest (line ∷ []) = Some line
newest (line ∷ next ∷ lines) = newest (next ∷ lines)

-- one more, where the count is below the greatest that there is
abbrev pub counted : ℕ → ℕ
counted n = min (n + 1) (2 ^ 64 - 1)

-- the line after the others, as far as the limit allows
abbrev pub with_line : RingView → Line → RingView
with_line held line =
    record held {
      lines = last_of held.limit (held.lines ++ line ∷ []);
      pushed = counted held.pushed;
    }

-- the oldest line, where as many as the limit are held
abbrev pub pushed_out : RingView → Option Line
pushed_out held = if length held.lines == held.limit then slice_get held.lines 0 else None

abbrev pub without_lines : RingView → RingView
without_lines held = record held { lines = [] }

-- there is room for so many lines at least
abbrev pub with_room : ℕ → RingView → RingView
with_room limit held = record held { room = max held.room limit }

-- as many lines are held at most from now on, and the oldest above that are not held any more
abbrev pub with_limit : ℕ → RingView → RingView
with_limit limit held =
    record held { lines = last_of limit held.lines; limit = limit }

-- the place of the first line with this content handle
abbrev pub place_of : Handle → List Line → Option ℕ
place_of content lines = position (λ line. line.content.0 == content.0) lines

-- whether a line has this content handle
abbrev pub has_content : Handle → List Line → Bool
has_content content lines = list_any (λ line. line.content.0 == content.0) lines

-- the lines, with the flag set in the first that has this content handle
abbrev pub set_displayed : Handle → Bool → List Line → List Line
set_displayed content on [] = []
set_displayed content on (line ∷ lines) =
    if line.content.0 == content.0 then record line { displayed = on } ∷ lines
    else line ∷ set_displayed content on lines

abbrev pub with_displayed : Handle → Bool → RingView → RingView
with_displayed content on held = record held { lines = set_displayed content on held.lines }

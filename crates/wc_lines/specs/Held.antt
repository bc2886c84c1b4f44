-- What contracts see of a buffer's lines.
use Rattle.std.specs.Prelude.{ℕ, List, []}
use Rattle.wc_lines.specs.declared.line.Line.{Line}

-- how many lines are held at most, the lines, from the oldest, how many were ever pushed, and for
-- how many there is room
pub record RingView : Type 0 where
  pub limit : ℕ
  pub lines : List Line
  pub pushed : ℕ
  pub room : ℕ

abbrev pub no_lines : ℕ → RingView
no_lines limit = record { limit = limit; lines = []; pushed = 0; room = limit }

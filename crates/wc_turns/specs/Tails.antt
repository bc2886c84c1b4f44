-- What a loop keeps of a line that has not ended.
use Rattle.std.specs.Prelude.{ℕ, ◌≡◌, ◌<◌, ◌≤◌, true, false, List, length}
use Rattle.wc_turns.specs.declared.tail.Tail.{Tail}
use Rattle.wc_turns.specs.Lines.{line_limit}

-- the tail is what comes after the last LF, unless that is too long
pub record IsTail (line : List ℕ) (tail : Tail) : Type 0 where
  pub bounded : length tail.line ≤ line_limit
  pub short : tail.over ≡ false → tail.line ≡ line
  pub long : tail.over ≡ true → line_limit < length line

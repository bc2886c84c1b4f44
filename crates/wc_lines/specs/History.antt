-- What is held after any calls.
use Rattle.std.specs.Prelude.{◌≡◌, ℕ, ◌+◌, ◌-◌, max, List, [], ◌∷◌, ◌++◌, drop}
use Rattle.wc_lines.specs.declared.line.Line.{Line}
use Rattle.wc_lines.specs.Held.{RingView, no_lines}
use Rattle.wc_lines.specs.Ring.{counted, with_line, without_lines, with_room, with_limit}

pub data RingCall : Type 0 where
  pushes : Line → RingCall
  clears : RingCall
  makes_room : ℕ → RingCall
  limits : ℕ → RingCall

-- what the acts make of what is held
abbrev pub held_after : RingView → List RingCall → RingView
held_after held [] = held
held_after held (pushes line ∷ acts) = held_after (with_line held line) acts
held_after held (clears ∷ acts) = held_after (without_lines held) acts
held_after held (makes_room limit ∷ acts) = held_after (with_room limit held) acts
held_after held (limits limit ∷ acts) = held_after (with_limit limit held) acts

-- all lines that were pushed since the last clear, where these were before the acts
abbrev pub pushed_since : List Line → List RingCall → List Line
pushed_since lines [] = lines
pushed_since lines (pushes line ∷ acts) = pushed_since (lines ++ line ∷ []) acts
pushed_since lines (clears ∷ acts) = pushed_since [] acts
pushed_since lines (makes_room limit ∷ acts) = pushed_since lines acts
pushed_since lines (limits limit ∷ acts) = pushed_since lines acts

-- how many of the oldest of so many lines are dropped, where more are held than may be
abbrev pub dropped_above : ℕ → ℕ → ℕ → ℕ
dropped_above limit count dropped = dropped + (count - dropped - limit)

-- how many of the oldest lines that were pushed since the last clear are dropped, where before the acts
-- there were so many lines and so many of them were dropped
abbrev pub dropped_since : ℕ → ℕ → ℕ → List RingCall → ℕ
dropped_since limit count dropped [] = dropped
dropped_since limit count dropped (pushes line ∷ acts) =
    dropped_since limit (count + 1) (dropped_above limit (count + 1) dropped) acts
dropped_since limit count dropped (clears ∷ acts) = dropped_since limit 0 0 acts
dropped_since limit count dropped (makes_room room ∷ acts) =
    dropped_since limit count dropped acts
dropped_since limit count dropped (limits most ∷ acts) =
    dropped_since most count (dropped_above most count dropped) acts

-- the limit after the acts, and for how many lines there is room then
abbrev pub limit_from : ℕ → List RingCall → ℕ
limit_from limit [] = limit
limit_from limit (pushes line ∷ acts) = limit_from limit acts
limit_from limit (clears ∷ acts) = limit_from limit acts
limit_from limit (makes_room room ∷ acts) = limit_from limit acts
limit_from limit (limits most ∷ acts) = limit_from most acts

abbrev pub room_from : ℕ → List RingCall → ℕ
room_from room [] = room
room_from room (pushes line ∷ acts) = room_from room acts
room_from room (clears ∷ acts) = room_from room acts
room_from room (makes_room more ∷ acts) = room_from (max room more) acts
room_from room (limits most ∷ acts) = room_from room acts

-- how many pushes there are, counted on from a number
abbrev pub pushes_from : ℕ → List RingCall → ℕ
pushes_from count [] = count
pushes_from count (pushes line ∷ acts) = pushes_from (counted count) acts
pushes_from count (clears ∷ acts) = pushes_from count acts
pushes_from count (makes_room room ∷ acts) = pushes_from count acts
pushes_from count (limits most ∷ acts) = pushes_from count acts

-- after any calls the lines are those pushed since the last clear without the oldest that were dropped,
-- and every push was counted. The dropped number is 0 at a clear, and rises at a push or a change of the
-- limit by as much as the held lines pass the limit
abbrev pub HeldIsLast : Type 0
HeldIsLast = (limit : ℕ) (acts : List RingCall) →
    held_after (no_lines limit) acts ≡ record {
      limit = limit_from limit acts;
      lines = drop (dropped_since limit 0 0 acts) (pushed_since [] acts);
      pushed = pushes_from 0 acts;
      room = room_from limit acts;
    }

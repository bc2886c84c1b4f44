-- Lines of bytes that LFs end.
use Rattle.std.specs.Prelude.{ℕ, ◌≢◌, ◌<◌, ◌-◌, List, [], ◌∷◌, ◌++◌, length, take}
use Rattle.std.specs.Prelude.{if◌then◌else◌, ◌==◌, slice_index}

-- the lines that the LFs of the bytes end, where `line` is before the bytes
abbrev pub ended_lines : List ℕ → List ℕ → List (List ℕ)
ended_lines line [] = []
ended_lines line (b ∷ bytes) = if b == 10 then line ∷ ended_lines [] bytes
    else ended_lines (line ++ b ∷ []) bytes

-- what comes after the last LF of the bytes, where `line` is before them
abbrev pub rest : List ℕ → List ℕ → List ℕ
rest line [] = line
rest line (b ∷ bytes) = if b == 10 then rest [] bytes else rest (line ++ b ∷ []) bytes

-- a line without one CR at its end
abbrev pub without_cr : List ℕ → List ℕ
without_cr line = if slice_index line (length line - 1) == 13
    then take (length line - 1) line else line

-- how many bytes a line has at most
abbrev pub line_limit : ℕ
line_limit = 65536

-- no LF is among the bytes
abbrev pub HasNoLf : List ℕ → Type 0
HasNoLf bytes = (k : ℕ) → k < length bytes → slice_index bytes k ≢ 10

-- The order of buffers: by group, then by place in the group.
use Rattle.std.specs.Prelude.{ℕ, ◌==◌, List, [], ◌∷◌, map, if◌then◌else◌}
use Rattle.wc_buffers.specs.Groups.{rows}
use Rattle.wc_buffers.specs.Calls.{EntryGroups, handle_of}

abbrev pub order : EntryGroups → List ℕ
order groups = map handle_of (rows groups)

-- the number before another, where `before` is before the list; 0 where the other is not there
abbrev pub before_in : ℕ → ℕ → List ℕ → ℕ
before_in before n [] = 0
before_in before n (m ∷ ms) = if m == n then before else before_in m n ms

-- the number after another; 0 where there is none
abbrev pub first_of : List ℕ → ℕ
first_of [] = 0
first_of (m ∷ ms) = m

abbrev pub after_in : ℕ → List ℕ → ℕ
after_in n [] = 0
after_in n (m ∷ ms) = if m == n then first_of ms else after_in n ms

-- the buffers before and after a buffer; 0 at the ends
abbrev pub prev_of : ℕ → EntryGroups → ℕ
prev_of buffer groups = before_in 0 buffer (order groups)

abbrev pub next_of : ℕ → EntryGroups → ℕ
next_of buffer groups = after_in buffer (order groups)

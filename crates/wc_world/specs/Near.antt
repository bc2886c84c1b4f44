-- The buffers before and after a buffer, one group after another.
use Rattle.std.specs.Prelude.{ℕ, Bool, true, false, ◌==◌, List, [], ◌∷◌, map}
use Rattle.std.specs.List.{flat_map}
use Rattle.wc_text.specs.declared.names.Handle.{Handle}

-- the numbers of some handles
abbrev pub numbers : List Handle → List ℕ
numbers handles = map (λ (h : Handle). h.0) handles

-- the number after n, or the first where n was seen before
abbrev pub after_seen : Bool → ℕ → List ℕ → ℕ
after_seen seen n [] = 0
after_seen true n (m ∷ ms) = m
after_seen false n (m ∷ ms) = after_seen (m == n) n ms

abbrev pub all_numbers : List (List Handle) → List ℕ
all_numbers groups = flat_map numbers groups

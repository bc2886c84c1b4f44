use Rattle.std.proofs.Common.{◌≡◌, ◌+◌, ◌≤◌, length, ltb}
use Rattle.std.specs.List.{list_all}
use Rattle.wc_objects.specs.Forms.{is_path, names_of}
use Rattle.wc_objects.specs.Left.{names_left, length_left}
use Rattle.wc_objects.proofs.keys.path_depth.Given as goal

-- the names so far are not empty, and are counted
abbrev pub invariant-loop-rest : goal.invariant-loop-rest
invariant-loop-rest l =
    (is_path l.path ≡ list_all (λ name. ltb 0 (length name)) (names_left l.rest))
    × (l.depth + length (names_left l.rest) ≡ length (names_of l.path))
    × (l.depth + length_left l.rest ≤ 1 + length l.path)

abbrev pub decreases-loop-rest : goal.decreases-loop-rest
decreases-loop-rest l = length_left l.rest

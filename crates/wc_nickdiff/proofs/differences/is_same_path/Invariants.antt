use Rattle.std.proofs.Common.{◌≡◌, drop}
use Rattle.wc_nicklist.specs.Rows.{path_eq}
use Rattle.wc_nickdiff.proofs.differences.is_same_path.Given as goal

-- the names so far are alike
abbrev pub invariant-loop-i : goal.invariant-loop-i
invariant-loop-i l = path_eq l.a l.b ≡ path_eq (drop l.i l.a) (drop l.i l.b)

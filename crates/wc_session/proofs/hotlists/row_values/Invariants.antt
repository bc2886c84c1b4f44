use Rattle.std.proofs.Common.{◌≡◌, ◌++◌, drop}
use Rattle.wc_session.specs.Hotlists.{row_values}
use Rattle.wc_session.proofs.hotlists.row_values.Given as goal

-- the values so far, and those of the keys that are left
abbrev pub invariant-loop-key : goal.invariant-loop-key
invariant-loop-key l = l.values ++ row_values (drop l.key-index l.keys) l.row ≡ row_values l.keys l.row

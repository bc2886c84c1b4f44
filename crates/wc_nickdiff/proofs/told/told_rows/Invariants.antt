use Rattle.std.proofs.Common.{◌≡◌, ◌++◌, take}
use Rattle.std.specs.Prelude.{filter}
use Rattle.wc_nickdiff.specs.Compared.{picked_rows}
use Rattle.wc_nickdiff.specs.Held.{is_untouched}
use Rattle.wc_nickdiff.proofs.Picked.{stood}
use Rattle.wc_nickdiff.proofs.told.told_rows.Given as goal

-- after the rows that were not touched are those of the touches so far
abbrev pub invariant-loop-touch : goal.invariant-loop-touch
invariant-loop-touch l = l.rows.items ≡ filter (is_untouched l.touches.touches) l.now.rows ++ picked_rows stood l.now.rows (take l.touch-index l.touches.touches)

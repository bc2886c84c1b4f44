use Rattle.std.proofs.Common.{◌≡◌}
use Rattle.std.specs.Prelude.{is_some}
use Rattle.wc_objects.specs.Forms.{kinds_of, kinds_of_keys}
use Rattle.wc_objects.specs.Left.{keys_left, length_left}
use Rattle.wc_objects.proofs.forms.are_keys.Given as goal

-- the keys so far have types
abbrev pub invariant-loop-left : goal.invariant-loop-left
invariant-loop-left l = is_some (kinds_of l.keys) ≡ is_some (kinds_of_keys (keys_left l.left))

abbrev pub decreases-loop-left : goal.decreases-loop-left
decreases-loop-left l = length_left l.left

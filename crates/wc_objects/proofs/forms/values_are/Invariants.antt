use Rattle.std.proofs.Common.{◌≡◌, drop}
use Rattle.wc_objects.specs.Forms.{values_of, kinds_of, kinds_of_keys}
use Rattle.wc_objects.specs.Left.{keys_left}
use Rattle.wc_objects.proofs.forms.values_are.Given as goal

-- the values so far are those of the keys so far
abbrev pub invariant-loop-value : goal.invariant-loop-value
invariant-loop-value l = values_of (kinds_of l.keys) l.values ≡ values_of (kinds_of_keys (keys_left l.left)) (drop l.value-index l.values)

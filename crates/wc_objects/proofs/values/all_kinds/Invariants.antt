use Rattle.std.proofs.Common.{◌≡◌}
use Rattle.wc_objects.specs.Forms.{kinds_of, kinds_of_keys}
use Rattle.wc_objects.specs.Left.{keys_left, length_left}
use Rattle.wc_objects.proofs.KeyLemmas.{after_kinds}
use Rattle.wc_objects.proofs.values.all_kinds.Given as goal

-- the types of the keys so far, and of those that are left
abbrev pub invariant-loop-left : goal.invariant-loop-left
invariant-loop-left l = after_kinds l.kinds.items (kinds_of_keys (keys_left l.left)) ≡ kinds_of l.keys

abbrev pub decreases-loop-left : goal.decreases-loop-left
decreases-loop-left l = length_left l.left

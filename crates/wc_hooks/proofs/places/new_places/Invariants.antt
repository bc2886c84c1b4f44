use Rattle.std.proofs.Common.{◌≡◌, replicate, None}
use Rattle.wc_hooks.proofs.places.new_places.Given as goal

abbrev pub invariant-loop-count : goal.invariant-loop-count
invariant-loop-count l = l.places.items ≡ replicate l.count None

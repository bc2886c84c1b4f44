use Rattle.std.proofs.Common.{◌≡◌, ◌++◌, drop}
use Rattle.wc_hdata.specs.Reached.{place_of}
use Rattle.wc_hdata.specs.Values.{values_of}
use Rattle.wc_hdata.proofs.answer.values_of.Given as goal

abbrev pub invariant-loop-key : goal.invariant-loop-key
invariant-loop-key l = l.values ++ values_of l.lists.world (drop l.key-index l.keys) (place_of l.place) ≡ values_of l.lists.world l.keys (place_of l.place)

use Rattle.std.proofs.Common.{take, length, ◌++◌}
use Rattle.std.specs.List.{flat_map}
use Rattle.wc_objects.specs.Spelling.{Puts, pair_bytes, be32}
use Rattle.wc_objects.proofs.write.put_pairs.Given as goal

abbrev pub invariant-loop-pair : goal.invariant-loop-pair
invariant-loop-pair l = Puts l.fn.out l.out (be32 (length l.pairs) ++ flat_map pair_bytes (take l.pair-index l.pairs))

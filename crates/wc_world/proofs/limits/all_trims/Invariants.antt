use Rattle.std.proofs.Common.{◌≡◌, ◌++◌, drop, flat_map}
use Rattle.wc_world.specs.Limits.{stored_trim}
use Rattle.wc_world.specs.Near.{numbers}
use Rattle.wc_world.proofs.limits.all_trims.Given as goal

abbrev pub invariant-loop-h : goal.invariant-loop-h
invariant-loop-h l = l.trims ++ flat_map (stored_trim l.limit l.held) (numbers (drop l.h-index l.buffers)) ≡ flat_map (stored_trim l.limit l.held) (numbers l.buffers)

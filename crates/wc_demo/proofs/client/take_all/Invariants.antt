use Rattle.std.proofs.Common.{length}
use Rattle.wc_view.specs.Taking.{MirrorParts}
use Rattle.wc_demo.specs.Client.{TakesAll}
use Rattle.wc_demo.proofs.client.take_all.Given as goal

-- whatever takes what is left, took all of it
abbrev pub invariant-loop-rest : goal.invariant-loop-rest
invariant-loop-rest l = (new : MirrorParts) → TakesAll l.mirror l.rest new → TakesAll l.fn.mirror l.fn.bytes new

abbrev pub decreases-loop-rest : goal.decreases-loop-rest
decreases-loop-rest l = length l.rest

use Rattle.std.proofs.Common.{◌≡◌, ◌++◌}
use Rattle.wc_core.specs.Typed.{tags_of}
use Rattle.wc_core.specs.TypedSeen.{length_left}
use Rattle.wc_core.proofs.ResolvedWords.{tags_left}
use Rattle.wc_core.proofs.typed.read_tags.Given as goal

abbrev pub invariant-loop-left : goal.invariant-loop-left
invariant-loop-left l = l.tags ++ tags_left l.left ≡ tags_of l.word

abbrev pub decreases-loop-left : goal.decreases-loop-left
decreases-loop-left l = length_left l.left

use Rattle.std.proofs.Common.{◌≡◌, ◌++◌, length}
use Rattle.wc_relaycmd.specs.Escapes.{without_escapes}
use Rattle.wc_relaycmd.proofs.escapes.unescape.Given as goal

abbrev pub invariant-loop-rest : goal.invariant-loop-rest
invariant-loop-rest l = l.plain ++ without_escapes l.rest ≡ without_escapes l.text

abbrev pub decreases-loop-rest : goal.decreases-loop-rest
decreases-loop-rest l = length l.rest

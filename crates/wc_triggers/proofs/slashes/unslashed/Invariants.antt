use Rattle.std.proofs.Common.{◌≡◌, ◌≤◌, length}
use Rattle.wc_triggers.specs.Slashes.{unslashed}
use Rattle.wc_triggers.proofs.SlashLemmas.{read_after}
use Rattle.wc_triggers.proofs.slashes.unslashed.Given as goal

abbrev pub invariant-loop-rest : goal.invariant-loop-rest
invariant-loop-rest l = record {
  read : read_after l.value (unslashed l.stop l.both l.rest) ≡ unslashed l.stop l.both l.text;
  shorter : length l.rest ≤ length l.text;
}

abbrev pub decreases-loop-rest : goal.decreases-loop-rest
decreases-loop-rest l = length l.rest

use Rattle.std.proofs.Common.{◌≡◌, drop}
use Rattle.wc_objects.specs.Reading.{values_at}
use Rattle.wc_objects.proofs.Loops.{following}
use Rattle.wc_objects.proofs.reader.Reader.item_values.Given as goal

-- what is read so far, and what is still read
abbrev pub invariant-loop-kind : goal.invariant-loop-kind
invariant-loop-kind l = following l.items (values_at (drop l.kind-index l.kinds) l.self.bytes.now) ≡ values_at l.kinds l.fn.self.bytes.now

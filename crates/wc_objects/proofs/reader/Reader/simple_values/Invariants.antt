use Rattle.std.proofs.Common.{◌≡◌, ◌-◌}
use Rattle.wc_objects.specs.Reading.{times, simple_at}
use Rattle.wc_objects.proofs.Loops.{following}
use Rattle.wc_objects.proofs.reader.Reader.simple_values.Given as goal

-- what is read so far, and what is still read
abbrev pub invariant-loop : goal.invariant-loop
invariant-loop l = following l.items (times (l.count - l.counter) (simple_at l.kind) l.self.bytes.now) ≡ times l.count (simple_at l.kind) l.fn.self.bytes.now

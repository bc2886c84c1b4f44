use Rattle.std.proofs.Common.{◌≡◌, ◌-◌}
use Rattle.wc_objects.specs.Reading.{times, variable_at}
use Rattle.wc_objects.proofs.Loops.{following}
use Rattle.wc_objects.proofs.reader.Reader.variables_of.Given as goal

-- what is read so far, and what is still read
abbrev pub invariant-loop : goal.invariant-loop
invariant-loop l = following l.items (times (l.count - l.counter) variable_at l.self.bytes.now) ≡ times l.count variable_at l.fn.self.bytes.now

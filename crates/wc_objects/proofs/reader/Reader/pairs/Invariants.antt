use Rattle.std.proofs.Common.{◌≡◌, ◌-◌}
use Rattle.wc_objects.specs.Reading.{times, pair_at}
use Rattle.wc_objects.proofs.Loops.{following}
use Rattle.wc_objects.proofs.reader.Reader.pairs.Given as goal

-- what is read so far, and what is still read
abbrev pub invariant-loop : goal.invariant-loop
invariant-loop l = following l.items (times (l.count - l.counter) (pair_at l.key l.value) l.self.bytes.now) ≡ times l.count (pair_at l.key l.value) l.fn.self.bytes.now

use Rattle.std.proofs.Common.{◌≡◌, ◌-◌}
use Rattle.wc_objects.specs.Reading.{times, item_at}
use Rattle.wc_objects.proofs.Loops.{following}
use Rattle.wc_objects.proofs.reader.Reader.items.Given as goal

-- what is read so far, and what is still read
abbrev pub invariant-loop : goal.invariant-loop
invariant-loop l = following l.items (times (l.count - l.counter) (item_at l.depth l.kinds) l.self.bytes.now) ≡ times l.count (item_at l.depth l.kinds) l.fn.self.bytes.now

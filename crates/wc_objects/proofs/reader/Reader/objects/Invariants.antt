use Rattle.std.proofs.Common.{◌≡◌, ◌-◌, length}
use Rattle.wc_objects.specs.Reading.{objects_within, objects_of}
use Rattle.wc_objects.proofs.Loops.{whole_after}
use Rattle.wc_objects.proofs.reader.Reader.objects.Given as goal

-- what is read so far, and what is still read
abbrev pub invariant-loop : goal.invariant-loop
invariant-loop l = whole_after l.items (objects_within (length l.fn.self.bytes.now - l.counter) l.self.bytes.now) ≡ objects_of l.fn.self.bytes.now

use Rattle.std.proofs.Common.{take}
use Rattle.std.specs.List.{flat_map}
use Rattle.wc_objects.specs.Spelling.{Puts, object_bytes}
use Rattle.wc_objects.proofs.write.put_objects.Given as goal

abbrev pub invariant-loop-object : goal.invariant-loop-object
invariant-loop-object l = Puts l.fn.out l.out (flat_map object_bytes (take l.object-index l.objects))

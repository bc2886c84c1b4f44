use Rattle.std.proofs.Common.{take}
use Rattle.std.specs.List.{flat_map}
use Rattle.wc_objects.specs.Spelling.{Puts, pointer_bytes}
use Rattle.wc_hdata.proofs.item_bytes.put_pointers.Given as goal

abbrev pub invariant-loop-pointer : goal.invariant-loop-pointer
invariant-loop-pointer l = Puts l.fn.out l.out (flat_map pointer_bytes (take l.pointer-index l.pointers))

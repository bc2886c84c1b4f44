use Rattle.std.proofs.Common.{arith}
use Rattle.wc_hdata.proofs.SpelledLemmas.{as_long}
use Rattle.wc_hdata.proofs.pointers.bytes_after.Goals as goal

pub returns-then-old-pointer : goal.returns-then-old-pointer
returns-then-old-pointer c = omega (arith, as_long c.args.old c.args.pointer (omega arith))

use Rattle.std.proofs.Common.{arith}
use Rattle.wc_objects.proofs.Pointers.{hex_short}
use Rattle.wc_hdata.proofs.SpelledLemmas.{hex_more, hex_one}
use Rattle.wc_hdata.proofs.pointers.bytes_of.Goals as goal

pub overflow_add-bytes : goal.overflow_add-bytes
overflow_add-bytes c =
    let short = hex_short c.args.pointer c.ranges.pointer.fits in
    omega (arith, c.loop-left.invariant, short.1)

pub loop-left-preserved : goal.loop-left-preserved
loop-left-preserved c = omega (arith, c.loop-left.invariant, hex_more c.loop-left.left c.loop-left-test.true)

pub returns : goal.returns
returns c = omega (arith, c.loop-left.invariant, hex_one c.loop-left.left (omega (arith, c.loop-left-test.false)))

use Rattle.std.proofs.Common.{◌-◌, arith}
use Rattle.std.proofs.lemmas.List.{length-set}
use Rattle.wc_objects.proofs.Digits.{digits_fit, length-step, writes_digit, hex_null, hex_digits, starts}
use Rattle.wc_objects.proofs.hex.write_digits.Goals as goal

pub returns-then-n-eq0-clause-written : goal.returns-then-n-eq0-clause-written
returns-then-n-eq0-clause-written c = hex_null c.args.n c.args.digits.now c.if-n-eq0.true (omega arith)

pub loop-left-init : goal.loop-left-init
loop-left-init c = (omega arith, omega arith, digits_fit c.args.n c.ranges.n.fits, starts c.args.n c.args.digits.now (omega arith))

pub overflow_sub-at : goal.overflow_sub-at
overflow_sub-at c = omega (arith, length-step c.loop-left.left c.loop-left-test.true)

pub loop-left-preserved : goal.loop-left-preserved
loop-left-preserved c =
    let step = length-step c.loop-left.left c.loop-left-test.true in (
      omega (arith, length-set c.loop-left.digits (c.loop-left.at - 1) c.digit.result),
      omega arith,
      omega arith,
      rw c.digit.ensures (writes_digit c.loop-left.left c.loop-left.at c.loop-left.digits _ c.loop-left-test.true (omega arith) (omega arith) c.loop-left.invariant.3),
    )

pub returns-clause-written : goal.returns-clause-written
returns-clause-written c = hex_digits c.args.n c.loop-left.left c.loop-left.at c.loop-left.digits (omega arith) (omega arith) c.loop-left.invariant.3

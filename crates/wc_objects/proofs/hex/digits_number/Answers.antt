use Rattle.std.proofs.Common.{◌∙◌, arith, ap, subst, ◌<◌, ◌+◌, ◌*◌}
use Rattle.wc_objects.proofs.Hexes.{room, low_more, number_more, hex_more}
use Rattle.wc_objects.proofs.hex.digits_number.Goals as goal

pub overflow_mul-number : goal.overflow_mul-number
overflow_mul-number c =
    let small = room c.args.text.now c.loop-c.c-index c.loop-c.number c.loop-c-test.true c.requires c.loop-c.invariant.1 c.loop-c.invariant.2 in
    omega (arith, small)

pub overflow_add-number : goal.overflow_add-number
overflow_add-number c =
    let small = room c.args.text.now c.loop-c.c-index c.loop-c.number c.loop-c-test.true c.requires c.loop-c.invariant.1 c.loop-c.invariant.2 in
    omega (arith, small, c.in_ok-digit.ensures.2)

pub loop-c-preserved : goal.loop-c-preserved
loop-c-preserved c =
    let d = c.in_ok-digit.ensures in (
      c.loop-c.invariant.0 ∙ hex_more c.args.text.now c.loop-c.c-index c.loop-c-test.true d.0,
      low_more c.args.text.now c.loop-c.c-index c.loop-c-test.true c.loop-c.invariant.1 (subst (λ n. n < 16) d.1 d.2),
      ap (λ n. c.loop-c.number * 16 + n) d.1 ∙ number_more c.args.text.now c.loop-c.c-index c.loop-c.number c.loop-c-test.true c.loop-c.invariant.2,
    )

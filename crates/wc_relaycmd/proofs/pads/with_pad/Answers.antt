use Rattle.std.proofs.Common.{◌<◌, ◌≢◌, length, arith, ◌∙◌, sym, refl, below_more, get_or-set_other, get_or-set_same, length-set}
use Rattle.wc_relaycmd.proofs.PadLemmas.{map_by_index}
use Rattle.wc_relaycmd.proofs.pads.with_pad.Goals as goal

pub bytes-preserved : goal.bytes-preserved
bytes-preserved g c =
    let long = c.bytes.invariant.0 in (
      rw length-set long,
      below_more _ _ (λ k h. let ne : k ≢ c.bytes.i = omega arith in rw get_or-set_other (c.bytes.invariant.1 k h))
          (let lt : c.bytes.i < length c.bytes.out = omega (arith, long, c.told-block, c.bytes-test.true) in rw get_or-set_same refl),
    )

pub returns : goal.returns
returns g c = map_by_index _ _ _ c.bytes.invariant.0 (λ k h. c.bytes.invariant.1 k (omega (arith, h, c.told-block, c.bytes-test.false)))

use Rattle.std.proofs.Common.{arith, sym, ◌∙◌}
use Rattle.wc_relaycmd.proofs.PadLemmas.{xor_each_by_index}
use Rattle.wc_relaycmd.proofs.pads.xor_into.Goals as goal

pub returns : goal.returns
returns g c = xor_each_by_index _ _ _ c.bytes.invariant.2 (c.told-other ∙ sym c.told-total)
    (λ k h. c.bytes.invariant.0 k (omega (arith, h, c.told-total, c.bytes-test.false)))

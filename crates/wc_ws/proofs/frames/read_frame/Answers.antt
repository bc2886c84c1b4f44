use Rattle.std.proofs.Common.{◌≡◌, refl, ap, length}
use Rattle.wc_ws.proofs.SideLemmas.{side_of, quiet_of, lent}
use Rattle.wc_ws.proofs.frames.read_frame.Goals as goal

pub returns-in-Ok-told_of-clause-side : goal.returns-in-Ok-told_of-clause-side
returns-in-Ok-told_of-clause-side c = side_of _ _ _ _ _ _ refl c.in-Ok.ensures.leaves

pub returns-clause-output : goal.returns-clause-output
returns-clause-output c =
    let returns = rw c.in-Complete.is at c.in-Ok.ensures.returns in
    let told = c.in-Err-told_of.ensures.err in
    let same : c.as_slice.result.now ≡ c.read.new.input =
    lent _ _ _ _ c.as_slice.ensures
    (cc (c.read.auto.input, ap length c.as_mut_slice.ensures.value)) in
    quiet_of _ _ _ _ _ _ _ _ refl returns c.in-Ok.ensures.leaves (rw same at told)

pub returns-clause-side : goal.returns-clause-side
returns-clause-side c = side_of _ _ _ _ _ _ refl c.in-Ok.ensures.leaves

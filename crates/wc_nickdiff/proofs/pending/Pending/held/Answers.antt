use Rattle.std.proofs.Common.{◌≤◌, length, sym, subst}
use Rattle.wc_nickdiff.specs.Held.{AreAmong}
use Rattle.wc_nickdiff.proofs.Touches.{held_bound}
use Rattle.wc_nickdiff.proofs.pending.Pending.held.Goals as goal

pub returns-in-Some-clause-bound : goal.returns-in-Some-clause-bound
returns-in-Some-clause-bound c = λ keys among.
    let ts = c.in-Some.touches.now.touches in
    subst (λ l. length l ≤ length keys) (sym c.as_slice.ensures.touches)
    (held_bound ts keys c.as_slice.ensures.once (subst (λ l. AreAmong l keys) (sym c.in-Some.ensures.touches) among))

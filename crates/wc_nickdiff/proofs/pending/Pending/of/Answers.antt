use Rattle.std.proofs.Common.{◌≡◌, ◌==◌, Some, None, sym, ap, ◌∙◌}
use Rattle.std.specs.List.{position}
use Rattle.wc_nickdiff.specs.Held.{OfBuffer, touches_of}
use Rattle.wc_nickdiff.proofs.Buffers.{of_absent, of_found}
use Rattle.wc_nickdiff.proofs.pending.Pending.of.Goals as goal

pub returns-in-None : goal.returns-in-None
returns-in-None c = record { touches = of_absent c.args.buffer c.args.self.now (sym c.place.ensures ∙ c.in-None.is) }

pub returns-in-Some : goal.returns-in-Some
returns-in-Some c =
    let b = c.args.buffer in
    let xs = c.self.inside.buffers.items in
    let p : position (λ (x : OfBuffer). x.buffer.0 == b.0) xs ≡ Some c.in-Some.place = ap (position (λ (x : OfBuffer). x.buffer.0 == b.0)) c.self.view_is ∙ sym c.place.ensures ∙ c.in-Some.is in
    record { touches = of_found b xs c.in-Some.place c.index.result.now p c.index.ensures ∙ ap (touches_of b) c.self.view_is }

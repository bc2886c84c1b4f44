use Rattle.std.proofs.Common.{◌≡◌, ◌==◌, cond, not, [], ap, ◌∙◌, rules}
use Rattle.std.specs.Prelude.{filter}
use Rattle.std.proofs.lemmas.Fn.{filter_same}
use Rattle.wc_nickdiff.specs.Held.{OfBuffer, touches_of}
use Rattle.wc_nickdiff.proofs.Buffers.{of_others}
use Rattle.wc_nickdiff.proofs.pending.Pending.forget.Goals as goal

pub returns : goal.returns
returns c =
    let h = c.args.buffer in
    let xs = c.self.inside.buffers.items in
    let kept : c.retain.new.self.items ≡ filter (λ (x : OfBuffer). not (x.buffer.0 == h.0)) xs = filter_same _ (λ (x : OfBuffer). not (x.buffer.0 == h.0)) _ (λ x b f' k. search rules) _ _ c.retain.ensures.filtered in
    λ b. ap (touches_of b) kept ∙ of_others h xs b ∙ ap (λ v. cond (h.0 == b.0) [] (touches_of b v)) c.self.view_is

use Rattle.std.proofs.Common.{◌≡◌, ◌==◌, cond, Some, None, [], ◌∷◌, ◌++◌, sym, ap, ◌∙◌}
use Rattle.std.specs.List.{position}
use Rattle.std.proofs.lemmas.Result.{on_ok_weaker}
use Rattle.wc_text.specs.declared.names.Handle.{Handle}
use Rattle.wc_nickdiff.specs.Held.{OfBuffer, with_touch, touches_of}
use Rattle.wc_nickdiff.proofs.Buffers.{note_first, note_again}
use Rattle.wc_nickdiff.proofs.pending.Pending.note.Goals as goal

pub returns-in_default-clause-ok : goal.returns-in_default-clause-ok
returns-in_default-clause-ok c =
    let h = c.args.buffer in
    let k = c.args.key.now in
    let row = c.args.before in
    let xs = c.self.inside.buffers.items in
    let y = c.touch.new.self in
    let absent : position (λ (x : OfBuffer). x.buffer.0 == h.0) xs ≡ None = ap (position (λ (x : OfBuffer). x.buffer.0 == h.0)) c.self.view_is ∙ sym c.place.ensures ∙ c.in_default.is in
    on_ok_weaker c.push.result
    (λ (p : c.push.new.items.items ≡ xs ++ y ∷ []) (b : Handle).
    ap (touches_of b) p
    ∙ note_first h k row xs c.new-touches.result y absent c.new-touches.ensures c.in_ok-touch.ensures.ok b
    ∙ ap (λ v. cond (h.0 == b.0) (with_touch k row (touches_of b v)) (touches_of b v)) c.self.view_is)
    c.push.ensures.ok

pub returns-clause-ok : goal.returns-clause-ok
returns-clause-ok c =
    let h = c.args.buffer in
    let k = c.args.key.now in
    let row = c.args.before in
    let xs = c.self.inside.buffers.items in
    let d = c.index_mut-touches.result.now in
    let y = c.touch-2.new.self in
    let there : position (λ (x : OfBuffer). x.buffer.0 == h.0) xs ≡ Some c.in-Some.place = ap (position (λ (x : OfBuffer). x.buffer.0 == h.0)) c.self.view_is ∙ sym c.place.ensures ∙ c.in-Some.is in
    on_ok_weaker c.touch-2.result
    (λ (t : y ≡ record { buffer = d.buffer; touches = with_touch k row d.touches }) (b : Handle).
    note_again h k row xs c.in-Some.place d y there c.index_mut-touches.ensures.value t b
    ∙ ap (λ v. cond (h.0 == b.0) (with_touch k row (touches_of b v)) (touches_of b v)) c.self.view_is)
    c.touch-2.ensures.ok

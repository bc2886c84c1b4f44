use Rattle.std.proofs.Common.{◌≡◌, Some, None, ap, sym, ◌∙◌, arith}
use Rattle.wc_nicklist.specs.Order.{key_at}
use Rattle.wc_nickdiff.specs.Held.{OfBuffer, before_at}
use Rattle.wc_nickdiff.specs.Index.{place_of}
use Rattle.wc_nickdiff.proofs.Touches.{place_within, place_before, place_none}
use Rattle.wc_nickdiff.proofs.buffer_touches.BufferTouches.before.Goals as goal

pub returns-in-None : goal.returns-in-None
returns-in-None c =
    let k = key_at c.args.is_group c.args.name.now in
    let ts = c.self.inside.touches.items in
    let p : place_of k ts ≡ None = sym (c.self.invariant.indexed k) ∙ sym c.find.ensures ∙ c.in-None.is in
    sym (place_none k ts p) ∙ ap (λ (v : OfBuffer). before_at k v.touches) c.self.view_is

pub index-requires : goal.index-requires
index-requires c =
    let k = key_at c.args.is_group c.args.name.now in
    let ts = c.self.inside.touches.items in
    let p : place_of k ts ≡ Some c.in-Some.place = sym (c.self.invariant.indexed k) ∙ sym c.find.ensures ∙ c.in-Some.is in
    omega (arith, place_within k ts c.in-Some.place p)

pub returns-in-Some : goal.returns-in-Some
returns-in-Some c =
    let k = key_at c.args.is_group c.args.name.now in
    let ts = c.self.inside.touches.items in
    let p : place_of k ts ≡ Some c.in-Some.place = sym (c.self.invariant.indexed k) ∙ sym c.find.ensures ∙ c.in-Some.is in
    place_before k ts c.in-Some.place c.index.result.now p c.index.ensures ∙ ap (λ (v : OfBuffer). before_at k v.touches) c.self.view_is

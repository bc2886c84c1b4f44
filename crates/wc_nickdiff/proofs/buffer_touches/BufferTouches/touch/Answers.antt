use Rattle.std.proofs.Common.{◌≡◌, true, cond, Option, Some, None, List, [], ◌∷◌, ◌++◌, length, ap, sym, ◌∙◌, subst}
use Rattle.std.specs.Prelude.{is_some}
use Rattle.wc_nicklist.specs.declared.item.Key.{Key}
use Rattle.wc_nicklist.specs.Order.{key_at}
use Rattle.wc_nicklist.specs.Rows.{key_eq}
use Rattle.wc_nickdiff.specs.declared.diff_item.FirstTouch.{FirstTouch}
use Rattle.wc_nickdiff.specs.Held.{OfBuffer, before_at, with_touch, EachOnce}
use Rattle.wc_nickdiff.specs.Index.{place_in, place_of, IndexesTouches}
use Rattle.wc_nickdiff.proofs.Touches.{none_some, touched_again, touched_first, place_none, once_push, index_push}
use Rattle.wc_nickdiff.proofs.buffer_touches.BufferTouches.touch.Goals as goal

pub returns-then-is_some-clause-ok : goal.returns-then-is_some-clause-ok
returns-then-is_some-clause-ok c =
    let k : Key = c.args.key.now in
    let ts = c.self.inside.touches.items in
    let t : ts ≡ c.args.self.now.touches = ap (λ (v : OfBuffer). v.touches) c.self.view_is in
    let found : c.find.result ≡ place_in c.self.inside.index k = c.find.ensures ∙ ap (λ n. place_in c.self.inside.index (key_at k.is_group n)) c.as_slice.ensures in
    let p : is_some (place_of k ts) ≡ true = ap is_some (sym (c.self.invariant.indexed k) ∙ sym found) ∙ sym c.is_some.ensures ∙ c.if-is_some.true in
    let q : is_some (place_of k c.args.self.now.touches) ≡ true = ap (λ l. is_some (place_of k l)) (sym t) ∙ p in
    λ i. record { buffer = c.args.self.now.buffer; touches = touched_again k c.args.before c.args.self.now.touches q i }

pub invariant_of-self-2 : goal.invariant_of-self-2
invariant_of-self-2 c =
    let k : Key = c.args.key.now in
    let ts = c.self.inside.touches.items in
    let first : FirstTouch = record { key = c.in-Ok.key; before = c.args.before } in
    let found : c.find.result ≡ place_in c.self.inside.index k = c.find.ensures ∙ ap (λ n. place_in c.self.inside.index (key_at k.is_group n)) c.as_slice.ensures in
    let p : place_of k ts ≡ None = sym (c.self.invariant.indexed k) ∙ sym found ∙ none_some c.find.result (sym c.is_some.ensures ∙ c.if-is_some.false) in
    let absent : before_at first.key ts ≡ None = ap (λ z. before_at z ts) c.in-Ok.ensures.key ∙ place_none k ts p in
    let items : c.put.new.touches.items ≡ ts ++ first ∷ [] = c.put.ensures.touches ∙ ap (λ (l : List FirstTouch). l ++ first ∷ []) c.in-Ok.ensures.touches in
    let step : (q : Key) → place_in c.put.new.index q ≡ cond (key_eq first.key q) (Some (length ts)) (place_in c.self.inside.index q) =
    λ q. c.put.ensures.places q ∙ (λ i. cond (key_eq first.key q) (Some (length (c.in-Ok.ensures.touches i))) (c.in-Ok.ensures.places q i)) in
    record {
      once = subst EachOnce (sym items) (once_push ts first c.self.invariant.once absent);
      indexed = subst (λ l. IndexesTouches l c.put.new.index) (sym items) (index_push ts c.self.inside.index c.put.new.index first absent c.self.invariant.indexed step);
    }

pub returns-clause-ok : goal.returns-clause-ok
returns-clause-ok c =
    let k : Key = c.args.key.now in
    let ts = c.self.inside.touches.items in
    let found : c.find.result ≡ place_in c.self.inside.index k = c.find.ensures ∙ ap (λ n. place_in c.self.inside.index (key_at k.is_group n)) c.as_slice.ensures in
    let p : place_of k ts ≡ None = sym (c.self.invariant.indexed k) ∙ sym found ∙ none_some c.find.result (sym c.is_some.ensures ∙ c.if-is_some.false) in
    let items : c.put.new.touches.items ≡ with_touch k c.args.before ts = c.put.ensures.touches ∙ (λ i. c.in-Ok.ensures.touches i ++ record { key = c.in-Ok.ensures.key i; before = c.args.before } ∷ []) ∙ touched_first k c.args.before ts p in
    (λ i. record { buffer = c.self.inside.buffer; touches = items i }) ∙ ap (λ (v : OfBuffer). record { buffer = v.buffer; touches = with_touch k c.args.before v.touches }) c.self.view_is

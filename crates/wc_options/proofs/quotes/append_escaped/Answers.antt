use Rattle.std.proofs.Common.{◌≡◌, ◌∙◌, ◌++◌, ◌∷◌, [], List, ℕ, ap, sym, subst}
use Rattle.std.specs.Result.{OnOk}
use Rattle.wc_options.specs.Quotes.{escaped}
use Rattle.wc_options.proofs.QuotesLemmas.{escaped_step, escaped_end}
use Rattle.wc_options.proofs.quotes.append_escaped.Goals as goal

pub loop-place-preserved : goal.loop-place-preserved
loop-place-preserved c =
    let byte = c.split_at-in-Some.result.0.now in
    let others = c.split_at-in-Some.result.1.now in
    ap (λ (t : List ℕ). t ++ escaped others)
    (c.in_ok-append-3.ensures.ok ∙ ap (λ (t : List ℕ). t ++ byte) (c.in_ok-append-2.ensures.ok ∙ ap (λ (t : List ℕ). t ++ 92 ∷ []) c.in_ok-append.ensures.ok))
    ∙ escaped_step c.loop-place.text c.loop-place.rest.now _ c.split_at.result.0.now c.split_at.result.1.now byte others c.in-Some.place (sym c.in-Some.ensures)
    c.split_at.ensures.front c.split_at.ensures.back c.split_at-in-Some.ensures.front c.split_at-in-Some.ensures.back c.loop-place.invariant

pub returns : goal.returns
returns c =
    subst (λ (t : List ℕ). OnOk c.append-2.result (c.append-2.new.self ≡ t)) (escaped_end c.loop-place.text c.loop-place.rest.now _ (sym c.in_default.ensures) c.loop-place.invariant) c.append-2.ensures.ok

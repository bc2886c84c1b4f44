use Rattle.std.proofs.Common.{◌∙◌, ◌++◌, ◌∷◌, [], List, ℕ, Option, None, map, sym, ap}
use Rattle.wc_options.specs.Kept.{unset_at_first}
use Rattle.wc_options.proofs.ReadLemmas.{globals_all, unset_more}
use Rattle.wc_options.proofs.options.first_values.Goals as goal

pub loop-preserved : goal.loop-preserved
loop-preserved c =
    c.in-Ok.ensures.items
    ∙ ap (λ (xs : List (Option (List ℕ))). xs ++ None ∷ []) c.loop.invariant
    ∙ sym (unset_more c.loop.counter c.loop-test.true)

pub returns : goal.returns
returns c = c.loop.invariant ∙ ap (map unset_at_first) (globals_all c.loop.counter c.loop-test.false)

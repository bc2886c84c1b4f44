use Rattle.std.proofs.Common.{◌∙◌, ◌++◌, ◌∷◌, [], List, ℕ, map, take, sym, ap}
use Rattle.wc_options.specs.Table.{OptionRow, globals}
use Rattle.wc_options.proofs.ReadLemmas.{globals_all, defaults_more, default_of}
use Rattle.wc_options.proofs.options.first_defaults.Goals as goal

pub loop-place-preserved : goal.loop-place-preserved
loop-place-preserved c =
    c.in-Ok.ensures.items
    ∙ ap (λ (xs : List (List ℕ)). xs ++ c.in_ok-default.default ∷ []) c.loop-place.invariant
    ∙ ap (λ (d : List ℕ). map default_of (take c.loop-place.place globals) ++ d ∷ []) (c.in_ok-default.ensures ∙ ap (λ (row : OptionRow). row.default) c.global_row.ensures)
    ∙ sym (defaults_more c.loop-place.place c.loop-place-test.true)

pub returns : goal.returns
returns c = c.loop-place.invariant ∙ ap (map default_of) (globals_all c.loop-place.place c.loop-place-test.false)

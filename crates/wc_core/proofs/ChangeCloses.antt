-- Changes close no client.
use Rattle.std.proofs.Common.{◌≡◌, ℕ, Bool, true, false, cond, List, [], ◌∷◌, ◌++◌, Option, Some, None, unwrap_or, refl, ap, ◌∙◌}
use Rattle.std.specs.FinMap.{FinMap}
use Rattle.std.specs.Ordering.{nat_cmp}
use Rattle.wc_nicklist.specs.declared.item.Row.{Row}
use Rattle.wc_model.specs.declared.change.Change.{Change}
use Rattle.wc_model.specs.declared.notice.Notice.{Notice}
use Rattle.wc_model.specs.declared.refused.ChangeRefused.{ChangeRefused}
use Rattle.wc_model.specs.World.{World}
use Rattle.wc_model.specs.Apply.{after}
use Rattle.wc_model.specs.Notices.{notice}
use Rattle.wc_model.specs.Touches.{told_after}
use Rattle.wc_core.specs.Resolved.{refusal_text, told_refusal}
use Rattle.wc_core.specs.State.{State, Stepped}
use Rattle.wc_core.specs.Changing.{made_step, fitted_in, refused, with_filters, refilter_step, add_filter_if, planned_step, filter_step}
use Rattle.wc_core.specs.Fitted.{flips_change, flips_everywhere}
use Rattle.wc_core.specs.Resolved.{filter_text, no_such_filter}
use Rattle.wc_core.specs.declared.typed_filter.FilterChange.{FilterChange}
use Rattle.wc_core.specs.declared.typed_filter.FilterChange.TheVariants as filtering
use Rattle.wc_filters.specs.declared.filter.Filter.{Filter}
use Rattle.wc_filters.specs.declared.refused.FilterRefused.{FilterRefused}
use Rattle.wc_filters.specs.Kept.{new_filter, refusal_of as refusal_of_filter}
use Rattle.wc_model.specs.declared.change.Flip.{Flip}
use Rattle.wc_rules.specs.Plans.{filters_without, filters_switched}
use Rattle.wc_core.specs.Changing.{then_does, tell_all_step, change_step, change_step_if, refusal_step, ask_step_if, ask_step, limit_change, limit_step}
use Rattle.wc_core.specs.Served.{or_else, close_of}
use Rattle.wc_core.proofs.DidLemmas.{close_of-append}
use Rattle.wc_core.proofs.ConnectionLemmas.{close-told}

pub closes_none-if : (j : ℕ) (b : Bool) (x y : Stepped) → close_of j x.acts ≡ None → close_of j y.acts ≡ None → close_of j (cond b x y).acts ≡ None
closes_none-if j true x y p q = p
closes_none-if j false x y p q = q

pub then-closes : (j : ℕ) (first : Stepped) (next : State → Stepped) → close_of j first.acts ≡ None → close_of j (next first.state).acts ≡ None → close_of j (then_does first next).acts ≡ None
then-closes j first next p q = close_of-append j first.acts (next first.state).acts ∙ ap (λ o. or_else o (close_of j (next first.state).acts)) p ∙ q

told_all-closes : (j : ℕ) (state : State) (told : FinMap nat_cmp (List Row)) (world : World) (n : Notice) → close_of j (tell_all_step state told world n).acts ≡ None
told_all-closes j state told world n = close-told j world n state.clients

makes-closes : (j : ℕ) (state : State) (change : Change) → close_of j (made_step state change).acts ≡ None
makes-closes j state change = told_all-closes j state (told_after state.world change.buffer change.what state.told) (after state.world change) (notice state.world change)

changes-closes : (j : ℕ) (state : State) (change : Change) → close_of j (change_step state change).acts ≡ None
changes-closes j state change = makes-closes j state (fitted_in state change)

pub changes_if-closes : (j : ℕ) (state : State) (change : Change) (o : Option ChangeRefused) → close_of j (change_step_if state change o).acts ≡ None
changes_if-closes j state change None = changes-closes j state change
changes_if-closes j state change (Some reason) = refl

pub limits-closes : (j : ℕ) (state : State) (o : Option ℕ) → close_of j (limit_step state o).acts ≡ None
limits-closes j state None = refl
limits-closes j state (Some limit) = changes-closes j state (limit_change limit)

pub tells-closes : (j : ℕ) (state : State) (text : List ℕ) → close_of j (refusal_step state text).acts ≡ None
tells-closes j state text = changes_if-closes j state (told_refusal state.moment text) (refused state (told_refusal state.moment text))

asks_if-closes : (j : ℕ) (state : State) (change : Change) (o : Option ChangeRefused) → close_of j (ask_step_if state change o).acts ≡ None
asks_if-closes j state change None = changes-closes j state change
asks_if-closes j state change (Some reason) = tells-closes j state (refusal_text reason)

pub asks-closes : (j : ℕ) (state : State) (change : Change) → close_of j (ask_step state change).acts ≡ None
asks-closes j state change = asks_if-closes j state change (refused state change)

-- ---- filters

refilters-closes : (j : ℕ) (state : State) (filters : List Filter) (flips : List Flip) → close_of j (refilter_step state filters flips).acts ≡ None
refilters-closes j state filters [] = refl
refilters-closes j state filters (flip ∷ flips) = makes-closes j (with_filters state filters) (flips_change (flip ∷ flips))

pub adds_if-closes : (j : ℕ) (state : State) (filter : Filter) (o : Option FilterRefused) → close_of j (add_filter_if state filter o).acts ≡ None
adds_if-closes j state filter None = refilters-closes j state (state.filters ++ filter ∷ []) (flips_everywhere (state.filters ++ filter ∷ []) state.world)
adds_if-closes j state filter (Some reason) = tells-closes j state (filter_text filter.name reason)

plans-closes : (j : ℕ) (state : State) (name : List ℕ) (o : Option (List Filter)) → close_of j (planned_step state name o).acts ≡ None
plans-closes j state name None = tells-closes j state (no_such_filter name)
plans-closes j state name (Some filters) = refilters-closes j state filters (flips_everywhere filters state.world)

pub filters-closes : (j : ℕ) (state : State) (change : FilterChange) → close_of j (filter_step state change).acts ≡ None
filters-closes j state (filtering.Add name buffers tags pattern) = adds_if-closes j state (new_filter name buffers tags pattern) (refusal_of_filter state.oracle state.filters name pattern)
filters-closes j state (filtering.Delete name) = plans-closes j state name (filters_without name state.filters)
filters-closes j state (filtering.Switch name switch) = plans-closes j state (unwrap_or name []) (filters_switched name switch state.filters)

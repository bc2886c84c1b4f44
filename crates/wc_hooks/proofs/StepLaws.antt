-- How many steps one open pass takes over any sequence of calls.
use Rattle.std.proofs.Common.{◌≡◌, ◌≢◌, ℕ, ◌+◌, ◌<◌, ◌≤◌, true, false, not, Option, Some, None, List, [], ◌∷◌, length, get_or, set, arith, refl, sym, ap, ◌∙◌, subst}
use Rattle.std.specs.Prelude.{◌==◌, nat_le}
use Rattle.std.specs.List.{list_all}
use Rattle.std.proofs.lemmas.Bool.{and_parts, false≢true}
use Rattle.std.proofs.lemmas.Bool.Decides.{nat_tests}
use Rattle.std.proofs.lemmas.List.{get_or-set_same, get_or-set_other}
use Rattle.wc_hooks.specs.declared.kind.HookKind.{HookKind}
use Rattle.wc_hooks.specs.Filings.{Filing, filed_under}
use Rattle.wc_hooks.specs.Table.{Table, Going, IsOpen, IsHookTable, looked_of, over_of, looked_at, over_at, left_at, topic_in, is_within, opening}
use Rattle.wc_hooks.specs.Passes.{entries_left}
use Rattle.wc_hooks.specs.History.{TableCall, hooks, unhooks, switches, opens, gives, ends, closes, after, after_all, leaves, steps_of, all_steps}
use Rattle.wc_hooks.proofs.Lists.{by_bool, open_inside}
use Rattle.wc_hooks.proofs.HistoryLaws.{places_after}

-- a pass that goes on over the same kind and key
pub record GoesOn (steps : ℕ) (old new : Option Going) : Type 0 where
  pub looked : looked_of new ≡ looked_of old + steps
  pub over : over_of new ≡ over_of old

stays : (old new : Option Going) → new ≡ old → GoesOn 0 old new
stays old new e = (let n : looked_of new ≡ looked_of old = ap looked_of e in record { looked = omega (arith, n); over = ap over_of e })

other_place : (xs : List (Option Going)) (other place : ℕ) (pass : Option Going) → (other == place) ≡ false → get_or (set xs other pass) place None ≡ get_or xs place None
other_place xs other place pass differ = let no : place ≢ other = grind (arith, nat_tests) in get_or-set_other xs other place pass None no

is_other : (other place : ℕ) → not (other == place) ≡ true → (other == place) ≡ false
is_other other place quiet = by_bool (other == place) (λ same. absurd (false≢true (sym (ap not same) ∙ quiet))) (λ differ. differ)

goes_here : (t : Table) (other place steps : ℕ) → other ≡ place → place < length t.passes → GoesOn steps (get_or t.passes place None) (get_or (after (gives other steps) t).passes place None)
goes_here t other place steps same inside =
    let pass : Going = record { left = entries_left t.rows t.marks (left_at t place); looked = looked_at t place + steps; over = over_at t place } in
    let e : get_or (after (gives other steps) t).passes place None ≡ Some pass = ap (λ o. get_or (after (gives o steps) t).passes place None) same ∙ get_or-set_same t.passes place (Some pass) None inside in
    record { looked = ap looked_of e; over = ap over_of e }

steps_here : (other place steps : ℕ) → (other == place) ≡ true → steps_of place (gives other steps) ≡ steps
steps_here other place steps same = rw same refl

steps_elsewhere : (other place steps : ℕ) → (other == place) ≡ false → steps_of place (gives other steps) ≡ 0
steps_elsewhere other place steps differ = rw differ refl

goes_on : (act : TableCall) (t : Table) (place : ℕ) → place < length t.passes → leaves place act ≡ true → GoesOn (steps_of place act) (get_or t.passes place None) (get_or (after act t).passes place None)
goes_on (hooks row) t place inside quiet = stays (get_or t.passes place None) _ refl
goes_on (unhooks id) t place inside quiet = stays (get_or t.passes place None) _ refl
goes_on (switches id on) t place inside quiet = stays (get_or t.passes place None) _ refl
goes_on (opens other kind key) t place inside quiet = stays (get_or t.passes place None) _ (other_place t.passes other place (Some (opening kind key t)) (is_other other place quiet))
goes_on (gives other steps) t place inside quiet = by_bool (other == place)
    (λ here. let same : other ≡ place = grind (arith, nat_tests) in
    subst (λ (n : ℕ). GoesOn n (get_or t.passes place None) (get_or (after (gives other steps) t).passes place None)) (sym (steps_here other place steps here)) (goes_here t other place steps same inside))
    (λ differ. subst (λ (n : ℕ). GoesOn n (get_or t.passes place None) (get_or (after (gives other steps) t).passes place None)) (sym (steps_elsewhere other place steps differ)) (stays (get_or t.passes place None) _ (other_place t.passes other place _ differ)))
goes_on (ends id) t place inside quiet = stays (get_or t.passes place None) _ refl
goes_on (closes other) t place inside quiet = stays (get_or t.passes place None) _ (other_place t.passes other place None (is_other other place quiet))

all_go_on : (acts : List TableCall) (t : Table) (place : ℕ) → place < length t.passes → list_all (leaves place) acts ≡ true → GoesOn (all_steps place acts) (get_or t.passes place None) (get_or (after_all acts t).passes place None)
all_go_on [] t place inside quiet = stays (get_or t.passes place None) (get_or t.passes place None) refl
all_go_on (act ∷ acts) t place inside quiet =
    let parts = and_parts (leaves place act) (list_all (leaves place) acts) quiet in
    let n = places_after act t in
    let first = goes_on act t place inside parts.0 in
    let rest = all_go_on acts (after act t) place (omega (arith, inside, n)) parts.1 in
    let a = first.looked in let b = rest.looked in
    record { looked = omega (arith, a, b); over = rest.over ∙ first.over }

-- what is within the bound
within_topic : (kind : HookKind) (key : List ℕ) (before now : List Filing) (looked : ℕ) → is_within now (topic_in kind key before) looked ≡ true → looked ≤ length (filed_under kind key now)
within_topic kind key before now looked h = by_bool (length (filed_under kind key before) == 0)
    (λ t. let e : (looked == 0) ≡ true = ap (λ o. is_within now o looked) (sym (none t)) ∙ h in grind (arith, nat_tests))
    (λ t. let e : nat_le looked (length (filed_under kind key now)) ≡ true = ap (λ o. is_within now o looked) (sym (some t)) ∙ h in grind (arith, nat_tests)) where
      none : (length (filed_under kind key before) == 0) ≡ true → topic_in kind key before ≡ None
      none t = rw t refl

      some : (length (filed_under kind key before) == 0) ≡ false → topic_in kind key before ≡ Some (record { kind = kind; key = key })
      some t = rw t refl

pub steps_within : (table : Table) (place : ℕ) (kind : HookKind) (key : List ℕ) (acts : List TableCall) → list_all (leaves place) acts ≡ true → IsHookTable (after_all acts (after (opens place kind key) table)) → IsOpen (after (opens place kind key) table) place → all_steps place acts ≤ length (filed_under kind key (after_all acts (after (opens place kind key) table)).filed)
steps_within table place kind key acts quiet law held =
    let t = after (opens place kind key) table in
    let inside : place < length t.passes = open_inside t.passes place held in
    let n = places_after (opens place kind key) table in
    let opened : get_or t.passes place None ≡ Some (opening kind key table) = get_or-set_same table.passes place (Some (opening kind key table)) None (omega (arith, inside, n)) in
    let goes = all_go_on acts t place inside quiet in
    let a = goes.looked in
    let z : looked_of (get_or t.passes place None) ≡ 0 = ap looked_of opened in
    let total : looked_at (after_all acts t) place ≡ all_steps place acts = omega (arith, a, z) in
    let over : over_at (after_all acts t) place ≡ topic_in kind key table.filed = goes.over ∙ ap over_of opened in
    within_topic kind key table.filed (after_all acts t).filed (all_steps place acts)
    ((λ i. is_within (after_all acts t).filed (sym over i) (sym total i)) ∙ law.within place)

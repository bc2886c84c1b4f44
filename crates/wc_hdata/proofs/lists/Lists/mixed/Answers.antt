use Rattle.std.proofs.Common.{◌≡◌, List, true, rules, sym, ap, subst, ◌∙◌}
use Rattle.std.specs.List.{AllByRecursion}
use Rattle.std.specs.List.Sorted.{IsNonDecreasingBy}
use Rattle.std.proofs.lemmas.List.Sorted.{answers_always}
use Rattle.wc_hdata.specs.declared.lists.MixedList.{MixedList}
use Rattle.wc_hdata.specs.declared.place.LineList.TheVariants.{Mixed}
use Rattle.wc_hdata.specs.Kept.{IsHeld, Listed, is_made}
use Rattle.wc_hdata.specs.Listed.{IsMixedList, first_handle, firsts_of}
use Rattle.wc_hdata.specs.Lists.{lines_in}
use Rattle.wc_hdata.specs.Reached.{held_lines}
use Rattle.wc_hdata.proofs.FoundLemmas.{found_held, found_lines, not_made}
use Rattle.wc_hdata.proofs.lists.Lists.mixed.Goals as goal

pub unreachable-requires : goal.unreachable-requires
unreachable-requires c =
    let made = subst (λ (listed : Listed). is_made listed.firsts c.args.first.0 ≡ true) (sym c.self.view_is) c.requires in
    not_made c.as_slice-mixed.result.now c.args.first.0 c.in-Err.field-0 (subst (IsNonDecreasingBy first_handle) (sym c.as_slice-mixed.ensures.value) c.self.invariant.sorted)
    (c.in-Err.ensures.position first_handle (answers_always _ _ _ (λ f a r q k. search rules)))
    (subst (λ (mixed : List MixedList). is_made (firsts_of mixed) c.args.first.0 ≡ true) (sym c.as_slice-mixed.ensures.value) made)

pub returns-clause-lines : goal.returns-clause-lines
returns-clause-lines c =
    let are = subst (AllByRecursion (IsMixedList c.self.inside.world.now)) (sym c.as_slice-mixed.ensures.value) c.self.invariant.mixed in
    ap held_lines c.as_slice.ensures.value
    ∙ found_lines c.self.inside.world.now c.as_slice-mixed.result.now c.args.first c.in-Ok.at c.index-mixed-at.result are c.in-Ok.ensures.bound
    (c.in-Ok.ensures.position first_handle (answers_always _ _ _ (λ f a r q k. search rules)))
    ∙ ap (λ (listed : Listed). lines_in listed.world (Mixed c.args.first)) c.self.view_is

pub returns-clause-held : goal.returns-clause-held
returns-clause-held c =
    let are = subst (AllByRecursion (IsMixedList c.self.inside.world.now)) (sym c.as_slice-mixed.ensures.value) c.self.invariant.mixed in
    subst (λ (listed : Listed). AllByRecursion (IsHeld listed.world) (held_lines c.as_slice.result.now)) c.self.view_is
    (subst (λ lines. AllByRecursion (IsHeld c.self.inside.world.now) (held_lines lines)) (sym c.as_slice.ensures.value)
    (found_held c.self.inside.world.now c.as_slice-mixed.result.now c.in-Ok.at c.index-mixed-at.result are c.in-Ok.ensures.bound))

use Rattle.std.proofs.Common.{rules, ap, ◌∙◌, ◌++◌, subst, sym}
use Rattle.std.specs.List.{AllByRecursion}
use Rattle.std.proofs.lemmas.List.Sorted.{IsNonDecreasingBy-from_sort_by_key, answers_always}
use Rattle.wc_buffers.specs.Calls.{EntryGroups}
use Rattle.wc_hdata.specs.Kept.{IsHeld, IsThere}
use Rattle.wc_hdata.specs.Lists.{by_handle, lines_of_all, group_of}
use Rattle.wc_hdata.specs.Reached.{held_lines}
use Rattle.wc_hdata.proofs.KeptLemmas.{all_sorted, group_there}
use Rattle.wc_hdata.proofs.Mixed.{mixed_is, number}
use Rattle.wc_hdata.proofs.lists.mixed_lines.Goals as goal

pub push_all-requires-clause-there : goal.push_all-requires-clause-there
push_all-requires-clause-there c = subst (AllByRecursion (IsThere c.args.world.now.groups)) (sym (c.group_of.ensures ∙ ap (λ (groups : EntryGroups). group_of groups c.args.first.0) c.buffers.ensures)) (group_there c.args.world.now.groups c.args.first.0)

pub returns-clause-lines : goal.returns-clause-lines
returns-clause-lines c =
    mixed_is c.push_all.new.lines.items c.sort_by_key.new.self.items
    (IsNonDecreasingBy-from_sort_by_key number _ c.in_ok-sort_by_key.ensures.sorted (λ a r q k. search rules))
    (c.sort_by_key.ensures.stable number (answers_always _ _ _ (λ f a r q k. search rules)))
    ∙ ap by_handle (c.in_ok-push_all.ensures.lines ∙ ap (λ l. held_lines l ++ lines_of_all c.args.world.now c.group_of.result.now) c.new-lines.ensures.items
    ∙ ap (lines_of_all c.args.world.now) (c.group_of.ensures ∙ ap (λ (groups : EntryGroups). group_of groups c.args.first.0) c.buffers.ensures))

pub returns-clause-held : goal.returns-clause-held
returns-clause-held c =
    subst (AllByRecursion (IsHeld c.args.world.now)) (sym (mixed_is c.push_all.new.lines.items c.sort_by_key.new.self.items
    (IsNonDecreasingBy-from_sort_by_key number _ c.in_ok-sort_by_key.ensures.sorted (λ a r q k. search rules))
    (c.sort_by_key.ensures.stable number (answers_always _ _ _ (λ f a r q k. search rules)))))
    (all_sorted (IsHeld c.args.world.now) (held_lines c.push_all.new.lines.items) c.in_ok-push_all.ensures.held)

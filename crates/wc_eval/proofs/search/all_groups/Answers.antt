use Rattle.std.proofs.Common.{rules, ◌≡◌, [], ◌∷◌, drop, ap, sym, ◌∙◌}
use Rattle.regex.specs.Strings.{captures_left, group_count}
use Rattle.wc_eval.specs.Matching.{groups_in}
use Rattle.wc_eval.proofs.GroupLemmas.{spans_of_match, groups_as_text, one_more, none_left}
use Rattle.wc_eval.proofs.search.all_groups.Goals as goal

pub matches-preserved : goal.matches-preserved
matches-preserved c =
    let found = c.in-Some.ensures.found in
    let m = found.0 in
    let left = captures_left c.next_read.new.self in
    let rest : captures_left c.matches.all ≡ m ∷ left =
    found.1.first ∙ ap (λ xs. m ∷ xs) (sym (c.next_read.ensures.rest ∙ ap (drop 1) found.1.first)) in
    let count = c.next_read.ensures.count ∙ c.matches.invariant.count in
    let spans : c.in_ok-spans.field-0 ≡ groups_in (group_count c.args.regex.now) m = c.in_ok-spans.ensures ∙ spans_of_match m c.next_read.new.locations _ count found.3 in
    record { count = count; found = one_more _ _ _ _ _ _ _ _ rest c.matches.invariant.found spans c.in_ok-push.ensures.ok }

pub returns : goal.returns
returns c =
    let none : captures_left c.matches.all ≡ [] = search rules in
    none_left _ _ _ _ none c.matches.invariant.found
    ∙ groups_as_text c.args.regex.now c.args.text.now c.requires (λ k. (c.type_inv.text k).fits)

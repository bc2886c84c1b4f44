use Rattle.std.proofs.Common.{◌≡◌, List, ap, ◌∙◌, subst}
use Rattle.std.specs.Prelude.{Option, reverse}
use Rattle.std.specs.List.Sorted.{IsPermutation}
use Rattle.std.proofs.lemmas.Result.{IfOk-weaker}
use Rattle.wc_nicklist.specs.declared.item.Row.{Row}
use Rattle.wc_nicklist.specs.Rows.{find_row}
use Rattle.wc_nickdiff.specs.Compared.{keep, leaving_row, coming_row, changed_pair, picked_rows, items_written}
use Rattle.wc_nickdiff.specs.Held.{before_at}
use Rattle.wc_nickdiff.specs.NickPush.{diff, is_group, is_nick, root_item}
use Rattle.wc_nickdiff.specs.Told.{told_at, IsTold}
use Rattle.wc_nickdiff.proofs.Picked.{outs_law, ins_law, changed_law}
use Rattle.wc_nickdiff.proofs.Written.{written_is}
use Rattle.wc_nickdiff.proofs.message.diff.Goals as goal

pub returns : goal.returns
returns c =
    let ts = c.args.touches.now.touches in
    let now = c.args.now.now.rows in
    let root = root_item c.args.now.now.root in
    let first = told_at (λ k. before_at k ts) now in
    let d = c.in_ok-differences.ensures in
    let s = c.sort.new.self in
    let once = c.as_slice-touched.ensures.once in
    let moved : (pick : Option Row → Option Row → Option Row) (rows sorted : List Row) → rows ≡ picked_rows pick now c.as_slice-touched.result.now → IsPermutation rows sorted → IsPermutation (picked_rows pick now ts) sorted =
    λ pick rows sorted e m. subst (λ l. IsPermutation l sorted) (e ∙ ap (picked_rows pick now) c.as_slice-touched.ensures.touches) m in
    IfOk-weaker c.write.result
    (λ items. items ≡ items_written root first (λ k. find_row k now) s.out_nicks.items c.reverse.new.rows.items s.in_groups.items s.in_nicks.items s.changed.items)
    (λ items. (told : List Row) → IsTold (λ k. before_at k ts) now told → items ≡ diff root told now)
    (λ items e told h. e ∙ written_is root told now first h.found s.out_nicks.items c.reverse.new.rows.items s.in_groups.items s.in_nicks.items s.changed.items
    (outs_law ts now told once c.requires h is_nick s.out_nicks.items (moved (λ t n. keep is_nick (leaving_row t n)) _ _ d.out_nicks c.sort.ensures.out_nicks.0) c.sort.ensures.out_nicks.1)
    (c.reverse.ensures ∙ ap reverse (outs_law ts now told once c.requires h is_group s.out_groups.items (moved (λ t n. keep is_group (leaving_row t n)) _ _ d.out_groups c.sort.ensures.out_groups.0) c.sort.ensures.out_groups.1))
    (ins_law ts now told once c.requires h is_group s.in_groups.items (moved (λ t n. keep is_group (coming_row t n)) _ _ d.in_groups c.sort.ensures.in_groups.0) c.sort.ensures.in_groups.1)
    (ins_law ts now told once c.requires h is_nick s.in_nicks.items (moved (λ t n. keep is_nick (coming_row t n)) _ _ d.in_nicks c.sort.ensures.in_nicks.0) c.sort.ensures.in_nicks.1)
    (changed_law ts now told once c.requires h s.changed.items (moved changed_pair _ _ d.changed c.sort.ensures.changed.0) c.sort.ensures.changed.1))
    c.write.ensures

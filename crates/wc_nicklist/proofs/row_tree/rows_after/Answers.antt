use Rattle.std.proofs.Common.{◌≡◌, ◌+◌, ◌++◌, suc, Option, drop, map, sym, ap, ◌∙◌, subst, add-one}
use Rattle.std.specs.Prelude.{IfSome}
use Rattle.wc_nicklist.specs.Stored.{entry_row, AllEntriesLead}
use Rattle.wc_nicklist.specs.Tree.{Leaf, entries_in}
use Rattle.wc_nicklist.proofs.Leaves.{leaf_at, rest_is, stand_after}
use Rattle.wc_nicklist.proofs.row_tree.rows_after.Goals as goal

pub from_leaf-requires : goal.from_leaf-requires
from_leaf-requires c =
    let s = c.args.store.now in
    let leaves = c.args.leaves.now in
    let at = c.args.at in
    let n = c.args.n in
    let l = c.index-leaves-at.result in
    let p = leaf_at leaves at l c.requires.outer c.index-leaves-at.is in
    let first = rest_is c.as_slice.result.now (n + 1) ∙ ap (drop (n + 1)) c.as_slice.ensures.value ∙ ap (λ m. drop m l.items) (add-one n) in
    let others = ap entries_in (rest_is leaves (at + 1) ∙ ap (λ m. drop m leaves) (add-one at)) in
    subst (AllEntriesLead s) (λ i. sym first i ++ sym others i) (stand_after s leaves at (suc n) l c.requires.stand p)

pub returns : goal.returns
returns c =
    let s = c.args.store.now in
    let leaves = c.args.leaves.now in
    let at = c.args.at in
    let n = c.args.n in
    let l = c.index-leaves-at.result in
    let p = leaf_at leaves at l c.requires.outer c.index-leaves-at.is in
    let first = rest_is c.as_slice.result.now (n + 1) ∙ ap (drop (n + 1)) c.as_slice.ensures.value ∙ ap (λ m. drop m l.items) (add-one n) in
    let others = ap entries_in (rest_is leaves (at + 1) ∙ ap (λ m. drop m leaves) (add-one at)) in
    let P : Option Leaf → Type 0 = λ o. IfSome o (λ l. c.from_leaf.result ≡ map (entry_row s) (drop (suc n) l.items ++ entries_in (drop (suc at) leaves))) in
    subst P (sym p.got) (c.from_leaf.ensures ∙ (λ i. map (entry_row s) (first i ++ others i)))

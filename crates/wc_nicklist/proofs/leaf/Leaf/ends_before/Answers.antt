use Rattle.std.proofs.Common.{List, [], ◌∷◌, map, sym, ap, ◌∙◌, subst}
use Rattle.wc_nicklist.specs.declared.item.Row.{Row}
use Rattle.wc_nicklist.specs.Order.{key_at, address_of}
use Rattle.wc_nicklist.specs.Rows.{Ascending}
use Rattle.wc_nicklist.specs.Stored.{entry_row, AllEntriesLead, AllBefore}
use Rattle.wc_nicklist.specs.Tree.{Leaf, IsLastDigest}
use Rattle.wc_nicklist.proofs.Leaves.{all_with_last, last_before, stand_right}
use Rattle.wc_nicklist.proofs.Lasts.{rows_with_last, told_all, told_not_all}
use Rattle.wc_nicklist.proofs.leaf.Leaf.ends_before.Goals as goal

pub comes_before-requires : goal.comes_before-requires
comes_before-requires c =
    let e = ap (λ l. l.items) (sym c.self.view_is) ∙ sym c.deref.ensures.value ∙ c.in-Some.ensures.cases.0 in
    (stand_right c.args.store.now c.in-Some.field-0-1.now (c.in-Some.entry.now ∷ []) (subst (AllEntriesLead c.args.store.now) e c.requires.stand)).0

pub returns-in-Some-clause-all : goal.returns-in-Some-clause-all
returns-in-Some-clause-all c = λ t.
    let s = c.args.store.now in
    let a = address_of c.args.address.now.path.now (key_at c.args.address.now.is_group c.args.address.now.name.now) in
    let P : List Row → Type 0 = λ xs. AllBefore xs a in
    let e = ap (λ l. l.items) (sym c.self.view_is) ∙ sym c.deref.ensures.value ∙ c.in-Some.ensures.cases.0 in
    let rows = rows_with_last s c.args.self.now.items c.in-Some.field-0-1.now c.in-Some.entry.now e in
    subst P (sym rows) (all_with_last (map (entry_row s) c.in-Some.field-0-1.now) (entry_row s c.in-Some.entry.now) a (subst Ascending rows c.requires.order) (sym c.comes_before.ensures ∙ t))

pub returns-in-Some-clause-not_all : goal.returns-in-Some-clause-not_all
returns-in-Some-clause-not_all c = λ h.
    let s = c.args.store.now in
    let a = address_of c.args.address.now.path.now (key_at c.args.address.now.is_group c.args.address.now.name.now) in
    let P : List Row → Type 0 = λ xs. AllBefore xs a in
    let e = ap (λ l. l.items) (sym c.self.view_is) ∙ sym c.deref.ensures.value ∙ c.in-Some.ensures.cases.0 in
    let rows = rows_with_last s c.args.self.now.items c.in-Some.field-0-1.now c.in-Some.entry.now e in
    c.comes_before.ensures ∙ last_before (map (entry_row s) c.in-Some.field-0-1.now) (entry_row s c.in-Some.entry.now) a (subst P rows h)

pub returns-then-tells-clause-all : goal.returns-then-tells-clause-all
returns-then-tells-clause-all c t =
    let a = c.args.address.now in
    let L : Leaf → Type 0 = λ l. IsLastDigest c.self.inside.last l.items in
    told_all c.args.store.now c.args.self.now c.self.inside.last a.digest a.path.now a.is_group a.name.now c.requires.filled c.requires.stand (subst L c.self.view_is c.self.invariant) a.exact (c.tells.ensures c.if-tells.true) c.requires.order t

pub returns-then-tells-clause-not_all : goal.returns-then-tells-clause-not_all
returns-then-tells-clause-not_all c h =
    let a = c.args.address.now in
    let L : Leaf → Type 0 = λ l. IsLastDigest c.self.inside.last l.items in
    told_not_all c.args.store.now c.args.self.now c.self.inside.last a.digest a.path.now a.is_group a.name.now c.requires.filled c.requires.stand (subst L c.self.view_is c.self.invariant) a.exact (c.tells.ensures c.if-tells.true) h

use Rattle.std.proofs.Common.{◌≡◌, sym, ap, ◌∙◌}
use Rattle.std.specs.Prelude.{is_some}
use Rattle.std.specs.Ordering.{is_lt}
use Rattle.wc_text.specs.Order.{fold_order}
use Rattle.wc_nicklist.specs.Order.{key_at, address_cmp, address_of, is_before}
use Rattle.wc_nicklist.specs.Stored.{row_or, entry_row}
use Rattle.wc_nicklist.proofs.Digests.{told_place}
use Rattle.wc_nicklist.proofs.Lasts.{stands_digest}
use Rattle.wc_nicklist.proofs.order.comes_before_by_names.Goals as goal

pub get-row-requires : goal.get-row-requires
get-row-requires c = ap is_some c.requires.found

pub returns-then-digest-address : goal.returns-then-digest-address
returns-then-digest-address c =
    let a = c.args.address.now in
    let r = c.get-row.result.now in
    let n = c.of_stored in
    let m = c.names in
    let same : entry_row c.args.store.now c.args.entry.now ≡ r = ap row_or c.get-row.ensures in
    c.is_lt.ensures
    ∙ ap is_lt (c.compare.ensures ∙ (λ i. address_cmp (address_of (n.ensures.path i) (key_at (n.ensures.kind i) (n.ensures.name i))) (address_of (m.ensures.path i) (key_at (m.ensures.kind i) (m.ensures.name i)))))
    ∙ ap (λ x. is_before x (address_of a.path.now (key_at a.is_group a.name.now))) (sym same)

pub returns : goal.returns
returns c =
    let a = c.args.address.now in
    let s = c.args.store.now in
    let e = c.args.entry.now in
    let r = entry_row s e in
    let same : r ≡ c.get-row.result.now = ap row_or c.get-row.ensures in
    let place = told_place r a.path.now a.is_group a.name.now e.digest a.digest (stands_digest s e c.requires) a.exact c.if-digest-address.false c.if-digest-eq-NO_PLACE.false in
    c.is_lt-2.ensures ∙ ap is_lt (c.name_cmp.ensures ∙ ap (λ n. fold_order n a.name.now) (c.as_slice.ensures ∙ ap (λ i. i.name) c.item.ensures ∙ ap (λ x. x.item.name) (sym same))) ∙ sym place

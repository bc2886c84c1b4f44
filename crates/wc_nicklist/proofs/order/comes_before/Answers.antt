use Rattle.wc_nicklist.specs.Stored.{entry_row}
use Rattle.wc_nicklist.proofs.Digests.{told_name}
use Rattle.wc_nicklist.proofs.Lasts.{stands_digest}
use Rattle.wc_nicklist.proofs.order.comes_before.Goals as goal

pub returns : goal.returns
returns c =
    let a = c.args.address.now in
    let s = c.args.store.now in
    let e = c.args.entry.now in
    told_name (entry_row s e) a.path.now a.is_group a.name.now e.digest a.digest (stands_digest s e c.requires) a.exact c.if-digest-address.false c.if-digest-eq-NO_PLACE.false c.if-digest-address-2.false

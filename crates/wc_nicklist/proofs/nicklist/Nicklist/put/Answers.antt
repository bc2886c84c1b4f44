use Rattle.std.proofs.Common.{◌≡◌, ◌≤◌, ℕ, List, None, length, arith, sym, ap, ◌∙◌, subst}
use Rattle.wc_nicklist.specs.Calls.{row_under}
use Rattle.wc_nicklist.specs.Kept.{IfRoom, RoomIsFree, IsNicklistKept}
use Rattle.wc_nicklist.specs.Order.{key_at}
use Rattle.wc_nicklist.specs.Rows.{find_row}
use Rattle.wc_nicklist.proofs.Keeps.{put_kept}
use Rattle.wc_nicklist.proofs.Refusals.{is_name}
use Rattle.wc_nicklist.proofs.nicklist.Nicklist.put.Goals as goal

pub filled-name-requires-clause-fits : goal.filled-name-requires-clause-fits
filled-name-requires-clause-fits c =
    let room : RoomIsFree c.self.inside.rows c.self.inside.index c.in-Some.room = subst (IfRoom c.self.inside.rows c.self.inside.index) (sym c.take.ensures.value ∙ c.in-Some.is) c.self.invariant.prepared in
    let short = (is_name c.args.is_group c.args.item.name c.requires.named).bounds.1 in
    let fits = room.parts.fits in
    let P : List ℕ → Type 0 = λ l. length l ≤ 64 in
    let name : length c.as_slice.result.now ≤ 64 = subst P (sym c.as_slice.ensures) short in
    omega (arith, name, fits)

-- the new row and its number come in together
pub invariant_of-self : goal.invariant_of-self
invariant_of-self c =
    let a = c.self.inside in
    let room : RoomIsFree a.rows a.index c.in-Some.room = subst (IfRoom a.rows a.index) (sym c.take.ensures.value ∙ c.in-Some.is) c.self.invariant.prepared in
    let absent : find_row (key_at c.args.is_group c.args.item.name) a.rows.rows ≡ None = ap (λ s. find_row (key_at c.args.is_group c.args.item.name) s.rows) c.self.view_is ∙ c.requires.absent in
    let r = c.in-Some.room in
    let item : c.write_row.result.value.item ≡ (row_under c.args.is_group r.path c.args.item).item = c.write_row.ensures.item ∙ sym c.placed-item.ensures ∙ ap (λ p. (row_under c.args.is_group p c.args.item).item) c.as_slice-2.ensures in
    let row : c.write_row.result.value ≡ row_under c.args.is_group r.path c.args.item = λ i. record { path = c.write_row.ensures.path i; item = item i } in
    subst (IsNicklistKept c.insert-id.new.self c.insert.new.self) (sym c.take.ensures.after)
    (put_kept a.rows c.insert-id.new.self a.index c.insert.new.self r c.args.is_group c.args.item c.filled-name.result.items c.write_row.result.value c.insert-id.result
    c.self.invariant.held c.self.invariant.indexed room absent c.requires.named c.requires.utf8
    (c.filled-name.ensures ∙ c.as_slice.ensures) row c.insert-id.ensures.rows c.insert-id.ensures.fresh c.insert-id.ensures.at c.insert.ensures)

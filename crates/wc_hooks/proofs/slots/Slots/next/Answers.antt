use Rattle.std.proofs.Common.{◌≡◌, ◌∙◌, arith, sym, ap, subst, false, Some, true}
use Rattle.std.specs.Prelude.{◌&&◌}
use Rattle.wc_hooks.specs.declared.entry.Entry.{Entry}
use Rattle.wc_hooks.specs.Slots.{in_snapshot, may_go, Walked}
use Rattle.wc_hooks.proofs.Walks.{way_past, way_found}
use Rattle.wc_hooks.proofs.slots.Slots.next.Goals as goal
use Rattle.wc_hooks.proofs.slots.Slots.next.Goals.{else-is_in_snapshot-via-then-is_in_snapshot+else-may_go, else-is_in_snapshot-via-else-is_in_snapshot}

pub returns-then-may_go-clause-walked : goal.returns-then-may_go-clause-walked
returns-then-may_go-clause-walked g c =
    let slot = c.look-slot.result.now in
    let seen : in_snapshot c.args.place c.loop-cursor.cursor.hooked slot ≡ true = ap (λ k. in_snapshot c.args.place k.hooked slot) (sym c.look-slot.ensures.cursor) ∙ sym c.is_in_snapshot.ensures ∙ c.if-is_in_snapshot.true in
    subst (λ (e : Entry). Walked c.args.self.now c.args.marks.now c.args.place c.args.cursor.now c.look-slot.new.cursor (Some e)) (sym c.entry.ensures)
    (way_found c.args.self.now c.args.marks.now c.args.place c.args.cursor.now c.loop-cursor.cursor c.look-slot.new.cursor slot c.loop-cursor-test.true c.requires.inside c.loop-cursor.invariant.0 c.look-slot.ensures.slot c.look-slot.ensures.cursor seen (sym c.may_go.ensures ∙ c.if-may_go.true))

pub loop-cursor-preserved : goal.loop-cursor-preserved
loop-cursor-preserved g c =
    let slot = c.look-slot.result.now in
    let marks = c.args.marks.now in
    let hooked = c.loop-cursor.cursor.hooked in
    let seen : in_snapshot c.args.place hooked slot ≡ c.is_in_snapshot.result = ap (λ k. in_snapshot c.args.place k.hooked slot) (sym c.look-slot.ensures.cursor) ∙ sym c.is_in_snapshot.ensures in
    let out = elim c.else-is_in_snapshot.branch as (λ w. (in_snapshot c.args.place hooked slot && may_go marks slot) ≡ false) [
      | else-is_in_snapshot-via-then-is_in_snapshot+else-may_go w ↦ (λ i. (seen ∙ w.if-is_in_snapshot.true) i && (sym w.may_go.ensures ∙ w.if-may_go.false) i)
      | else-is_in_snapshot-via-else-is_in_snapshot w ↦ ap (λ b. b && may_go marks slot) (seen ∙ w.if-is_in_snapshot.false)
    ] in
    let counted = c.loop-cursor.invariant.1 in
    let step = c.look-slot.ensures.step in
    let looked = ap (λ k. k.looked) c.look-slot.ensures.cursor in (
      way_past c.args.self.now marks c.args.place c.args.cursor.now c.loop-cursor.cursor c.look-slot.new.cursor slot c.loop-cursor-test.true c.requires.inside c.loop-cursor.invariant.0 c.look-slot.ensures.slot c.look-slot.ensures.cursor out,
      omega (arith, counted, step, looked),
    )

use Rattle.std.proofs.Common.{◌∙◌, get_or, set, ap, sym}
use Rattle.wc_hooks.specs.Slots.{with_slot_switch}
use Rattle.wc_hooks.proofs.Changes.{changes_next}
use Rattle.wc_hooks.proofs.slots.switch_all.Goals as goal

pub loop-slot-preserved : goal.loop-slot-preserved
loop-slot-preserved c =
    let change = with_slot_switch c.args.id c.args.on in
    let at = c.loop-slot.slot-index in
    let slot = c.slot-item.result in
    ap (set c.loop-slot.slots at) (c.switch.ensures ∙ ap change (sym c.slot-item.is))
    ∙ ap (λ slots. set slots at (change slot)) c.loop-slot.invariant
    ∙ changes_next change at c.args.slots.now slot c.loop-slot-test.true (c.slot-item.is ∙ ap (λ slots. get_or slots at slot) c.loop-slot.invariant)

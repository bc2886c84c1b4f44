use Rattle.std.proofs.Common.{rules, ◌∙◌, ap, sym, not}
use Rattle.std.specs.Prelude.{filter}
use Rattle.std.proofs.lemmas.Fn.{filter_same}
use Rattle.wc_hooks.specs.Slots.{is_slot, left_slots}
use Rattle.wc_hooks.proofs.slots.Slots.leave.Goals as goal

pub returns-else-stays : goal.returns-else-stays
returns-else-stays c =
    filter_same _ (λ slot. not (is_slot c.args.id slot)) _ (λ x b f' k. search rules) _ _ c.retain.ensures.filtered
    ∙ ap (filter (λ slot. not (is_slot c.args.id slot))) c.self.view_is
    ∙ ap (λ b. left_slots c.args.id b c.args.self.now) (sym c.if-stays.false)

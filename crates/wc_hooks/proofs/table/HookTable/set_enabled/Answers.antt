use Rattle.std.proofs.Common.{◌∙◌, ap, sym}
use Rattle.wc_hooks.specs.Inside.{seen_as}
use Rattle.wc_hooks.specs.Rows.{lives}
use Rattle.wc_hooks.proofs.LiveRows.{lives_is}
use Rattle.wc_hooks.proofs.Calls.{kept_switched, seen_switched}
use Rattle.wc_hooks.proofs.ByKey.{switched_by_key, switches_none}
use Rattle.wc_hooks.proofs.table.HookTable.set_enabled.Goals as goal

pub invariant_of-self : goal.invariant_of-self
invariant_of-self c =
    let a = c.self.inside in
    record { kept = kept_switched a.slots a.cursors.items a.marks.items a.hooked a.relays a.others a.has_gone c.self.invariant.kept c.args.id c.args.on c.switch.new.self c.switch.ensures; room = c.self.invariant.room }

pub returns-clause-found : goal.returns-clause-found
returns-clause-found c = c.lives-found.ensures ∙ lives_is c.args.id c.self.inside.slots ∙ ap (λ t. lives c.args.id t.rows) c.self.view_is

pub returns-clause-after : goal.returns-clause-after
returns-clause-after c =
    let a = c.self.inside in
    seen_switched a.slots a.cursors.items a.marks.items a.hooked a.relays a.others a.has_gone c.self.invariant.kept c.args.id c.args.on c.switch.new.self c.args.self.now c.self.view_is c.switch.ensures

pub returns-clause-missing : goal.returns-clause-missing
returns-clause-missing c none =
    let a = c.self.inside in
    switches_none c.args.self.now (seen_as c.switch.new.self a.cursors.items a.marks.items a.hooked) c.args.id c.args.on
    (seen_switched a.slots a.cursors.items a.marks.items a.hooked a.relays a.others a.has_gone c.self.invariant.kept c.args.id c.args.on c.switch.new.self c.args.self.now c.self.view_is c.switch.ensures)
    (sym (c.lives-found.ensures ∙ lives_is c.args.id c.self.inside.slots ∙ ap (λ t. lives c.args.id t.rows) c.self.view_is) ∙ none)

pub returns-clause-by_key : goal.returns-clause-by_key
returns-clause-by_key c =
    let a = c.self.inside in
    switched_by_key c.args.self.now (seen_as c.switch.new.self a.cursors.items a.marks.items a.hooked) c.args.id c.args.on
    (seen_switched a.slots a.cursors.items a.marks.items a.hooked a.relays a.others a.has_gone c.self.invariant.kept c.args.id c.args.on c.switch.new.self c.args.self.now c.self.view_is c.switch.ensures)

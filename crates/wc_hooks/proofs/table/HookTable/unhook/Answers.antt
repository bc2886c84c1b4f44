use Rattle.std.proofs.Common.{◌∙◌, ap, sym, arith, subst}
use Rattle.std.specs.Prelude.{is_some}
use Rattle.std.specs.List.{list_any}
use Rattle.wc_hooks.specs.Inside.{seen_as}
use Rattle.wc_hooks.specs.Rows.{lives}
use Rattle.wc_hooks.specs.Table.{IsHookTable}
use Rattle.wc_hooks.proofs.LiveRows.{lives_is}
use Rattle.wc_hooks.proofs.Calls.{law_of, kept_left, seen_left}
use Rattle.wc_hooks.proofs.ByKey.{unhooked_by_key, unhooks_none}
use Rattle.wc_hooks.proofs.table.HookTable.unhook.Goals as goal

pub invariant_of-self : goal.invariant_of-self
invariant_of-self c =
    let a = c.self.inside in
    let open_is = c.is_any_open-self-inside.ensures ∙ ap (list_any is_some) c.as_slice.ensures.value in
    let same = c.unmark.ensures.capacity in
    let room = c.self.invariant.room in
    record {
      kept = kept_left a.slots a.cursors.items a.marks.items a.hooked a.relays a.others a.has_gone c.self.invariant.kept c.args.id c.is_any_open-self-inside.result c.leave.new.self c.unmark.new.marks.items c.relays-self-inside.result c.others-self-inside.result open_is c.leave.ensures c.unmark.ensures.marks c.relays-self-inside.ensures c.others-self-inside.ensures;
      room = omega (arith, same, room);
    }

pub returns-then-not-lives-clause-found : goal.returns-then-not-lives-clause-found
returns-then-not-lives-clause-found c = sym c.if-not-lives.true ∙ c.lives.ensures ∙ lives_is c.args.id c.self.inside.slots ∙ ap (λ t. lives c.args.id t.rows) c.self.view_is

pub returns-then-not-lives-clause-after : goal.returns-then-not-lives-clause-after
returns-then-not-lives-clause-after c =
    let a = c.self.inside in
    unhooks_none c.args.id c.args.self.now (subst IsHookTable c.self.view_is (law_of a.slots a.cursors.items a.marks.items a.hooked a.relays a.others a.has_gone c.self.invariant.kept)) (sym (c.lives.ensures ∙ lives_is c.args.id a.slots ∙ ap (λ t. lives c.args.id t.rows) c.self.view_is) ∙ c.if-not-lives.true)

pub returns-then-not-lives-clause-by_key : goal.returns-then-not-lives-clause-by_key
returns-then-not-lives-clause-by_key c =
    let a = c.self.inside in
    unhooked_by_key c.args.self.now c.args.self.now c.args.id
    (unhooks_none c.args.id c.args.self.now (subst IsHookTable c.self.view_is (law_of a.slots a.cursors.items a.marks.items a.hooked a.relays a.others a.has_gone c.self.invariant.kept)) (sym (c.lives.ensures ∙ lives_is c.args.id a.slots ∙ ap (λ t. lives c.args.id t.rows) c.self.view_is) ∙ c.if-not-lives.true))

pub returns-clause-found : goal.returns-clause-found
returns-clause-found c = sym c.if-not-lives.false ∙ c.lives.ensures ∙ lives_is c.args.id c.self.inside.slots ∙ ap (λ t. lives c.args.id t.rows) c.self.view_is

pub returns-clause-after : goal.returns-clause-after
returns-clause-after c =
    let a = c.self.inside in
    let open_is = c.is_any_open-self-inside.ensures ∙ ap (list_any is_some) c.as_slice.ensures.value in
    seen_left a.slots a.cursors.items a.marks.items a.hooked a.relays a.others a.has_gone c.self.invariant.kept c.args.id c.is_any_open-self-inside.result c.leave.new.self c.unmark.new.marks.items c.args.self.now c.self.view_is open_is c.leave.ensures c.unmark.ensures.marks

pub returns-clause-by_key : goal.returns-clause-by_key
returns-clause-by_key c =
    let a = c.self.inside in
    let open_is = c.is_any_open-self-inside.ensures ∙ ap (list_any is_some) c.as_slice.ensures.value in
    unhooked_by_key c.args.self.now (seen_as c.leave.new.self a.cursors.items c.unmark.new.marks.items a.hooked) c.args.id
    (seen_left a.slots a.cursors.items a.marks.items a.hooked a.relays a.others a.has_gone c.self.invariant.kept c.args.id c.is_any_open-self-inside.result c.leave.new.self c.unmark.new.marks.items c.args.self.now c.self.view_is open_is c.leave.ensures c.unmark.ensures.marks)

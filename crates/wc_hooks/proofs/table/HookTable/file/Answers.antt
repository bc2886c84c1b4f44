use Rattle.std.proofs.Common.{◌∙◌, ap, refl, arith, subst, ◌+◌, if◌then◌else◌}
use Rattle.std.specs.Prelude.{not}
use Rattle.wc_hooks.specs.declared.entry.HookId.{HookId}
use Rattle.wc_hooks.specs.Inside.{seen_as}
use Rattle.wc_hooks.specs.Rows.{new_row}
use Rattle.wc_hooks.specs.Table.{IsHookTable, with_row}
use Rattle.wc_hooks.proofs.Windows.{all_low}
use Rattle.wc_hooks.proofs.Calls.{law_of, kept_put, seen_put, few_relays, few_others}
use Rattle.wc_hooks.proofs.ByKey.{hooked_by_key, next_is_fresh}
use Rattle.wc_hooks.proofs.table.HookTable.file.Goals as goal

pub move_all-requires : goal.move_all-requires
move_all-requires c =
    let short = c.in_ok-at.ensures.short in
    all_low c.self.inside.hooked c.self.inside.slots c.self.inside.cursors.items (omega (arith, short)) c.self.invariant.kept.standing

pub invariant_of-self-2 : goal.invariant_of-self-2
invariant_of-self-2 c =
    let a = c.self.inside in
    let k = c.self.invariant.kept.counted in
    let n_is = c.one_more-self-inside.ensures ∙ ap (λ b. if b then a.relays + 1 else a.relays) c.is_relay.ensures in
    let m_is = c.one_more-self-inside-2.ensures ∙ ap (λ b. if not b then a.others + 1 else a.others) c.is_relay-2.ensures in
    record {
      kept = kept_put a.slots a.cursors.items a.marks.items a.hooked a.relays a.others a.has_gone c.self.invariant.kept _ c.in_ok-at.at _ _ c.put.new.self c.move_all.new.cursors.items c.in_ok-at.ensures.within c.in_ok-at.ensures.order c.in_ok-at.ensures.there c.move_all.ensures refl refl n_is m_is
          (λ relay. few_relays a.slots a.cursors.items a.marks.items a.hooked a.relays c.args.self.now c.self.view_is k.relays (c.requires.relays relay))
          (λ other. few_others a.slots a.cursors.items a.marks.items a.hooked a.others c.args.kind c.args.self.now c.self.view_is k.others k.most_others c.requires.others other);
      room = c.self.invariant.room;
    }

pub returns-clause-filed : goal.returns-clause-filed
returns-clause-filed c =
    let a = c.self.inside in
    let id : HookId = record { 0 = a.hooked + 1 } in
    seen_put a.slots a.cursors.items a.marks.items a.hooked a.relays a.others a.has_gone c.self.invariant.kept _ c.in_ok-at.at c.put.new.self c.move_all.new.cursors.items c.args.self.now c.self.view_is c.in_ok-at.ensures.order c.in_ok-at.ensures.there c.move_all.ensures refl refl
    ∙ ap (λ key. with_row (new_row id c.args.kind key c.args.priority c.args.owner) c.args.self.now) c.in_ok-key.ensures

pub returns-clause-by_key : goal.returns-clause-by_key
returns-clause-by_key c =
    let a = c.self.inside in
    let id : HookId = record { 0 = a.hooked + 1 } in
    hooked_by_key c.args.self.now (seen_as c.put.new.self c.move_all.new.cursors.items a.marks.items (a.hooked + 1)) (new_row id c.args.kind c.args.key.now c.args.priority c.args.owner) (subst IsHookTable c.self.view_is (law_of a.slots a.cursors.items a.marks.items a.hooked a.relays a.others a.has_gone c.self.invariant.kept))
    (seen_put a.slots a.cursors.items a.marks.items a.hooked a.relays a.others a.has_gone c.self.invariant.kept _ c.in_ok-at.at c.put.new.self c.move_all.new.cursors.items c.args.self.now c.self.view_is c.in_ok-at.ensures.order c.in_ok-at.ensures.there c.move_all.ensures refl refl
    ∙ ap (λ key. with_row (new_row id c.args.kind key c.args.priority c.args.owner) c.args.self.now) c.in_ok-key.ensures)

pub returns-clause-fresh : goal.returns-clause-fresh
returns-clause-fresh c = let a = c.self.inside in next_is_fresh c.args.self.now _ (subst IsHookTable c.self.view_is (law_of a.slots a.cursors.items a.marks.items a.hooked a.relays a.others a.has_gone c.self.invariant.kept)) (ap (λ t. t.hooked + 1) c.self.view_is)

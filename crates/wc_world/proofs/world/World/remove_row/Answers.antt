use Rattle.std.proofs.Common.{◌≡◌, ◌-◌, ◌∙◌, true, None, is_some, refl, ap, sym, arith}
use Rattle.wc_buffers.proofs.RefusalLemmas.{there_good}
use Rattle.wc_nicklist.specs.Calls as calls
use Rattle.wc_nicklist.specs.Order.{key_at}
use Rattle.wc_nicklist.specs.Rows.{find_row, remove_row}
use Rattle.wc_model.specs.Apply.{removes_row}
use Rattle.wc_model.specs.World.{World, rows_at}
use Rattle.wc_world.specs.Kept.{world_of}
use Rattle.wc_world.specs.Nicks.{list_at, rows_of, rows_map, remove_of}
use Rattle.wc_world.proofs.FlipsDone.{not_planned}
use Rattle.wc_world.proofs.NickLemmas.{rows_listed, rows_there}
use Rattle.wc_world.proofs.NicksDone.{may_edit, removing_refused, after_removing, is_removing, row_touched, nicked, row_counted, removed_kept}
use Rattle.wc_world.proofs.world.World.remove_row.Goals as goal

pub returns-in-Some-clause-outcome : goal.returns-in-Some-clause-outcome
returns-in-Some-clause-outcome g c = not_planned c.args.self.now c.args.self.now _ c.in-Some.refused _ refl refl
    (λ n. removing_refused c.args.self.now c.args.h c.args.is_group c.args.name ∙ sym c.remove_refusal.ensures ∙ c.in-Some.is)

pub take-requires-clause-free : goal.take-requires-clause-free
take-requires-clause-free g c =
    let w = world_of c.self.inside.buffers c.self.inside.held (rows_map c.self.inside.nicks) c.self.inside.limit c.self.inside.next in
    let may = may_edit w c.args.h (calls.remove_refusal c.args.is_group c.args.name (rows_at w c.args.h.0)) (ap (λ (v : World). removes_row v c.args.h c.args.is_group c.args.name) c.self.view_is ∙ sym c.remove_refusal.ensures ∙ c.in_default.is) in
    ap (calls.remove_refusal c.args.is_group c.args.name) (sym (rows_there c.self.inside.nicks c.args.h.0)) ∙ may.free

pub overflow_sub-self : goal.overflow_sub-self
overflow_sub-self g c =
    let w = world_of c.self.inside.buffers c.self.inside.held (rows_map c.self.inside.nicks) c.self.inside.limit c.self.inside.next in
    let may = may_edit w c.args.h (calls.remove_refusal c.args.is_group c.args.name (rows_at w c.args.h.0)) (ap (λ (v : World). removes_row v c.args.h c.args.is_group c.args.name) c.self.view_is ∙ sym c.remove_refusal.ensures ∙ c.in_default.is) in
    let there : is_some (list_at c.self.inside.nicks c.args.h.0) ≡ true = c.self.invariant.1.stored c.args.h.0 ∙ there_good c.args.h c.self.inside.buffers may.there in
    row_counted c.self.inside.buffers c.self.inside.nicks c.self.inside.nicks c.self.inside.row_count c.args.h.0 c.self.invariant.1 there c.args.is_group c.args.name (ap (calls.remove_refusal c.args.is_group c.args.name) (sym (rows_there c.self.inside.nicks c.args.h.0)) ∙ may.free)

pub invariant_of-self : goal.invariant_of-self
invariant_of-self g c =
    let w = world_of c.self.inside.buffers c.self.inside.held (rows_map c.self.inside.nicks) c.self.inside.limit c.self.inside.next in
    let may = may_edit w c.args.h (calls.remove_refusal c.args.is_group c.args.name (rows_at w c.args.h.0)) (ap (λ (v : World). removes_row v c.args.h c.args.is_group c.args.name) c.self.view_is ∙ sym c.remove_refusal.ensures ∙ c.in_default.is) in
    let there : is_some (list_at c.self.inside.nicks c.args.h.0) ≡ true = c.self.invariant.1.stored c.args.h.0 ∙ there_good c.args.h c.self.inside.buffers may.there in
    let free : calls.remove_refusal c.args.is_group c.args.name (rows_of (list_at c.self.inside.nicks c.args.h.0)) ≡ None = ap (calls.remove_refusal c.args.is_group c.args.name) (sym (rows_there c.self.inside.nicks c.args.h.0)) ∙ may.free in
    let some = row_counted c.self.inside.buffers c.self.inside.nicks c.self.inside.nicks c.self.inside.row_count c.args.h.0 c.self.invariant.1 there c.args.is_group c.args.name free in
    (c.self.invariant.0, removed_kept c.self.inside.buffers c.self.inside.nicks c.take.new.lists c.self.inside.row_count c.args.h.0 c.self.invariant.1 there (c.self.inside.row_count - 1) c.args.is_group c.args.name c.take.ensures free (omega (arith, some)))

pub returns-clause-outcome : goal.returns-clause-outcome
returns-clause-outcome g c =
    let w = world_of c.self.inside.buffers c.self.inside.held (rows_map c.self.inside.nicks) c.self.inside.limit c.self.inside.next in
    let may = may_edit w c.args.h (calls.remove_refusal c.args.is_group c.args.name (rows_at w c.args.h.0)) (ap (λ (v : World). removes_row v c.args.h c.args.is_group c.args.name) c.self.view_is ∙ sym c.remove_refusal.ensures ∙ c.in_default.is) in
    let there : is_some (list_at c.self.inside.nicks c.args.h.0) ≡ true = c.self.invariant.1.stored c.args.h.0 ∙ there_good c.args.h c.self.inside.buffers may.there in
    nicked c.self.inside.buffers c.self.inside.held c.self.inside.nicks c.take.new.lists c.self.inside.limit c.self.inside.next c.self.inside.next c.args.self.now c.args.h (remove_of c.args.is_group c.args.name) (key_at c.args.is_group c.args.name) (remove_row (key_at c.args.is_group c.args.name)) c.in-Ok.full_name c.told.result
    c.self.invariant.0 c.self.view_is (removing_refused c.args.self.now c.args.h c.args.is_group c.args.name ∙ sym c.remove_refusal.ensures ∙ c.in_default.is)
    (is_removing c.args.is_group c.args.name) there c.take.ensures (after_removing w c.args.h c.args.is_group c.args.name) c.in-Ok.ensures c.told.ensures

pub returns-clause-touched : goal.returns-clause-touched
returns-clause-touched g c =
    let w = world_of c.self.inside.buffers c.self.inside.held (rows_map c.self.inside.nicks) c.self.inside.limit c.self.inside.next in
    let own = rows_listed c.self.inside.nicks c.args.h.0 c.at.result.now c.at.ensures in
    row_touched w c.args.self.now c.args.h (remove_of c.args.is_group c.args.name) (key_at c.args.is_group c.args.name) (key_at c.args.is_group c.args.name) (find_row (key_at c.args.is_group c.args.name) c.at.result.now.rows) _ _ c.self.view_is (is_removing c.args.is_group c.args.name) refl
    (ap (find_row (key_at c.args.is_group c.args.name)) (sym own)) c.in-Ok-touch_row.ensures.ok

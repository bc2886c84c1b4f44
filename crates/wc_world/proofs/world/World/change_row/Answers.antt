use Rattle.std.proofs.Common.{◌≡◌, ◌∙◌, true, is_some, refl, ap, sym, subst}
use Rattle.wc_buffers.proofs.RefusalLemmas.{there_good}
use Rattle.wc_nicklist.specs.Calls as calls
use Rattle.wc_nicklist.specs.Order.{key_at}
use Rattle.wc_nicklist.specs.Rows.{find_row, change_row, TextsAreUtf8}
use Rattle.wc_nicklist.specs.declared.item.Item.{Item}
use Rattle.wc_model.specs.Apply.{changes_row, item_with, handle_in}
use Rattle.wc_model.specs.World.{World, rows_at}
use Rattle.wc_world.specs.Kept.{world_of}
use Rattle.wc_world.specs.Nicks.{list_at, rows_map, change_of_rows, with_edit, IsCut, IsListChangedAt}
use Rattle.wc_world.proofs.CutItems.{item_cut, item_text}
use Rattle.wc_world.proofs.FlipsDone.{not_planned}
use Rattle.wc_world.proofs.NickLemmas.{rows_listed, rows_there}
use Rattle.wc_world.proofs.NicksDone.{may_edit, changing_refused, after_changing, is_changing, row_touched, nicked, changed_kept}
use Rattle.wc_world.proofs.world.World.change_row.Goals as goal

pub returns-in-Some-clause-outcome : goal.returns-in-Some-clause-outcome
returns-in-Some-clause-outcome g c = not_planned c.args.self.now c.args.self.now _ c.in-Some.refused _ refl refl
    (λ n. changing_refused c.args.self.now c.args.h c.args.is_group c.args.item ∙ sym c.change_refusal.ensures ∙ c.in-Some.is)

pub write-requires-clause-free : goal.write-requires-clause-free
write-requires-clause-free g c =
    let w = world_of c.self.inside.buffers c.self.inside.held (rows_map c.self.inside.nicks) c.self.inside.limit c.self.inside.next in
    let may = may_edit w c.args.h (calls.change_refusal c.args.is_group c.args.item.name (rows_at w c.args.h.0)) (ap (λ (v : World). changes_row v c.args.h c.args.is_group c.args.item) c.self.view_is ∙ sym c.change_refusal.ensures ∙ c.in_default.is) in
    (λ i. calls.change_refusal c.args.is_group (c.in_ok-item.ensures.item i).name (sym (rows_there c.self.inside.nicks c.args.h.0) i)) ∙ may.free

pub write-requires-clause-text : goal.write-requires-clause-text
write-requires-clause-text g c = subst TextsAreUtf8 (sym c.in_ok-item.ensures.item) (item_text _ c.args.item c.requires)

pub invariant_of-self : goal.invariant_of-self
invariant_of-self g c =
    let w = world_of c.self.inside.buffers c.self.inside.held (rows_map c.self.inside.nicks) c.self.inside.limit c.self.inside.next in
    let may = may_edit w c.args.h (calls.change_refusal c.args.is_group c.args.item.name (rows_at w c.args.h.0)) (ap (λ (v : World). changes_row v c.args.h c.args.is_group c.args.item) c.self.view_is ∙ sym c.change_refusal.ensures ∙ c.in_default.is) in
    let there : is_some (list_at c.self.inside.nicks c.args.h.0) ≡ true = c.self.invariant.1.stored c.args.h.0 ∙ there_good c.args.h c.self.inside.buffers may.there in
    let text : TextsAreUtf8 c.in_ok-item.item = subst TextsAreUtf8 (sym c.in_ok-item.ensures.item) (item_text _ c.args.item c.requires) in
    let cut : IsCut c.in_ok-item.item = subst IsCut (sym c.in_ok-item.ensures.item) (item_cut _ c.args.item) in
    (c.self.invariant.0, changed_kept c.self.inside.buffers c.self.inside.nicks c.write.new.lists c.self.inside.row_count c.args.h.0 c.self.invariant.1 there (key_at c.args.is_group c.in_ok-item.item.name) c.in_ok-item.item c.write.ensures text cut)

pub returns-clause-outcome : goal.returns-clause-outcome
returns-clause-outcome g c =
    let w = world_of c.self.inside.buffers c.self.inside.held (rows_map c.self.inside.nicks) c.self.inside.limit c.self.inside.next in
    let may = may_edit w c.args.h (calls.change_refusal c.args.is_group c.args.item.name (rows_at w c.args.h.0)) (ap (λ (v : World). changes_row v c.args.h c.args.is_group c.args.item) c.self.view_is ∙ sym c.change_refusal.ensures ∙ c.in_default.is) in
    let there : is_some (list_at c.self.inside.nicks c.args.h.0) ≡ true = c.self.invariant.1.stored c.args.h.0 ∙ there_good c.args.h c.self.inside.buffers may.there in
    let own = rows_listed c.self.inside.nicks c.args.h.0 c.at.result.now c.at.ensures in
    let stood : find_row (key_at c.args.is_group c.args.item.name) c.at.result.now.rows ≡ find_row (key_at c.args.is_group c.args.item.name) (rows_at w c.args.h.0) = ap (find_row (key_at c.args.is_group c.args.item.name)) (sym own) in
    let item : c.in_ok-item.item ≡ item_with (handle_in (find_row (key_at c.args.is_group c.args.item.name) (rows_at w c.args.h.0))) c.args.item = c.in_ok-item.ensures.item ∙ ap (λ row. item_with (handle_in row) c.args.item) stood in
    let written : IsListChangedAt c.args.h.0 (with_edit (change_row (key_at c.args.is_group c.args.item.name) (item_with (handle_in (find_row (key_at c.args.is_group c.args.item.name) (rows_at w c.args.h.0))) c.args.item))) c.self.inside.nicks c.write.new.lists =
    subst (λ (i : Item). IsListChangedAt c.args.h.0 (with_edit (change_row (key_at c.args.is_group i.name) i)) c.self.inside.nicks c.write.new.lists) item c.write.ensures in
    nicked c.self.inside.buffers c.self.inside.held c.self.inside.nicks c.write.new.lists c.self.inside.limit c.self.inside.next c.self.inside.next c.args.self.now c.args.h (change_of_rows c.args.is_group c.args.item) (key_at c.args.is_group c.args.item.name)
    (change_row (key_at c.args.is_group c.args.item.name) (item_with (handle_in (find_row (key_at c.args.is_group c.args.item.name) (rows_at w c.args.h.0))) c.args.item)) c.in-Ok.full_name c.told.result
    c.self.invariant.0 c.self.view_is (changing_refused c.args.self.now c.args.h c.args.is_group c.args.item ∙ sym c.change_refusal.ensures ∙ c.in_default.is)
    (is_changing c.args.is_group c.args.item) there written (after_changing w c.args.h c.args.is_group c.args.item) c.in-Ok.ensures c.told.ensures

pub returns-clause-touched : goal.returns-clause-touched
returns-clause-touched g c =
    let w = world_of c.self.inside.buffers c.self.inside.held (rows_map c.self.inside.nicks) c.self.inside.limit c.self.inside.next in
    let own = rows_listed c.self.inside.nicks c.args.h.0 c.at.result.now c.at.ensures in
    row_touched w c.args.self.now c.args.h (change_of_rows c.args.is_group c.args.item) (key_at c.args.is_group c.args.item.name) (key_at c.args.is_group c.args.item.name) (find_row (key_at c.args.is_group c.args.item.name) c.at.result.now.rows) _ _ c.self.view_is (is_changing c.args.is_group c.args.item) refl (ap (find_row (key_at c.args.is_group c.args.item.name)) (sym own)) c.in_ok-item.ensures.ok

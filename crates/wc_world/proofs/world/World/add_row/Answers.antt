use Rattle.std.proofs.Common.{◌≡◌, ℕ, ◌+◌, ◌∙◌, true, None, Some, is_some, refl, ap, sym, subst, arith}
use Rattle.wc_buffers.proofs.RefusalLemmas.{there_good}
use Rattle.wc_nicklist.specs.Calls as calls
use Rattle.wc_nicklist.specs.Order.{key_at}
use Rattle.wc_nicklist.specs.Rows.{TextsAreUtf8}
use Rattle.wc_nicklist.proofs.Refusals as nicklist
use Rattle.wc_model.specs.declared.refused.ChangeRefused.{ChangeRefused}
use Rattle.wc_model.specs.Apply.{adds_row, item_with}
use Rattle.wc_model.specs.World.{World, rows_at, row_count}
use Rattle.wc_world.specs.Kept.{world_of}
use Rattle.wc_world.specs.Nicks.{list_at, rows_of, rows_map, add_of, with_edit, IsCut, IsListChangedAt}
use Rattle.wc_world.proofs.CutItems.{item_cut, item_text}
use Rattle.wc_world.proofs.Done.{kept_drawn, same_some}
use Rattle.wc_world.proofs.FlipsDone.{not_planned}
use Rattle.wc_world.proofs.NickLemmas.{same_rows, room_made, rows_stay, rows_there, through_room, kept_shown}
use Rattle.wc_world.proofs.NicksDone.{MayAdd, may_add, adding_refused, after_adding, is_adding, row_touched, nicked, added_kept}
use Rattle.wc_world.proofs.Refused.{out_of_memory}
use Rattle.wc_world.proofs.world.World.add_row.Goals as goal

pub returns-in-Some-clause-outcome : goal.returns-in-Some-clause-outcome
returns-in-Some-clause-outcome g c = not_planned c.args.self.now c.args.self.now _ c.in-Some.refused _ refl refl
    (λ n. adding_refused c.args.self.now c.args.h c.args.is_group c.args.parent.now c.args.item
    ∙ sym (c.add_refusal.ensures (λ p. n (same_some c.in-Some.refused ChangeRefused.NoMemory (sym c.in-Some.is ∙ p)))) ∙ c.in-Some.is)

pub invariant_of-self : goal.invariant_of-self
invariant_of-self g c = (c.self.invariant.0, kept_shown c.self.inside.buffers c.self.inside.buffers c.self.inside.nicks c.touch_room.new.lists c.self.inside.row_count refl c.in_default-touch_room.ensures.same c.self.invariant.1)

pub returns-in_default-touch_room-clause-outcome : goal.returns-in_default-touch_room-clause-outcome
returns-in_default-touch_room-clause-outcome g c = out_of_memory c.args.self.now _ (record { buffer = c.args.h; what = add_of c.args.is_group c.args.parent.now c.args.item }) _ refl
    (ap (λ ns. world_of c.self.inside.buffers c.self.inside.held ns c.self.inside.limit c.self.inside.next) (same_rows c.self.inside.nicks c.touch_room.new.lists c.in_default-touch_room.ensures.same) ∙ c.self.view_is)

pub put-requires-clause-room : goal.put-requires-clause-room
put-requires-clause-room g c =
    let w = world_of c.self.inside.buffers c.self.inside.held (rows_map c.self.inside.nicks) c.self.inside.limit c.self.inside.next in
    let may : MayAdd w c.args.h c.args.is_group c.args.parent.now c.args.item = may_add w c.args.h c.args.is_group c.args.parent.now c.args.item
    (ap (λ (v : World). adds_row v c.args.h c.args.is_group c.args.parent.now c.args.item) c.self.view_is ∙ sym (c.add_refusal.ensures (λ p. let z : None ≡ Some ChangeRefused.NoMemory = sym c.in_default.is ∙ p in cc)) ∙ c.in_default.is) in
    let there : is_some (list_at c.self.inside.nicks c.args.h.0) ≡ true = c.self.invariant.1.stored c.args.h.0 ∙ there_good c.args.h c.self.inside.buffers may.there in
    room_made c.self.inside.nicks c.touch_room.new.lists c.self.inside.nicks c.args.h.0 c.args.parent.now there c.in-Ok-touch_room.ensures.room

pub put-requires-clause-free : goal.put-requires-clause-free
put-requires-clause-free g c =
    let w = world_of c.self.inside.buffers c.self.inside.held (rows_map c.self.inside.nicks) c.self.inside.limit c.self.inside.next in
    let may : MayAdd w c.args.h c.args.is_group c.args.parent.now c.args.item = may_add w c.args.h c.args.is_group c.args.parent.now c.args.item
    (ap (λ (v : World). adds_row v c.args.h c.args.is_group c.args.parent.now c.args.item) c.self.view_is ∙ sym (c.add_refusal.ensures (λ p. let z : None ≡ Some ChangeRefused.NoMemory = sym c.in_default.is ∙ p in cc)) ∙ c.in_default.is) in
    let rows = rows_stay c.self.inside.nicks c.touch_room.new.lists c.self.inside.nicks c.args.h.0 c.args.parent.now c.in-Ok-touch_room.ensures.room ∙ sym (rows_there c.self.inside.nicks c.args.h.0) in
    (λ i. calls.add_refusal c.args.is_group c.args.parent.now (c.in-Ok-item_with.ensures i).name (rows i)) ∙ may.free

pub put-requires-clause-text : goal.put-requires-clause-text
put-requires-clause-text g c = subst TextsAreUtf8 (sym c.in-Ok-item_with.ensures) (item_text _ c.args.item c.requires)

pub invariant_of-self-2 : goal.invariant_of-self-2
invariant_of-self-2 g c =
    let w = world_of c.self.inside.buffers c.self.inside.held (rows_map c.self.inside.nicks) c.self.inside.limit c.self.inside.next in
    let may : MayAdd w c.args.h c.args.is_group c.args.parent.now c.args.item = may_add w c.args.h c.args.is_group c.args.parent.now c.args.item
    (ap (λ (v : World). adds_row v c.args.h c.args.is_group c.args.parent.now c.args.item) c.self.view_is ∙ sym (c.add_refusal.ensures (λ p. let z : None ≡ Some ChangeRefused.NoMemory = sym c.in_default.is ∙ p in cc)) ∙ c.in_default.is) in
    let there : is_some (list_at c.self.inside.nicks c.args.h.0) ≡ true = c.self.invariant.1.stored c.args.h.0 ∙ there_good c.args.h c.self.inside.buffers may.there in
    let edit = through_room c.self.inside.nicks c.touch_room.new.lists c.put.new.lists c.args.h.0 c.args.parent.now (calls.add_row c.args.is_group c.args.parent.now c.in-Ok-item_with.item) c.in-Ok-touch_room.ensures.room c.put.ensures in
    let free : calls.add_refusal c.args.is_group c.args.parent.now c.in-Ok-item_with.item.name (rows_of (list_at c.self.inside.nicks c.args.h.0)) ≡ None = (λ i. calls.add_refusal c.args.is_group c.args.parent.now (c.in-Ok-item_with.ensures i).name (sym (rows_there c.self.inside.nicks c.args.h.0) i)) ∙ may.free in
    let text : TextsAreUtf8 c.in-Ok-item_with.item = subst TextsAreUtf8 (sym c.in-Ok-item_with.ensures) (item_text _ c.args.item c.requires) in
    let cut : IsCut c.in-Ok-item_with.item = subst IsCut (sym c.in-Ok-item_with.ensures) (item_cut _ c.args.item) in
    let counted : c.self.inside.row_count ≡ row_count w = c.self.invariant.1.counted in
    let few = may.room in
    let left = may.left in (
      kept_drawn c.self.inside.buffers c.self.inside.held c.self.inside.limit c.self.inside.next (c.self.inside.next + 1) (omega arith) left c.self.invariant.0,
      added_kept c.self.inside.buffers c.self.inside.nicks c.put.new.lists c.self.inside.row_count c.args.h.0 c.self.invariant.1 there c.args.is_group c.args.parent.now c.in-Ok-item_with.item edit free text cut (omega (arith, counted, few)),
    )

pub returns-clause-outcome : goal.returns-clause-outcome
returns-clause-outcome g c =
    let w = world_of c.self.inside.buffers c.self.inside.held (rows_map c.self.inside.nicks) c.self.inside.limit c.self.inside.next in
    let may : MayAdd w c.args.h c.args.is_group c.args.parent.now c.args.item = may_add w c.args.h c.args.is_group c.args.parent.now c.args.item
    (ap (λ (v : World). adds_row v c.args.h c.args.is_group c.args.parent.now c.args.item) c.self.view_is ∙ sym (c.add_refusal.ensures (λ p. let z : None ≡ Some ChangeRefused.NoMemory = sym c.in_default.is ∙ p in cc)) ∙ c.in_default.is) in
    let there : is_some (list_at c.self.inside.nicks c.args.h.0) ≡ true = c.self.invariant.1.stored c.args.h.0 ∙ there_good c.args.h c.self.inside.buffers may.there in
    let next : ℕ = c.self.inside.next in
    let edit = through_room c.self.inside.nicks c.touch_room.new.lists c.put.new.lists c.args.h.0 c.args.parent.now (calls.add_row c.args.is_group c.args.parent.now c.in-Ok-item_with.item) c.in-Ok-touch_room.ensures.room c.put.ensures in
    let drawn : IsListChangedAt c.args.h.0 (with_edit (calls.add_row c.args.is_group c.args.parent.now (item_with (record { 0 = next }) c.args.item))) c.self.inside.nicks c.put.new.lists =
    subst (λ i. IsListChangedAt c.args.h.0 (with_edit (calls.add_row c.args.is_group c.args.parent.now i)) c.self.inside.nicks c.put.new.lists) c.in-Ok-item_with.ensures edit in
    nicked c.self.inside.buffers c.self.inside.held c.self.inside.nicks c.put.new.lists c.self.inside.limit next (next + 1) c.args.self.now c.args.h (add_of c.args.is_group c.args.parent.now c.args.item) (key_at c.args.is_group c.args.item.name) (calls.add_row c.args.is_group c.args.parent.now (item_with (record { 0 = next }) c.args.item)) c.in-Ok.full_name c.told.result
    c.self.invariant.0 c.self.view_is (adding_refused c.args.self.now c.args.h c.args.is_group c.args.parent.now c.args.item ∙ sym (c.add_refusal.ensures (λ p. let z : None ≡ Some ChangeRefused.NoMemory = sym c.in_default.is ∙ p in cc)) ∙ c.in_default.is)
    (is_adding c.args.is_group c.args.parent.now c.args.item) there drawn (after_adding w c.args.h c.args.is_group c.args.parent.now c.args.item) c.in-Ok.ensures c.told.ensures

pub returns-clause-touched : goal.returns-clause-touched
returns-clause-touched g c =
    let w = world_of c.self.inside.buffers c.self.inside.held (rows_map c.self.inside.nicks) c.self.inside.limit c.self.inside.next in
    let may : MayAdd w c.args.h c.args.is_group c.args.parent.now c.args.item = may_add w c.args.h c.args.is_group c.args.parent.now c.args.item
    (ap (λ (v : World). adds_row v c.args.h c.args.is_group c.args.parent.now c.args.item) c.self.view_is ∙ sym (c.add_refusal.ensures (λ p. let z : None ≡ Some ChangeRefused.NoMemory = sym c.in_default.is ∙ p in cc)) ∙ c.in_default.is) in
    row_touched w c.args.self.now c.args.h (add_of c.args.is_group c.args.parent.now c.args.item) (key_at c.args.is_group c.args.item.name) (key_at c.args.is_group c.in-Ok-item_with.item.name) None _ _ c.self.view_is (is_adding c.args.is_group c.args.parent.now c.args.item) (λ i. key_at c.args.is_group (c.in-Ok-item_with.ensures i).name)
    (sym (nicklist.may_add c.args.is_group c.args.item.name (rows_at w c.args.h.0) c.args.parent.now may.free).absent) c.in-Ok-touch_room.ensures.ok

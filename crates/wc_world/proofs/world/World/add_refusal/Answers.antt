use Rattle.std.proofs.Common.{◌≡◌, ◌∙◌, None, ap, sym, arith}
use Rattle.wc_nicklist.specs.Calls as calls
use Rattle.wc_model.specs.Apply.{adds_row}
use Rattle.wc_model.specs.World.{World, rows_at, row_count}
use Rattle.wc_world.specs.Kept.{world_of}
use Rattle.wc_world.specs.Nicks.{rows_map}
use Rattle.wc_world.proofs.NickLemmas.{rows_listed}
use Rattle.wc_world.proofs.NicksDone.{of_list, add_refused, add_full, add_spent, add_free}
use Rattle.wc_world.proofs.world.World.add_refusal.Goals as goal

pub returns-in-Some-add_refusal : goal.returns-in-Some-add_refusal
returns-in-Some-add_refusal c = λ n.
    let w = world_of c.self.inside.buffers c.self.inside.held (rows_map c.self.inside.nicks) c.self.inside.limit c.self.inside.next in
    let own = rows_listed c.self.inside.nicks c.args.h.0 c.at-list.result.now c.at-list.ensures in
    of_list c.in-Some-add_refusal.refused c.refused_by.result (adds_row c.args.self.now c.args.h c.args.is_group c.args.parent.now c.args.item.now) c.refused_by.ensures
    (λ m. ap (λ (v : World). adds_row v c.args.h c.args.is_group c.args.parent.now c.args.item.now) (sym c.self.view_is)
    ∙ add_refused w c.args.h c.args.is_group c.args.parent.now c.args.item.now c.in-Some-add_refusal.refused (sym c.no_buffer.ensures ∙ c.in_default.is)
    ((λ i. calls.add_refusal c.args.is_group c.args.parent.now (sym c.as_slice.ensures i) (own i)) ∙ c.in-Some-add_refusal.ensures.some m)) n

pub returns-then-self-ge-ROW_LIMIT : goal.returns-then-self-ge-ROW_LIMIT
returns-then-self-ge-ROW_LIMIT c = λ n.
    let w = world_of c.self.inside.buffers c.self.inside.held (rows_map c.self.inside.nicks) c.self.inside.limit c.self.inside.next in
    let own = rows_listed c.self.inside.nicks c.args.h.0 c.at-list.result.now c.at-list.ensures in
    let free : calls.add_refusal c.args.is_group c.args.parent.now c.args.item.now.name (rows_at w c.args.h.0) ≡ None = (λ i. calls.add_refusal c.args.is_group c.args.parent.now (sym c.as_slice.ensures i) (own i)) ∙ c.add_refusal.ensures.none c.in_default-add_refusal.is in
    let counted : c.self.inside.row_count ≡ row_count w = c.self.invariant.1.counted in
    let full = c.if-self-ge-ROW_LIMIT.true in
    sym (ap (λ (v : World). adds_row v c.args.h c.args.is_group c.args.parent.now c.args.item.now) (sym c.self.view_is)
    ∙ add_full w c.args.h c.args.is_group c.args.parent.now c.args.item.now (sym c.no_buffer.ensures ∙ c.in_default.is) free (omega (arith, counted, full)))

pub returns-then-self-gt-LAST_HANDLE : goal.returns-then-self-gt-LAST_HANDLE
returns-then-self-gt-LAST_HANDLE c = λ n.
    let w = world_of c.self.inside.buffers c.self.inside.held (rows_map c.self.inside.nicks) c.self.inside.limit c.self.inside.next in
    let own = rows_listed c.self.inside.nicks c.args.h.0 c.at-list.result.now c.at-list.ensures in
    let free : calls.add_refusal c.args.is_group c.args.parent.now c.args.item.now.name (rows_at w c.args.h.0) ≡ None = (λ i. calls.add_refusal c.args.is_group c.args.parent.now (sym c.as_slice.ensures i) (own i)) ∙ c.add_refusal.ensures.none c.in_default-add_refusal.is in
    let counted : c.self.inside.row_count ≡ row_count w = c.self.invariant.1.counted in
    let few = c.if-self-ge-ROW_LIMIT.false in
    let spent = c.if-self-gt-LAST_HANDLE.true in
    sym (ap (λ (v : World). adds_row v c.args.h c.args.is_group c.args.parent.now c.args.item.now) (sym c.self.view_is)
    ∙ add_spent w c.args.h c.args.is_group c.args.parent.now c.args.item.now (sym c.no_buffer.ensures ∙ c.in_default.is) free (omega (arith, counted, few)) (omega (arith, spent)))

pub returns : goal.returns
returns c = λ n.
    let w = world_of c.self.inside.buffers c.self.inside.held (rows_map c.self.inside.nicks) c.self.inside.limit c.self.inside.next in
    let own = rows_listed c.self.inside.nicks c.args.h.0 c.at-list.result.now c.at-list.ensures in
    let free : calls.add_refusal c.args.is_group c.args.parent.now c.args.item.now.name (rows_at w c.args.h.0) ≡ None = (λ i. calls.add_refusal c.args.is_group c.args.parent.now (sym c.as_slice.ensures i) (own i)) ∙ c.add_refusal.ensures.none c.in_default-add_refusal.is in
    let counted : c.self.inside.row_count ≡ row_count w = c.self.invariant.1.counted in
    let few = c.if-self-ge-ROW_LIMIT.false in
    let left = c.if-self-gt-LAST_HANDLE.false in
    sym (ap (λ (v : World). adds_row v c.args.h c.args.is_group c.args.parent.now c.args.item.now) (sym c.self.view_is)
    ∙ add_free w c.args.h c.args.is_group c.args.parent.now c.args.item.now (sym c.no_buffer.ensures ∙ c.in_default.is) free (omega (arith, counted, few)) (omega (arith, left)))

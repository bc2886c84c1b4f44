use Rattle.std.proofs.Common.{◌∙◌, Some, cond, eqb, refl, ap}
use Rattle.std.specs.FinMap.{insert}
use Rattle.wc_buffers.specs.Calls.{new_entry}
use Rattle.wc_nicklist.specs.Rows.{Nicks}
use Rattle.wc_model.specs.Apply.{row_of as new_row}
use Rattle.wc_model.specs.declared.change.What.TheVariants.{Add}
use Rattle.wc_world.specs.Kept.{world_of}
use Rattle.wc_world.specs.Nicks.{list_at, rows_map}
use Rattle.wc_world.proofs.Done.{kept_reserved}
use Rattle.wc_world.proofs.FlipsDone.{not_planned}
use Rattle.wc_world.proofs.NickLemmas.{same_rows, same_lists, put_rows, nicks_opened, no_list}
use Rattle.wc_world.proofs.Opened.{is_new, has_opened, added_done, kept_added}
use Rattle.wc_world.proofs.Refused.{same_stored, out_of_memory, add_refused}
use Rattle.wc_world.proofs.world.World.add.Goals as goal

pub invariant_of-self : goal.invariant_of-self
invariant_of-self c = kept_reserved c.self.inside.buffers c.self.inside.buffers c.self.inside.held c.new_buffer.new.held c.self.inside.nicks c.new_buffer.new.lists c.self.inside.limit c.self.inside.next c.self.inside.row_count refl c.new_buffer.ensures.same_lines c.new_buffer.ensures.same_lists c.self.invariant

pub returns-in_default : goal.returns-in_default
returns-in_default c =
    out_of_memory c.args.self.now _ (record { buffer = c.args.h; what = Add c.args.spec }) _ refl (same_stored c.self.inside.buffers c.self.inside.buffers c.self.inside.held c.new_buffer.new.held (rows_map c.self.inside.nicks) (rows_map c.new_buffer.new.lists) c.self.inside.limit c.self.inside.next c.args.self.now refl c.new_buffer.ensures.same_lines (same_rows c.self.inside.nicks c.new_buffer.new.lists (same_lists c.self.inside.nicks c.new_buffer.new.lists c.new_buffer.ensures.same_lists)) c.self.view_is)

pub put_row-requires-clause-absent : goal.put_row-requires-clause-absent
put_row-requires-clause-absent c = is_new c.self.inside.buffers c.self.inside.held c.self.inside.limit c.self.inside.next c.self.invariant.0

pub invariant_of-self-in-Err : goal.invariant_of-self-in-Err
invariant_of-self-in-Err c = kept_reserved c.self.inside.buffers c.put_row.new.buffers c.self.inside.held c.new_buffer.new.held c.self.inside.nicks c.new_buffer.new.lists c.self.inside.limit c.self.inside.next c.self.inside.row_count c.in-Err.ensures.err c.in-Ok.ensures.same_lines c.in-Ok.ensures.same_lists c.self.invariant

pub returns-in-Err : goal.returns-in-Err
returns-in-Err c =
    let w = world_of c.self.inside.buffers c.self.inside.held (rows_map c.self.inside.nicks) c.self.inside.limit c.self.inside.next in
    let e = c.in-Err.refused in
    not_planned c.args.self.now _ _ e _ refl
    (same_stored c.self.inside.buffers c.put_row.new.buffers c.self.inside.held c.new_buffer.new.held (rows_map c.self.inside.nicks) (rows_map c.new_buffer.new.lists) c.self.inside.limit c.self.inside.next c.args.self.now c.in-Err.ensures.err c.in-Ok.ensures.same_lines (same_rows c.self.inside.nicks c.new_buffer.new.lists (same_lists c.self.inside.nicks c.new_buffer.new.lists c.in-Ok.ensures.same_lists)) c.self.view_is)
    (λ n. add_refused w c.args.self.now c.args.h c.args.spec e c.self.view_is (c.in-Err.ensures.refused n))

pub invariant_of-self-in-Ok-put_row : goal.invariant_of-self-in-Ok-put_row
invariant_of-self-in-Ok-put_row c =
    let next = c.self.inside.next in
    let entry = new_entry (new_row next c.args.spec) c.args.spec.vars in (
      kept_added c.self.inside.buffers c.put_row.new.buffers c.self.inside.held c.store-full_name.new.held (rows_map c.self.inside.nicks) (rows_map c.store-full_name.new.lists) c.self.inside.limit next c.self.invariant.0 c.args.self.now c.self.view_is c.args.h c.store-full_name.result c.told.result entry refl c.in-Ok-put_row.ensures.after
          (λ q. c.store-full_name.ensures.lines q ∙ (λ i. cond (eqb next q) (Some (c.in-Ok.ensures.lines i)) (c.in-Ok.ensures.same_lines q i))) c.in-Ok-put_row.ensures.left,
      nicks_opened c.self.inside.buffers c.put_row.new.buffers c.self.inside.nicks c.store-full_name.new.lists c.self.inside.row_count c.self.invariant.1 next c.in-Ok.buffer.list (ap (λ (x : Nicks). x.rows) c.in-Ok.ensures.list) (ap (λ (x : Nicks). x.root) c.in-Ok.ensures.list)
          (no_list (list_at c.self.inside.nicks next) (c.self.invariant.1.stored next ∙ is_new c.self.inside.buffers c.self.inside.held c.self.inside.limit next c.self.invariant.0))
          (λ q. c.store-full_name.ensures.lists q ∙ ap (cond (eqb next q) (Some c.in-Ok.buffer.list)) (c.in-Ok.ensures.same_lists q))
          (has_opened c.self.inside.buffers c.put_row.new.buffers entry next refl c.in-Ok-put_row.ensures.after),
    )

pub returns-in-Ok-put_row : goal.returns-in-Ok-put_row
returns-in-Ok-put_row c =
    let next = c.self.inside.next in
    let put = put_rows c.self.inside.nicks c.store-full_name.new.lists next c.in-Ok.buffer.list (λ q. c.store-full_name.ensures.lists q ∙ ap (cond (eqb next q) (Some c.in-Ok.buffer.list)) (c.in-Ok.ensures.same_lists q)) in
    added_done c.self.inside.buffers c.put_row.new.buffers c.self.inside.held c.store-full_name.new.held (rows_map c.self.inside.nicks) (rows_map c.store-full_name.new.lists) c.self.inside.limit next c.self.invariant.0 c.args.self.now c.self.view_is c.args.h c.store-full_name.result c.told.result c.args.spec c.in-Ok-put_row.ensures.after c.in-Ok-put_row.ensures.accepted c.in-Ok-put_row.ensures.left
    (λ q. c.store-full_name.ensures.lines q ∙ (λ i. cond (eqb next q) (Some (c.in-Ok.ensures.lines i)) (c.in-Ok.ensures.same_lines q i)))
    (put ∙ ap (λ (x : Nicks). insert (rows_map c.self.inside.nicks) next x.rows) c.in-Ok.ensures.list)
    (c.store-full_name.ensures.name ∙ c.in-Ok.ensures.name) c.told.ensures

use Rattle.std.proofs.Common.{◌∙◌, [], Some, cond, eqb, ap}
use Rattle.wc_buffers.specs.Calls.{with_buffer}
use Rattle.wc_nicklist.specs.Rows.{Nicks}
use Rattle.wc_model.specs.World.{core_row}
use Rattle.wc_world.proofs.First.{has_core}
use Rattle.wc_world.proofs.NickLemmas.{first_rows, first_nicks}
use Rattle.wc_world.proofs.world.core_nicks.Goals as goal

pub returns-clause-held : goal.returns-clause-held
returns-clause-held c = first_nicks (with_buffer core_row [] []) c.new-lists.result c.insert.new.lists c.in-Ok.list c.new-lists.ensures.empty (ap (λ (x : Nicks). x.rows) c.in-Ok.ensures) (ap (λ (x : Nicks). x.root) c.in-Ok.ensures)
    (λ q. c.insert.ensures q ∙ ap (cond (eqb 1 q) (Some c.in-Ok.list)) (c.in_ok-reserve.ensures.same q)) has_core

pub returns-clause-rows : goal.returns-clause-rows
returns-clause-rows c = first_rows c.new-lists.result c.insert.new.lists c.in-Ok.list c.new-lists.ensures.empty (ap (λ (x : Nicks). x.rows) c.in-Ok.ensures)
    (λ q. c.insert.ensures q ∙ ap (cond (eqb 1 q) (Some c.in-Ok.list)) (c.in_ok-reserve.ensures.same q))

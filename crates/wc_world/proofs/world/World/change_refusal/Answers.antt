use Rattle.std.proofs.Common.{◌∙◌, None, Some, ap, sym}
use Rattle.wc_nicklist.specs.Calls as calls
use Rattle.wc_model.specs.Apply.{changes_row}
use Rattle.wc_model.specs.World.{World, rows_at}
use Rattle.wc_world.specs.Kept.{world_of}
use Rattle.wc_world.specs.Nicks.{rows_map}
use Rattle.wc_world.proofs.NickLemmas.{rows_listed}
use Rattle.wc_world.proofs.NicksDone.{edit_answered}
use Rattle.wc_world.proofs.world.World.change_refusal.Goals as goal

pub returns-in-Some-change_refusal : goal.returns-in-Some-change_refusal
returns-in-Some-change_refusal c =
    let w = world_of c.self.inside.buffers c.self.inside.held (rows_map c.self.inside.nicks) c.self.inside.limit c.self.inside.next in
    let own = rows_listed c.self.inside.nicks c.args.h.0 c.at.result.now c.at.ensures in
    sym (ap (λ (v : World). changes_row v c.args.h c.args.is_group c.args.item.now) (sym c.self.view_is)
    ∙ edit_answered w c.args.h (calls.change_refusal c.args.is_group c.args.item.now.name (rows_at w c.args.h.0)) (Some c.in-Some-change_refusal.refused) (sym c.no_buffer.ensures ∙ c.in_default.is)
    ((λ i. calls.change_refusal c.args.is_group (sym c.as_slice.ensures i) (own i)) ∙ sym c.change_refusal.ensures ∙ c.in-Some-change_refusal.is))

pub returns-in-None : goal.returns-in-None
returns-in-None c =
    let w = world_of c.self.inside.buffers c.self.inside.held (rows_map c.self.inside.nicks) c.self.inside.limit c.self.inside.next in
    let own = rows_listed c.self.inside.nicks c.args.h.0 c.at.result.now c.at.ensures in
    sym (ap (λ (v : World). changes_row v c.args.h c.args.is_group c.args.item.now) (sym c.self.view_is)
    ∙ edit_answered w c.args.h (calls.change_refusal c.args.is_group c.args.item.now.name (rows_at w c.args.h.0)) None (sym c.no_buffer.ensures ∙ c.in_default.is)
    ((λ i. calls.change_refusal c.args.is_group (sym c.as_slice.ensures i) (own i)) ∙ sym c.change_refusal.ensures ∙ c.in-None.is))

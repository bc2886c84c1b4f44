use Rattle.std.proofs.Common.{◌∙◌, ◌-◌, [], refl, ap}
use Rattle.wc_buffers.specs.Calls.{handle_of}
use Rattle.wc_buffers.specs.Groups.{has}
use Rattle.wc_model.specs.declared.change.What.TheVariants.{MoveTo}
use Rattle.wc_model.specs.Apply.{refusal_of, of_buffers}
use Rattle.wc_world.specs.Kept.{world_of}
use Rattle.wc_world.specs.Nicks.{rows_map}
use Rattle.wc_world.proofs.Done.{are_apart, kept_grouped, moved_done}
use Rattle.wc_world.proofs.GroupRows.{has-move}
use Rattle.wc_world.proofs.Refused.{groups_refused}
use Rattle.wc_world.proofs.world.World.move_to.Goals as goal

pub returns-in_err-move_to : goal.returns-in_err-move_to
unfolding refusal_of
returns-in_err-move_to c = groups_refused c.self.inside.buffers c.move_to.new.self c.self.inside.held (rows_map c.self.inside.nicks) c.self.inside.limit c.self.inside.next c.args.self.now c.args.h (MoveTo c.args.number) _ c.from_residual-in_err-move_to.result c.from_residual-in_err-move_to.ensures.1 c.in_err-move_to.ensures.err c.self.view_is (λ n. ap of_buffers c.in_err-move_to.ensures.refused)

pub invariant_of-self-2 : goal.invariant_of-self-2
invariant_of-self-2 c = kept_grouped c.self.inside.buffers c.move_to.new.self c.self.inside.held c.self.inside.nicks c.self.inside.limit c.self.inside.next c.self.inside.row_count (λ q. ap (has handle_of q) c.in_ok-move_to.ensures.after ∙ has-move handle_of c.args.h.0 (c.args.number - 1) q c.self.inside.buffers) c.self.invariant

pub returns : goal.returns
returns c = moved_done (world_of c.self.inside.buffers c.self.inside.held (rows_map c.self.inside.nicks) c.self.inside.limit c.self.inside.next) c.args.self.now c.args.h c.move_to.new.self c.in_ok-full_name.full_name [] [] c.told.result c.self.view_is (are_apart c.self.inside.buffers c.self.inside.held (rows_map c.self.inside.nicks) c.self.inside.limit c.self.inside.next c.self.invariant.0) c.in_ok-full_name.ensures refl refl c.args.number c.in_ok-move_to.ensures.after c.in_ok-move_to.ensures.accepted c.told.ensures

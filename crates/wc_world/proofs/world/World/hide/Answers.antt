use Rattle.std.proofs.Common.{◌∙◌, true, [], refl, ap}
use Rattle.wc_buffers.specs.Calls.{handle_of, with_hidden}
use Rattle.wc_buffers.specs.Groups.{has}
use Rattle.wc_model.specs.declared.change.What.TheVariants.{Hide}
use Rattle.wc_model.specs.Apply.{refusal_of, of_buffers}
use Rattle.wc_world.specs.Kept.{world_of}
use Rattle.wc_world.specs.Nicks.{rows_map}
use Rattle.wc_world.proofs.Done.{are_apart, kept_grouped, hidden_done}
use Rattle.wc_world.proofs.GroupRows.{has-update}
use Rattle.wc_world.proofs.Refused.{groups_refused}
use Rattle.wc_world.proofs.world.World.hide.Goals as goal

pub returns-in_err-hide : goal.returns-in_err-hide
unfolding refusal_of
returns-in_err-hide c = groups_refused c.self.inside.buffers c.hide.new.self c.self.inside.held (rows_map c.self.inside.nicks) c.self.inside.limit c.self.inside.next c.args.self.now c.args.h Hide _ c.from_residual-in_err-hide.result c.from_residual-in_err-hide.ensures.1 c.in_err-hide.ensures.err c.self.view_is (λ n. ap of_buffers c.in_err-hide.ensures.refused)

pub invariant_of-self-2 : goal.invariant_of-self-2
invariant_of-self-2 c = kept_grouped c.self.inside.buffers c.hide.new.self c.self.inside.held c.self.inside.nicks c.self.inside.limit c.self.inside.next c.self.inside.row_count (λ q. ap (has handle_of q) c.in_ok-hide.ensures.after ∙ has-update handle_of c.args.h.0 (with_hidden true) (λ x. refl) q c.self.inside.buffers) c.self.invariant

pub returns : goal.returns
returns c = hidden_done (world_of c.self.inside.buffers c.self.inside.held (rows_map c.self.inside.nicks) c.self.inside.limit c.self.inside.next) c.args.self.now c.args.h c.hide.new.self c.in_ok-full_name.full_name [] [] c.told.result c.self.view_is (are_apart c.self.inside.buffers c.self.inside.held (rows_map c.self.inside.nicks) c.self.inside.limit c.self.inside.next c.self.invariant.0) c.in_ok-full_name.ensures refl refl c.in_ok-hide.ensures.after c.in_ok-hide.ensures.accepted c.told.ensures

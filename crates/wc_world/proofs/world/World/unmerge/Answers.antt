use Rattle.std.proofs.Common.{◌∙◌, [], refl, ap}
use Rattle.wc_buffers.specs.Calls.{handle_of}
use Rattle.wc_buffers.specs.Groups.{has}
use Rattle.wc_model.specs.declared.change.What.TheVariants.{Unmerge}
use Rattle.wc_model.specs.Apply.{refusal_of, of_buffers}
use Rattle.wc_world.specs.Kept.{world_of}
use Rattle.wc_world.specs.Nicks.{rows_map}
use Rattle.wc_world.proofs.Done.{are_apart, kept_grouped, unmerged_done}
use Rattle.wc_world.proofs.GroupRows.{has-unmerge}
use Rattle.wc_world.proofs.Refused.{groups_refused}
use Rattle.wc_world.proofs.world.World.unmerge.Goals as goal

pub returns-in_err-unmerge : goal.returns-in_err-unmerge
unfolding refusal_of
returns-in_err-unmerge c = groups_refused c.self.inside.buffers c.unmerge.new.self c.self.inside.held (rows_map c.self.inside.nicks) c.self.inside.limit c.self.inside.next c.args.self.now c.args.h Unmerge _ c.from_residual-in_err-unmerge.result c.from_residual-in_err-unmerge.ensures.1 c.in_err-unmerge.ensures.err c.self.view_is (λ n. ap of_buffers c.in_err-unmerge.ensures.refused)

pub invariant_of-self-2 : goal.invariant_of-self-2
invariant_of-self-2 c = kept_grouped c.self.inside.buffers c.unmerge.new.self c.self.inside.held c.self.inside.nicks c.self.inside.limit c.self.inside.next c.self.inside.row_count (λ q. ap (has handle_of q) c.in_ok-unmerge.ensures.after ∙ has-unmerge handle_of c.args.h.0 q c.self.inside.buffers) c.self.invariant

pub returns : goal.returns
returns c = unmerged_done (world_of c.self.inside.buffers c.self.inside.held (rows_map c.self.inside.nicks) c.self.inside.limit c.self.inside.next) c.args.self.now c.args.h c.unmerge.new.self c.in_ok-full_name.full_name [] [] c.told.result c.self.view_is (are_apart c.self.inside.buffers c.self.inside.held (rows_map c.self.inside.nicks) c.self.inside.limit c.self.inside.next c.self.invariant.0) c.in_ok-full_name.ensures refl refl c.in_ok-unmerge.ensures.after c.in_ok-unmerge.ensures.accepted c.told.ensures

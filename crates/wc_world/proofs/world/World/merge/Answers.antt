use Rattle.std.proofs.Common.{◌∙◌, [], refl, ap}
use Rattle.wc_buffers.specs.Calls.{handle_of}
use Rattle.wc_buffers.specs.Groups.{has}
use Rattle.wc_buffers.proofs.RefusalLemmas.{merge_good}
use Rattle.wc_model.specs.declared.change.What.TheVariants.{MergeInto}
use Rattle.wc_model.specs.Apply.{refusal_of, of_buffers}
use Rattle.wc_world.specs.Kept.{world_of}
use Rattle.wc_world.specs.Nicks.{rows_map}
use Rattle.wc_world.proofs.Done.{are_apart, kept_grouped, merged_done}
use Rattle.wc_world.proofs.GroupRows.{has-merge, merged_apart}
use Rattle.wc_world.proofs.Refused.{groups_refused}
use Rattle.wc_world.proofs.world.World.merge.Goals as goal

pub returns-in_err-merge : goal.returns-in_err-merge
unfolding refusal_of
returns-in_err-merge c = groups_refused c.self.inside.buffers c.merge.new.self c.self.inside.held (rows_map c.self.inside.nicks) c.self.inside.limit c.self.inside.next c.args.self.now c.args.h (MergeInto c.args.into) _ c.from_residual-in_err-merge.result c.from_residual-in_err-merge.ensures.1 c.in_err-merge.ensures.err c.self.view_is (λ n. ap of_buffers c.in_err-merge.ensures.refused)

pub invariant_of-self-2 : goal.invariant_of-self-2
invariant_of-self-2 c =
    let good = merge_good c.args.h c.args.into c.self.inside.buffers c.in_ok-merge.ensures.accepted in
    kept_grouped c.self.inside.buffers c.merge.new.self c.self.inside.held c.self.inside.nicks c.self.inside.limit c.self.inside.next c.self.inside.row_count (λ q. ap (has handle_of q) c.in_ok-merge.ensures.after ∙ has-merge handle_of c.args.h.0 c.args.into.0 q c.self.inside.buffers good.1 (merged_apart handle_of c.args.h.0 c.args.into.0 c.self.inside.buffers good.0 good.2)) c.self.invariant

pub returns : goal.returns
returns c = merged_done (world_of c.self.inside.buffers c.self.inside.held (rows_map c.self.inside.nicks) c.self.inside.limit c.self.inside.next) c.args.self.now c.args.h c.merge.new.self c.in_ok-full_name.full_name [] [] c.told.result c.self.view_is (are_apart c.self.inside.buffers c.self.inside.held (rows_map c.self.inside.nicks) c.self.inside.limit c.self.inside.next c.self.invariant.0) c.in_ok-full_name.ensures refl refl c.args.into c.in_ok-merge.ensures.after c.in_ok-merge.ensures.accepted c.told.ensures

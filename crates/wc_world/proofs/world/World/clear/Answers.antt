use Rattle.std.proofs.Common.{◌∙◌, [], refl, ap, sym}
use Rattle.wc_buffers.proofs.RefusalLemmas.{there_good}
use Rattle.wc_model.specs.declared.change.What.TheVariants.{Clear}
use Rattle.wc_model.specs.Apply.{refusal_of, of_buffers}
use Rattle.wc_world.specs.Kept.{world_of}
use Rattle.wc_world.specs.Nicks.{rows_map}
use Rattle.wc_world.proofs.Done.{cleared_done, kept_cleared}
use Rattle.wc_world.proofs.Refused.{by_world}
use Rattle.wc_world.proofs.world.World.clear.Goals as goal

pub returns-in-Some : goal.returns-in-Some
unfolding refusal_of
returns-in-Some c = (refl, by_world (world_of c.self.inside.buffers c.self.inside.held (rows_map c.self.inside.nicks) c.self.inside.limit c.self.inside.next) c.args.self.now c.args.h Clear _ c.self.view_is (ap of_buffers (sym c.no_buffer.ensures ∙ c.in-Some.is)))

pub clear-requires : goal.clear-requires
clear-requires c = c.self.invariant.0.stored c.args.h.0 ∙ there_good c.args.h c.self.inside.buffers (sym c.no_buffer.ensures ∙ c.in_default.is)

pub invariant_of-self : goal.invariant_of-self
invariant_of-self c = (kept_cleared c.self.inside.buffers c.self.inside.held c.clear.new.held c.self.inside.limit c.self.inside.next c.args.h.0 c.clear.ensures c.self.invariant.0, c.self.invariant.1)

pub returns : goal.returns
returns c = cleared_done c.self.inside.buffers c.self.inside.held c.clear.new.held (rows_map c.self.inside.nicks) c.self.inside.limit c.self.inside.next c.self.invariant.0 c.args.h c.args.self.now c.in_ok-full_name.full_name [] [] c.told.result c.self.view_is (there_good c.args.h c.self.inside.buffers (sym c.no_buffer.ensures ∙ c.in_default.is)) c.clear.ensures c.in_ok-full_name.ensures c.told.ensures refl refl

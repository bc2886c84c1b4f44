use Rattle.std.proofs.Common.{ap, subst, ◌∙◌, arith}
use Rattle.wc_buffers.specs.Kept.{AreBuffers}
use Rattle.wc_model.specs.World.{World}
use Rattle.wc_board.proofs.PartLemmas.{notice_kept}
use Rattle.wc_core.specs.Changing.{made_step, with_filters}
use Rattle.wc_core.specs.Fitted.{flips_change}
use Rattle.wc_core.proofs.CountLemmas.{kept_dropped}
use Rattle.wc_core.proofs.AnswerLemmas.{refilters-some, refilters-none}
use Rattle.wc_core.proofs.FilterLemmas.{took}
use Rattle.wc_core.proofs.core_state.Core.flip_lines.Goals as goal

pub count_dropped-requires : goal.count_dropped-requires
count_dropped-requires c =
    let e = c.in-Ok.ensures in
    let less = (kept_dropped _ _ (notice_kept _ c.in-Ok._told.notice _ _ e.each)).less in
    omega (arith, less, c.open_count-before.ensures)

pub returns-in-Ok : goal.returns-in-Ok
returns-in-Ok c =
    let told = c.in-Ok._told in
    let e = c.in-Ok.ensures in
    let are = subst AreBuffers (c.buffers.ensures ∙ ap (λ (w : World). w.groups) c.world.ensures.world) c.groups-after.ensures.held in
    rw (← c.self.view_is) (refilters-some _ c.tell.new.self c.count_dropped.new.self _ c.open_count-before.result c.args.flips c.args.plan told.notice (record { accepted = e.outcome; touched = e.touched; are = are; stray = c.world-before.ensures.stray }) e.each c.count_dropped.ensures.counts c.open_count-before.ensures c.count_dropped.ensures.rises (took c.count_dropped.new.self _ c.take.new.self c.args.plan c.self-in-Ok.view_is c.take.ensures))

pub returns : goal.returns
returns c = rw (← c.self.view_is) (refilters-none _ c.tell.new.self c.starve.new.self (λ state. made_step (with_filters state c.args.plan) (flips_change c.args.flips)) c.in-Err.ensures.unchanged c.starve.ensures.counts c.starve.ensures.rises)

use Rattle.std.proofs.Common.{ap, subst, ◌∙◌, arith}
use Rattle.wc_buffers.specs.Kept.{AreBuffers}
use Rattle.wc_model.specs.World.{World}
use Rattle.wc_board.proofs.PartLemmas.{notice_kept}
use Rattle.wc_core.proofs.CountLemmas.{kept_dropped}
use Rattle.wc_core.proofs.AnswerLemmas.{changed-some, changed-none}
use Rattle.wc_core.proofs.core_state.Core.make.Goals as goal

pub count_dropped-requires : goal.count_dropped-requires
count_dropped-requires c =
    let e = c.in-Ok.ensures in
    let less = (kept_dropped _ _ (notice_kept _ c.in-Ok._told.notice _ _ e.each)).less in
    omega (arith, less, c.open_count-before.ensures)

pub returns-in-Ok-clause-made : goal.returns-in-Ok-clause-made
returns-in-Ok-clause-made c = λ none.
    let told = c.in-Ok._told in
    let e = c.in-Ok.ensures in
    let are = subst AreBuffers (c.buffers.ensures ∙ ap (λ (w : World). w.groups) c.world.ensures.world) c.groups-after.ensures.held in
    rw (← c.self.view_is) (changed-some _ c.tell.new.self c.count_dropped.new.self c.heed.new.self c.open_count-before.result c.args.change c.of-news.result told.notice (record { accepted = e.outcome; touched = e.touched; are = are; stray = c.world-before.ensures.stray }) e.each c.count_dropped.ensures.counts c.open_count-before.ensures c.count_dropped.ensures.rises c.of-news.ensures c.heed.ensures)

pub returns-in-Err-NoMemory-clause-made : goal.returns-in-Err-NoMemory-clause-made
returns-in-Err-NoMemory-clause-made c = λ none.
    rw (← c.self.view_is) (changed-none _ c.tell.new.self c.starve.new.self c.args.change c.in-Err-NoMemory.ensures.unchanged c.starve.ensures.counts c.starve.ensures.rises)

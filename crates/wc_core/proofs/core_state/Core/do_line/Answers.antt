use Rattle.std.proofs.Common.{ap, sym, ◌∙◌, subst}
use Rattle.wc_buffers.specs.Kept.{AreBuffers}
use Rattle.wc_model.specs.World.{World}
use Rattle.wc_core.specs.Resolved.{effect_of}
use Rattle.wc_core.specs.ResolvedSeen.{outcome_of}
use Rattle.wc_core.specs.Typed.{typed_line}
use Rattle.wc_core.specs.TypedSeen.{meaning}
use Rattle.wc_core.proofs.ResolvedTexts.{line-utf8}
use Rattle.wc_core.proofs.CoreLemmas.{does-resolved, starves-as}
use Rattle.wc_core.proofs.core_state.Core.do_line.Goals as goal

pub do_effect-requires : goal.do_effect-requires
do_effect-requires c =
    line-utf8 c.world-2.result.now c.self.inside.moment c.args.buffer (meaning c.read_typed-asked.result) c.args.line.now (outcome_of c.in-Ok.resolution)
    (subst AreBuffers (c.buffers.ensures ∙ ap (λ (w : World). w.groups) (c.world.ensures.world ∙ sym c.world-2.ensures.world)) c.groups-texts.ensures.held) c.requires c.read_typed-asked.ensures c.in-Ok.ensures

pub returns-in-Ok : goal.returns-in-Ok
returns-in-Ok c =
    let typed = meaning c.read_typed-asked.result in
    rw (← c.self.view_is) (does-resolved _ c.do_effect.new.self c.args.buffer (typed_line c.args.line.now) (outcome_of c.in-Ok.resolution)
    (c.in-Ok.ensures ∙ ap (λ (w : World). effect_of w c.self.inside.moment c.args.buffer typed) c.world-2.ensures.world
    ∙ ap (effect_of c.self.inside.board.world c.self.inside.moment c.args.buffer) c.read_typed-asked.ensures)
    (rw (← c.self.view_is) at c.do_effect.ensures))

pub returns-in-Err : goal.returns-in-Err
returns-in-Err c = λ told. starves-as c.args.self.now c.starve.new.self c.starve.ensures.counts c.starve.ensures.rises told _

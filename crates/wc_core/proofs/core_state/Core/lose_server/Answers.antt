use Rattle.std.proofs.Common.{ap, ◌∙◌, Ok, Err}
use Rattle.wc_model.specs.World.{World}
use Rattle.wc_servers.specs.Seats.{seat_of}
use Rattle.wc_core.specs.CoreView.{CoreView}
use Rattle.wc_core.proofs.ServedLemmas.{loses-none, loses-to, starves-to, leaves-none, leaves-as, leaves-same, none_found, some_found}
use Rattle.wc_core.proofs.core_state.Core.lose_server.Goals as goal

pub returns-then-is_none-clause-does : goal.returns-then-is_none-clause-does
returns-then-is_none-clause-does c =
    rw (← c.self.view_is) (loses-none _ c.args.link.0 c.args.cause c.seats-seats.ensures.apart (none_found seat_of c.open_at.result _ c.is_none.result c.open_at.ensures c.is_none.ensures c.if-is_none.true))

pub returns-then-is_none-clause-leaves : goal.returns-then-is_none-clause-leaves
returns-then-is_none-clause-leaves c =
    rw (← c.self.view_is) (leaves-none _ c.args.link.0 c.args.cause _ (none_found seat_of c.open_at.result _ c.is_none.result c.open_at.ensures c.is_none.ensures c.if-is_none.true))

pub returns-in-Ok-clause-does : goal.returns-in-Ok-clause-does
returns-in-Ok-clause-does c =
    rw (← c.self.view_is) (loses-to _ _ c.run_acts.new.self c.lose.new.self c.buffers-buffers.result.now c.args.link.0 c.args.cause c.in-Ok.acts c.seats-seats.ensures.apart
    (c.buffers-buffers.ensures ∙ ap (λ (w : World). w.groups) c.world.ensures.world) c.in-Ok.ensures.lost (some_found seat_of c.open_at.result _ c.is_none.result c.open_at.ensures c.is_none.ensures c.if-is_none.false) c.in-Ok.ensures.others c.run_acts.ensures.does)

pub returns-in-Ok-clause-leaves : goal.returns-in-Ok-clause-leaves
returns-in-Ok-clause-leaves c =
    rw (← c.self.view_is) (leaves-same _ c.lose.new.self c.run_acts.new.self.servers c.args.link.0 c.args.cause
    (leaves-as _ _ c.lose.new.self c.buffers-buffers.result.now c.args.link.0 c.args.cause (Ok c.in-Ok.acts) c.in-Ok.ensures.lost (some_found seat_of c.open_at.result _ c.is_none.result c.open_at.ensures c.is_none.ensures c.if-is_none.false) c.in-Ok.ensures.others)
    (c.run_acts.ensures.shut c.in-Ok.ensures.shut))

pub returns-in-Err-clause-does : goal.returns-in-Err-clause-does
returns-in-Err-clause-does c =
    rw (← c.self.view_is) (starves-to _ _ c.starve.new.self c.lose.new.self c.buffers-buffers.result.now c.args.link.0 c.args.cause _ c.seats-seats.ensures.apart
    (c.buffers-buffers.ensures ∙ ap (λ (w : World). w.groups) c.world.ensures.world) c.in-Err.ensures.lost (some_found seat_of c.open_at.result _ c.is_none.result c.open_at.ensures c.is_none.ensures c.if-is_none.false) c.in-Err.ensures.others c.starve.ensures.counts c.starve.ensures.rises)

pub returns-in-Err-clause-leaves : goal.returns-in-Err-clause-leaves
returns-in-Err-clause-leaves c =
    rw (← c.self.view_is) (leaves-same _ c.lose.new.self c.starve.new.self.servers c.args.link.0 c.args.cause
    (leaves-as _ _ c.lose.new.self c.buffers-buffers.result.now c.args.link.0 c.args.cause (Err _) c.in-Err.ensures.lost (some_found seat_of c.open_at.result _ c.is_none.result c.open_at.ensures c.is_none.ensures c.if-is_none.false) c.in-Err.ensures.others)
    (ap (λ (core : CoreView). core.servers) c.starve.ensures.counts))

pub returns-in-Ok-clause-idle : goal.returns-in-Ok-clause-idle
returns-in-Ok-clause-idle c = λ none. absurd (some_found seat_of c.open_at.result _ c.is_none.result c.open_at.ensures c.is_none.ensures c.if-is_none.false (rw (← c.self.view_is) at none))

pub returns-in-Err-clause-idle : goal.returns-in-Err-clause-idle
returns-in-Err-clause-idle c = λ none. absurd (some_found seat_of c.open_at.result _ c.is_none.result c.open_at.ensures c.is_none.ensures c.if-is_none.false (rw (← c.self.view_is) at none))

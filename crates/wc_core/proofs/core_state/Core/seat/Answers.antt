use Rattle.wc_core.specs.ServerTyped.{seat_step}
use Rattle.wc_core.proofs.FoundLemmas.{refused-starved}
use Rattle.wc_core.proofs.ServerLemmas.{seats-to}
use Rattle.wc_core.proofs.core_state.Core.seat.Goals as goal

pub returns-in-Ok : goal.returns-in-Ok
returns-in-Ok c = rw (← c.self.view_is) (seats-to _ c.begin.new.self c.args.server c.seats-seats.ensures.apart (rw (← c.self.view_is) at c.requires) c.in-Ok.ensures.begun)

pub returns-in-Err : goal.returns-in-Err
returns-in-Err c = rw (← c.self.view_is) (refused-starved _ c.starve.new.self c.begin.new.self (λ state. seat_step state c.args.server) c.in-Err.ensures.unchanged c.starve.ensures.counts c.starve.ensures.rises)

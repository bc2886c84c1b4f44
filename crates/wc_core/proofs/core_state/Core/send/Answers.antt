use Rattle.wc_core.specs.ServerSteps.{send_step}
use Rattle.wc_servers.specs.Seats.{server_link}
use Rattle.wc_outside.specs.Keyed.{at_key}
use Rattle.wc_core.proofs.FoundLemmas.{refused-starved}
use Rattle.wc_core.proofs.ServerLemmas.{sends-to}
use Rattle.wc_core.proofs.ServedLemmas.{sends-shut}
use Rattle.wc_core.proofs.core_state.Core.send.Goals as goal

pub returns-in-Ok-clause-does : goal.returns-in-Ok-clause-does
returns-in-Ok-clause-does c = rw (← c.self.view_is) (sends-to _ c.tell.new.self c.args.link.0 c.as_slice.result.now c.args.line.now c.seats-seats.ensures.apart c.as_slice.ensures c.in-Ok.ensures.told)

pub returns-in-Ok-clause-shut : goal.returns-in-Ok-clause-shut
returns-in-Ok-clause-shut c = rw (← c.self.view_is) (λ shut. sends-shut _ c.tell.new.self c.args.link.0 c.as_slice.result.now c.in-Ok.ensures.told shut)

pub returns-in-Err-clause-does : goal.returns-in-Err-clause-does
returns-in-Err-clause-does c = rw (← c.self.view_is) (refused-starved _ c.starve.new.self c.tell.new.self (λ state. send_step state c.args.link.0 c.args.line.now (at_key server_link c.args.link.0 state.servers)) c.in-Err.ensures.unchanged c.starve.ensures.counts c.starve.ensures.rises)

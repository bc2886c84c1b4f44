use Rattle.wc_core.specs.State.{State, Stepped}
use Rattle.wc_outside.specs.Keyed.{at_key}
use Rattle.wc_core.specs.ServerSteps.{stands_step}
use Rattle.wc_servers.specs.Seats.{server_link}
use Rattle.wc_core.proofs.ServedLemmas.{stands-to, stands-refused}
use Rattle.wc_core.proofs.RunLemmas.{does-of, contains-of, counts-of, board-of}
use Rattle.wc_core.proofs.FoundLemmas.{refused-starved}
use Rattle.wc_core.proofs.core_state.Core.link_stands.Goals as goal

pub returns-in-Ok-clause-does : goal.returns-in-Ok-clause-does
returns-in-Ok-clause-does c = rw (← c.self.view_is) (does-of _ _ (λ state. stands_step state c.args.link.0 (at_key server_link c.args.link.0 state.servers)) (stands-to _ _ c.run_server_acts.new.self c.stand.new.self c.args.link.0 c.in-Ok.acts c.seats-seats.ensures.apart c.in-Ok.ensures.stood c.in-Ok.ensures.others c.run_server_acts.ensures))

pub returns-in-Ok-clause-contained : goal.returns-in-Ok-clause-contained
returns-in-Ok-clause-contained c = rw (← c.self.view_is) (contains-of _ _ (λ state. stands_step state c.args.link.0 (at_key server_link c.args.link.0 state.servers)) (stands-to _ _ c.run_server_acts.new.self c.stand.new.self c.args.link.0 c.in-Ok.acts c.seats-seats.ensures.apart c.in-Ok.ensures.stood c.in-Ok.ensures.others c.run_server_acts.ensures))

pub returns-in-Ok-clause-counted : goal.returns-in-Ok-clause-counted
returns-in-Ok-clause-counted c = rw (← c.self.view_is) (counts-of _ _ (λ state. stands_step state c.args.link.0 (at_key server_link c.args.link.0 state.servers)) (stands-to _ _ c.run_server_acts.new.self c.stand.new.self c.args.link.0 c.in-Ok.acts c.seats-seats.ensures.apart c.in-Ok.ensures.stood c.in-Ok.ensures.others c.run_server_acts.ensures))

pub returns-in-Err-clause-does : goal.returns-in-Err-clause-does
returns-in-Err-clause-does c =
    let step : State → Stepped = λ state. stands_step state c.args.link.0 (at_key server_link c.args.link.0 state.servers) in
    rw (← c.self.view_is) (does-of _ _ step (refused-starved _ c.starve.new.self c.stand.new.self step (stands-refused _ _ c.stand.new.self c.args.link.0 c.in-Err.field-0 c.in-Err.ensures.stood c.in-Err.ensures.others) c.starve.ensures.counts c.starve.ensures.rises))

pub returns-in-Err-clause-contained : goal.returns-in-Err-clause-contained
returns-in-Err-clause-contained c =
    let step : State → Stepped = λ state. stands_step state c.args.link.0 (at_key server_link c.args.link.0 state.servers) in
    rw (← c.self.view_is) (contains-of _ _ step (refused-starved _ c.starve.new.self c.stand.new.self step (stands-refused _ _ c.stand.new.self c.args.link.0 c.in-Err.field-0 c.in-Err.ensures.stood c.in-Err.ensures.others) c.starve.ensures.counts c.starve.ensures.rises))

pub returns-in-Err-clause-counted : goal.returns-in-Err-clause-counted
returns-in-Err-clause-counted c =
    let step : State → Stepped = λ state. stands_step state c.args.link.0 (at_key server_link c.args.link.0 state.servers) in
    rw (← c.self.view_is) (counts-of _ _ step (refused-starved _ c.starve.new.self c.stand.new.self step (stands-refused _ _ c.stand.new.self c.args.link.0 c.in-Err.field-0 c.in-Err.ensures.stood c.in-Err.ensures.others) c.starve.ensures.counts c.starve.ensures.rises))

pub returns-in-Ok-clause-drops : goal.returns-in-Ok-clause-drops
returns-in-Ok-clause-drops c = rw (← c.self.view_is) (board-of _ _ (λ state. stands_step state c.args.link.0 (at_key server_link c.args.link.0 state.servers)) (stands-to _ _ c.run_server_acts.new.self c.stand.new.self c.args.link.0 c.in-Ok.acts c.seats-seats.ensures.apart c.in-Ok.ensures.stood c.in-Ok.ensures.others c.run_server_acts.ensures))

pub returns-in-Err-clause-drops : goal.returns-in-Err-clause-drops
returns-in-Err-clause-drops c =
    let step : State → Stepped = λ state. stands_step state c.args.link.0 (at_key server_link c.args.link.0 state.servers) in
    rw (← c.self.view_is) (board-of _ _ step (refused-starved _ c.starve.new.self c.stand.new.self step (stands-refused _ _ c.stand.new.self c.args.link.0 c.in-Err.field-0 c.in-Err.ensures.stood c.in-Err.ensures.others) c.starve.ensures.counts c.starve.ensures.rises))

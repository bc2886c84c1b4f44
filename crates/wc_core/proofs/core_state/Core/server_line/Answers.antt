use Rattle.wc_servers.specs.Seats.{seat_of}
use Rattle.wc_outside.specs.Keyed.{at_key}
use Rattle.wc_servers.specs.Seats.{server_link}
use Rattle.wc_core.specs.ServerSteps.{server_line_step}
use Rattle.wc_core.proofs.CoreLemmas.{starved_only}
use Rattle.wc_core.proofs.ServedLemmas.{none_found, lines-none, lines-read, lines-passed}
use Rattle.wc_core.proofs.core_state.Core.server_line.Goals as goal

pub returns-then-is_none : goal.returns-then-is_none
returns-then-is_none c =
    rw (← c.self.view_is) (lines-none _ c.args.link.0 c.args.line.now c.seats-seats.ensures.apart (none_found seat_of c.open_at.result _ c.is_none.result c.open_at.ensures c.is_none.ensures c.if-is_none.true))

pub returns-in-Ok : goal.returns-in-Ok
returns-in-Ok c = lines-read c.args.self.now c.take_message.new.self c.args.link.0 c.args.line.now c.in-Ok.message c.in-Ok.ensures.computed c.take_message.ensures

pub returns-in-Err-NoMemory : goal.returns-in-Err-NoMemory
returns-in-Err-NoMemory c = starved_only c.args.self.now c.starve.new.self (λ state. server_line_step state c.args.link.0 c.args.line.now (at_key server_link c.args.link.0 state.servers)) c.starve.ensures.counts c.starve.ensures.rises

pub returns-in-Err-Empty : goal.returns-in-Err-Empty
returns-in-Err-Empty c = lines-passed c.args.self.now c.args.link.0 c.args.line.now _ ((rw c.in-Err-Empty.field-0-is at c.in-Err-Empty.ensures.refusal) (λ e. cc))

pub returns-in-Err-BadCommand : goal.returns-in-Err-BadCommand
returns-in-Err-BadCommand c = lines-passed c.args.self.now c.args.link.0 c.args.line.now _ ((rw c.in-Err-BadCommand.field-0-is at c.in-Err-BadCommand.ensures.refusal) (λ e. cc))

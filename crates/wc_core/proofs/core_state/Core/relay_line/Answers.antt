use Rattle.std.proofs.Common.{Some, refl, sym, ◌∙◌}
use Rattle.wc_outside.specs.Keyed.{at_key}
use Rattle.wc_core.specs.ServerSteps.{server_line_step}
use Rattle.wc_servers.specs.Seats.{server_link}
use Rattle.wc_core.specs.Step.{client_link, line_step, link_line_step}
use Rattle.wc_core.specs.BoardSteps.{board_of}
use Rattle.wc_core.proofs.BoardStepLemmas.{by-any}
use Rattle.wc_core.proofs.LinkLemmas.{shut-chooses, open-chooses}
use Rattle.wc_core.proofs.RunLemmas.{does-here, contains-here, counts-of, counts-here, board-of, board-here}
use Rattle.wc_core.proofs.core_state.Core.relay_line.Goals as goal

pub returns-then-is_open-clause-does : goal.returns-then-is_open-clause-does
returns-then-is_open-clause-does c =
    rw (← c.self.view_is) (does-here c.args.link.0 _ _ (λ state. link_line_step state c.args.link.0 c.args.line.now (at_key client_link c.args.link.0 state.clients)) (open-chooses _ c.client_line.new.self c.args.link.0 (λ state client. line_step state c.args.line.now client) (λ state client. link_line_step state c.args.link.0 c.args.line.now client) (λ state client. refl)
    (sym c.is_open.ensures ∙ c.if-is_open.true) (rw (← c.self.view_is) at c.client_line.ensures.does)))

pub returns-then-is_open-clause-contained : goal.returns-then-is_open-clause-contained
returns-then-is_open-clause-contained c =
    rw (← c.self.view_is) (contains-here c.args.link.0 _ _ (λ state. link_line_step state c.args.link.0 c.args.line.now (at_key client_link c.args.link.0 state.clients)) (open-chooses _ c.client_line.new.self c.args.link.0 (λ state client. line_step state c.args.line.now client) (λ state client. link_line_step state c.args.link.0 c.args.line.now client) (λ state client. refl)
    (sym c.is_open.ensures ∙ c.if-is_open.true) (rw (← c.self.view_is) at c.client_line.ensures.does)))

pub returns-then-is_open-clause-counted : goal.returns-then-is_open-clause-counted
returns-then-is_open-clause-counted c = counts-here c.args.link.0 c.args.self.now c.client_line.new.self (λ state. line_step state c.args.line.now (at_key client_link c.args.link.0 state.clients)) c.client_line.ensures.does

pub returns-clause-does : goal.returns-clause-does
returns-clause-does c =
    rw (← c.self.view_is) (does-here c.args.link.0 _ _ (λ state. link_line_step state c.args.link.0 c.args.line.now (at_key client_link c.args.link.0 state.clients)) (shut-chooses _ c.server_line.new.self c.args.link.0 (λ state client. link_line_step state c.args.link.0 c.args.line.now client) (sym c.is_open.ensures ∙ c.if-is_open.false) (rw (← c.self.view_is) at c.server_line.ensures)))

pub returns-clause-contained : goal.returns-clause-contained
returns-clause-contained c =
    rw (← c.self.view_is) (contains-here c.args.link.0 _ _ (λ state. link_line_step state c.args.link.0 c.args.line.now (at_key client_link c.args.link.0 state.clients)) (shut-chooses _ c.server_line.new.self c.args.link.0 (λ state client. link_line_step state c.args.link.0 c.args.line.now client) (sym c.is_open.ensures ∙ c.if-is_open.false) (rw (← c.self.view_is) at c.server_line.ensures)))

pub returns-clause-counted : goal.returns-clause-counted
returns-clause-counted c = counts-of c.args.self.now c.server_line.new.self (λ state. server_line_step state c.args.link.0 c.args.line.now (at_key server_link c.args.link.0 state.servers)) c.server_line.ensures

pub returns-then-is_open-clause-drops : goal.returns-then-is_open-clause-drops
returns-then-is_open-clause-drops c = board-here c.args.link.0 c.args.self.now c.client_line.new.self (λ state. line_step state c.args.line.now (at_key client_link c.args.link.0 state.clients)) c.client_line.ensures.does

pub returns-clause-drops : goal.returns-clause-drops
returns-clause-drops c =
    by-any (Some c.args.link.0) (board_of c.args.self.now) (board_of c.server_line.new.self) (board-of c.args.self.now c.server_line.new.self (λ state. server_line_step state c.args.link.0 c.args.line.now (at_key server_link c.args.link.0 state.servers)) c.server_line.ensures)

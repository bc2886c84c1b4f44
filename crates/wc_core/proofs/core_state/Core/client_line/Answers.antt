use Rattle.wc_core.specs.Step.{client_link, line_step}
use Rattle.wc_core.proofs.CoreLemmas.{asker-starves}
use Rattle.wc_core.proofs.RunLemmas.{here-of, Runs-starved}
use Rattle.std.proofs.Common.{◌≡◌, sym, subst, ap, ◌∙◌, Some, None, true}
use Rattle.wc_outside.specs.Keyed.{at_key}
use Rattle.wc_relaycmd.specs.Answers.{request_of}
use Rattle.wc_board.specs.Connections.{connection_link, is_open_at, session_at}
use Rattle.wc_core.specs.CoreView.{CoreView}
use Rattle.wc_core.proofs.AnswerLemmas.{line-shut, line-served, line-passed}
use Rattle.wc_core.proofs.core_state.Core.client_line.Goals as goal

pub returns-then-not-is_open-clause-does : goal.returns-then-not-is_open-clause-does
returns-then-not-is_open-clause-does c = rw (← c.self.view_is) (line-shut _ c.args.link.0 c.args.line.now (sym c.is_open.ensures ∙ c.if-not-is_open.true))

pub returns-in-Ok-Some-clause-does : goal.returns-in-Ok-Some-clause-does
returns-in-Ok-Some-clause-does c =
    let P : CoreView → Type 0 = λ core. session_at (at_key connection_link c.args.link.0 core.connections) ≡ Some c.in-Some.session.now in
    let Q : CoreView → Type 0 = λ core. is_open_at (at_key connection_link c.args.link.0 core.connections) ≡ true in
    line-served c.args.self.now c.ask.new.self c.args.link.0 c.args.line.now c.in-Some.session.now (Some c.in-Ok-Some.request)
    (subst P c.self.view_is (sym c.in-Some.ensures)) (subst Q c.self.view_is (sym c.is_open.ensures ∙ c.if-not-is_open.false))
    ((rw c.in-Ok-Some.field-0-is at c.in-Ok-Some.ensures.computed) ∙ ap (λ escaped. request_of escaped c.args.line.now) c.escaped.ensures) c.ask.ensures

pub returns-in-Ok-None-clause-does : goal.returns-in-Ok-None-clause-does
returns-in-Ok-None-clause-does c =
    let P : CoreView → Type 0 = λ core. session_at (at_key connection_link c.args.link.0 core.connections) ≡ Some c.in-Some.session.now in
    let Q : CoreView → Type 0 = λ core. is_open_at (at_key connection_link c.args.link.0 core.connections) ≡ true in
    line-served c.args.self.now c.args.self.now c.args.link.0 c.args.line.now c.in-Some.session.now None
    (subst P c.self.view_is (sym c.in-Some.ensures)) (subst Q c.self.view_is (sym c.is_open.ensures ∙ c.if-not-is_open.false))
    ((rw c.in-Ok-None.field-0-is at c.in-Ok-None.ensures.computed) ∙ ap (λ escaped. request_of escaped c.args.line.now) c.escaped.ensures)
    (line-passed c.args.link.0 c.args.self.now (at_key connection_link c.args.link.0 c.args.self.now.connections))

pub returns-in-Err-clause-does : goal.returns-in-Err-clause-does
returns-in-Err-clause-does c =
    let P : CoreView → Type 0 = λ core. is_open_at (at_key connection_link c.args.link.0 core.connections) ≡ true in
    let opened = subst P c.self.view_is (sym c.is_open.ensures ∙ c.if-not-is_open.false) in
    here-of c.args.link.0 c.args.self.now c.lose_asker.new.self (λ state. line_step state c.args.line.now (at_key client_link c.args.link.0 state.clients)) (Runs-starved c.args.self.now c.lose_asker.new.self (λ state. line_step state c.args.line.now (at_key client_link c.args.link.0 state.clients)) (asker-starves c.args.self.now c.lose_asker.new.self c.args.link.0 opened c.lose_asker.ensures.loses c.lose_asker.ensures.rises))

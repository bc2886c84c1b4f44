use Rattle.std.proofs.Common.{ap, sym, subst, ◌∙◌, List}
use Rattle.wc_model.specs.Order.{order}
use Rattle.wc_board.specs.declared.connection.Connection.{Connection}
use Rattle.wc_board.specs.Connections.{unsent_on}
use Rattle.wc_board.specs.Pushes.{pushed_connection, EachPushed}
use Rattle.wc_board.proofs.board.Board.push_counted.Goals as goal

pub returns-clause-told : goal.returns-clause-told
returns-clause-told g c = rw (← c.self.view_is) (λ t rows are. c.forget_touches.ensures.connections ∙ c.push_nicks-told.ensures.told t rows are)

pub returns-clause-sent : goal.returns-clause-sent
returns-clause-sent g c = rw (← c.self.view_is) (λ t rows are link. ap (unsent_on link) c.forget_touches.ensures.connections ∙ c.push_nicks-told.ensures.sent t rows are link)

pub returns-clause-each : goal.returns-clause-each
returns-clause-each g c =
    let w = c.self.inside.world in
    rw (← c.self.view_is) (λ rows are. (let P : List Connection → Type 0 = λ new. EachPushed (order w.groups) (pushed_connection w rows (order w.groups)) c.self.inside.clients new in subst P (sym c.forget_touches.ensures.connections) (c.push_nicks-told.ensures.each rows are)))

pub returns-clause-idle : goal.returns-clause-idle
returns-clause-idle g c = rw (← c.self.view_is) (λ none. (let is = c.push_nicks-told.ensures.idle none in (is.0, c.forget_touches.ensures.connections ∙ is.1)))

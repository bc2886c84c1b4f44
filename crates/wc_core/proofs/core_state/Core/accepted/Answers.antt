use Rattle.std.proofs.Common.{◌≡◌, ◌≤◌, ◌<◌, ◌∙◌, sym, arith, nat_le, true, false, length, filter}
use Rattle.std.proofs.lemmas.Bool.Decides.{nat_tests}
use Rattle.wc_board.specs.declared.connection.Connection.{Connection}
use Rattle.wc_board.specs.Connections.{is_open}
use Rattle.wc_core.specs.Limits.{client_limit}
use Rattle.wc_core.proofs.AnswerLemmas.{came-by, surplus-by, on_ok, came-counts}
use Rattle.wc_core.proofs.core_state.Core.accepted.Goals as goal

pub returns-then-is_full-clause-comes : goal.returns-then-is_full-clause-comes
returns-then-is_full-clause-comes c =
    let many = length (filter (λ (connection : Connection). is_open connection) c.self.inside.board.connections) in
    let full : nat_le (client_limit c.self.inside.options) many ≡ true = sym c.is_full.ensures ∙ c.if-is_full.true in
    let enough : client_limit c.self.inside.options ≤ many = grind (arith, nat_tests, full) in
    λ absent told. rw (← c.self.view_is) (surplus-by told _ c.use_up.new.self c.args.arrival.link c.args.arrival.nonce enough c.use_up.ensures)

pub returns-clause-comes : goal.returns-clause-comes
returns-clause-comes c =
    let many = length (filter (λ (connection : Connection). is_open connection) c.self.inside.board.connections) in
    let room : nat_le (client_limit c.self.inside.options) many ≡ false = sym c.is_full.ensures ∙ c.if-is_full.false in
    let few : many < client_limit c.self.inside.options = grind (arith, nat_tests, room) in
    let admitted = on_ok c.admit.result _ (sym c.is_err.ensures.value ∙ c.if-is_err.false) c.admit.ensures.admitted in
    λ absent told. rw (← c.self.view_is) (came-by told _ c.admit.new.self c.use_up.new.self c.args.arrival.link c.args.arrival.nonce few c.use_up.ensures admitted)

pub returns-clause-counted : goal.returns-clause-counted
returns-clause-counted c =
    let admitted = on_ok c.admit.result _ (sym c.is_err.ensures.value ∙ c.if-is_err.false) c.admit.ensures.admitted in
    rw (← c.self.view_is) (came-counts _ c.admit.new.self c.use_up.new.self c.args.arrival.link c.args.arrival.nonce admitted)

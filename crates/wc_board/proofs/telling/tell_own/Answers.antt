use Rattle.std.proofs.Common.{◌≡◌, true, false, [], ◌∷◌, List, refl, sym, subst, ◌∙◌, arith}
use Rattle.wc_board.specs.declared.connection.Connection.{Connection}
use Rattle.wc_board.specs.Served.{part_connection, heard_number, ConnectionsServed}
use Rattle.wc_board.proofs.EventLemmas.{all_deaf, served_map}
use Rattle.wc_board.proofs.HeardCounts.{heard_one}
use Rattle.wc_board.proofs.telling.tell_own.Goals as goal

pub returns-then-not-some_listens-clause-told : goal.returns-then-not-some_listens-clause-told
returns-then-not-some_listens-clause-told g c = λ told. c.note_all.ensures ∙ all_deaf c.args.world.now c.args.notice.now c.args.clients.now (sym (rw c.as_slice.ensures at c.some_listens.ensures) ∙ c.if-not-some_listens.true)

pub returns-then-not-some_listens-clause-each : goal.returns-then-not-some_listens-clause-each
returns-then-not-some_listens-clause-each g c =
    let w = c.args.world.now in
    let n = c.args.notice.now in
    let P : List Connection → Type 0 = λ connections. ConnectionsServed n.kind n.buffer.0 (part_connection w n) c.args.clients.now connections in
    subst P (sym (c.note_all.ensures ∙ all_deaf w n c.args.clients.now (sym (rw c.as_slice.ensures at c.some_listens.ensures) ∙ c.if-not-some_listens.true))) (served_map n.kind n.buffer.0 (part_connection w n) c.args.clients.now)

pub returns-then-not-some_listens-clause-count : goal.returns-then-not-some_listens-clause-count
returns-then-not-some_listens-clause-count g c =
    let none : heard_number c.args.clients.now (c.args.notice.now ∷ []) ≡ 0 = heard_one c.args.clients.now c.args.notice.now false (sym (rw c.as_slice.ensures at c.some_listens.ensures) ∙ c.if-not-some_listens.true) in
    omega (arith, none)

pub returns-clause-told : goal.returns-clause-told
returns-clause-told g c = λ told. c.serve_spelled.ensures.told told c.args.world.now c.args.notice.now c.of_notice-spelled.ensures.event

pub returns-clause-each : goal.returns-clause-each
returns-clause-each g c = c.serve_spelled.ensures.each c.args.world.now c.args.notice.now refl refl c.of_notice-spelled.ensures.event

pub returns-clause-count : goal.returns-clause-count
returns-clause-count g c =
    let one : heard_number c.args.clients.now (c.args.notice.now ∷ []) ≡ 1 = heard_one c.args.clients.now c.args.notice.now true (sym (rw c.as_slice.ensures at c.some_listens.ensures) ∙ c.if-not-some_listens.false) in
    omega (arith, one, c.of_notice-spelled.ensures.count)

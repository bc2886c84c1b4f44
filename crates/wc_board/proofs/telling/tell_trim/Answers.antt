use Rattle.std.proofs.Common.{◌≡◌, true, false, [], ◌∷◌, List, refl, sym, subst, ◌∙◌, arith}
use Rattle.wc_model.specs.declared.notice.Notice.{Notice}
use Rattle.wc_model.specs.Parts.{trim_part}
use Rattle.wc_board.specs.declared.connection.Connection.{Connection}
use Rattle.wc_board.specs.Served.{part_connection, heard_number, ConnectionsServed}
use Rattle.wc_board.proofs.EventLemmas.{served_map}
use Rattle.wc_board.proofs.HeardCounts.{heard_one}
use Rattle.wc_board.proofs.PartLemmas.{spelled_in, trim_deaf}
use Rattle.wc_board.proofs.telling.tell_trim.Goals as goal

pub returns-then-not-some_listens-clause-told : goal.returns-then-not-some_listens-clause-told
returns-then-not-some_listens-clause-told g c = λ told w. trim_deaf w c.args.trim c.args.clients.now (sym (rw c.as_slice.ensures at c.some_listens.ensures) ∙ c.if-not-some_listens.true)

pub returns-then-not-some_listens-clause-each : goal.returns-then-not-some_listens-clause-each
returns-then-not-some_listens-clause-each g c = λ w.
    let part : Notice = trim_part c.args.trim in
    let P : List Connection → Type 0 = λ connections. ConnectionsServed part.kind part.buffer.0 (part_connection w part) c.args.clients.now connections in
    subst P (sym (trim_deaf w c.args.trim c.args.clients.now (sym (rw c.as_slice.ensures at c.some_listens.ensures) ∙ c.if-not-some_listens.true))) (served_map part.kind part.buffer.0 (part_connection w part) c.args.clients.now)

pub returns-then-not-some_listens-clause-count : goal.returns-then-not-some_listens-clause-count
returns-then-not-some_listens-clause-count g c =
    let none : heard_number c.args.clients.now (trim_part c.args.trim ∷ []) ≡ 0 = heard_one c.args.clients.now (trim_part c.args.trim) false (sym (rw c.as_slice.ensures at c.some_listens.ensures) ∙ c.if-not-some_listens.true) in
    omega (arith, none)

pub returns-clause-told : goal.returns-clause-told
returns-clause-told g c = λ told w. c.serve_spelled.ensures.told told w (trim_part c.args.trim) (spelled_in c.of_trim-spelled.result (trim_part c.args.trim) c.of_trim-spelled.ensures.event w)

pub returns-clause-each : goal.returns-clause-each
returns-clause-each g c = λ w. c.serve_spelled.ensures.each w (trim_part c.args.trim) refl refl (spelled_in c.of_trim-spelled.result (trim_part c.args.trim) c.of_trim-spelled.ensures.event w)

pub returns-clause-count : goal.returns-clause-count
returns-clause-count g c =
    let one : heard_number c.args.clients.now (trim_part c.args.trim ∷ []) ≡ 1 = heard_one c.args.clients.now (trim_part c.args.trim) true (sym (rw c.as_slice.ensures at c.some_listens.ensures) ∙ c.if-not-some_listens.false) in
    omega (arith, one, c.of_trim-spelled.ensures.count)

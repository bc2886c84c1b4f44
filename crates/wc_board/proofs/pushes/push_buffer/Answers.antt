use Rattle.std.proofs.Common.{◌≡◌, ℕ, ◌<◌, true, refl, length, nat_lt, false, ap, sym, subst, ◌∙◌, ◌∷◌, [], List, map, arith}
use Rattle.wc_model.specs.declared.notice.EventKind.TheVariants.{NicklistDiff}
use Rattle.wc_board.specs.declared.connection.Connection.{Connection}
use Rattle.wc_board.specs.Connections.{client_of}
use Rattle.wc_board.specs.Pushes.{push_of, push_connection, EachPushed}
use Rattle.wc_board.specs.Served.{heard_connection, ConnectionsKept}
use Rattle.wc_board.proofs.EventLemmas.{served_starving}
use Rattle.wc_board.proofs.PushConnections.{untouched_push, all_pushed, event_kept, served_clients, starved_clients, starved_all, ConnectionsKept-refl}
use Rattle.wc_board.proofs.TouchCounts.{touched_one}
use Rattle.wc_board.proofs.PushEach.{each_map, each_heard, each_starved}
use Rattle.std.proofs.lemmas.Bool.{false≢true}
use Rattle.wc_board.proofs.pushes.push_buffer.Goals as goal

-- nothing is touched where there are no touches
untouched : {A : Type 0} (touches : List A) → touches ≡ [] → nat_lt 0 (length touches) ≡ true → ⊥
untouched touches none some = false≢true (sym (ap (λ all. nat_lt 0 (length all)) none) ∙ some)

pub returns-then-not-is_touched-clause-told : goal.returns-then-not-is_touched-clause-told
returns-then-not-is_touched-clause-told g c = λ t there told was.
    let none = c.is_touched.ensures.none c.if-not-is_touched.true in
    untouched_push c.args.world.now c.args.pending.now c.args.buffer told c.args.clients.now (c.requires c.args.buffer.0) none was

pub returns-then-not-is_touched-clause-each : goal.returns-then-not-is_touched-clause-each
returns-then-not-is_touched-clause-each g c = λ there told was.
    let none = c.is_touched.ensures.none c.if-not-is_touched.true in
    let push = push_connection c.args.buffer (push_of c.args.world.now c.args.buffer.0 told) in
    let same = untouched_push c.args.world.now c.args.pending.now c.args.buffer told c.args.clients.now (c.requires c.args.buffer.0) none was in
    let P : List Connection → Type 0 = λ new. EachPushed (c.args.buffer.0 ∷ []) push c.args.clients.now new in
    subst P (sym same) (each_map (c.args.buffer.0 ∷ []) push c.args.clients.now)

pub returns-then-not-is_touched-clause-kept : goal.returns-then-not-is_touched-clause-kept
returns-then-not-is_touched-clause-kept g c = ConnectionsKept-refl c.args.clients.now

pub returns-in-Ok-Some-clause-told : goal.returns-in-Ok-Some-clause-told
returns-in-Ok-Some-clause-told g c = λ t there told was.
    let is = rw c.in-Ok-Some.field-0-is at c.in-Ok-Some.ensures.told in
    c.serve_all.ensures.told t
    ∙ ap (λ event. map (heard_connection event) c.args.clients.now) c.in-Ok-Some.event-is
    ∙ all_pushed c.in-Ok-Some.event c.args.buffer (push_of c.args.world.now c.args.buffer.0 told) c.args.clients.now (is told was)

pub returns-in-Ok-Some-clause-each : goal.returns-in-Ok-Some-clause-each
returns-in-Ok-Some-clause-each g c = λ there told was.
    let is = rw c.in-Ok-Some.field-0-is at c.in-Ok-Some.ensures.told in
    each_heard c.in-Ok-Some.event c.args.buffer (push_of c.args.world.now c.args.buffer.0 told) c.args.clients.now c.serve_all.new.self (is told was) (rw c.in-Ok-Some.event-is at c.serve_all.ensures.each)

pub returns-in-Ok-Some-clause-kept : goal.returns-in-Ok-Some-clause-kept
returns-in-Ok-Some-clause-kept g c = event_kept _ c.args.clients.now c.serve_all.new.self c.serve_all.ensures.each

pub returns-in-Ok-None-clause-kept : goal.returns-in-Ok-None-clause-kept
returns-in-Ok-None-clause-kept g c = ConnectionsKept-refl c.args.clients.now

pub returns-in-Err-clause-each : goal.returns-in-Err-clause-each
returns-in-Err-clause-each g c = λ there told was.
    let push = push_of c.args.world.now c.args.buffer.0 told in
    let P : List Connection → Type 0 = λ new. EachPushed (c.args.buffer.0 ∷ []) (push_connection c.args.buffer push) c.args.clients.now new in
    subst P (sym (served_starving NicklistDiff c.args.buffer.0 c.args.clients.now c.serve_all-in-Err.new.self c.serve_all-in-Err.ensures.each)) (each_starved c.args.buffer push c.args.clients.now)

pub returns-in-Err-clause-kept : goal.returns-in-Err-clause-kept
returns-in-Err-clause-kept g c = subst (ConnectionsKept c.args.clients.now) (sym (served_starving NicklistDiff c.args.buffer.0 c.args.clients.now c.serve_all-in-Err.new.self c.serve_all-in-Err.ensures.each)) (starved_all NicklistDiff c.args.buffer.0 c.args.clients.now)

pub returns-in-Ok-Some-clause-clients : goal.returns-in-Ok-Some-clause-clients
returns-in-Ok-Some-clause-clients g c =
    let is = rw c.in-Ok-Some.field-0-is at c.in-Ok-Some.ensures.kind in
    served_clients c.in-Ok-Some.event c.args.clients.now c.serve_all.new.self is (rw c.in-Ok-Some.event-is at c.serve_all.ensures.each)

pub returns-in-Err-clause-clients : goal.returns-in-Err-clause-clients
returns-in-Err-clause-clients g c = ap (map client_of) (served_starving NicklistDiff c.args.buffer.0 c.args.clients.now c.serve_all-in-Err.new.self c.serve_all-in-Err.ensures.each) ∙ starved_clients c.args.buffer.0 c.args.clients.now

pub returns-in-Ok-Some-clause-once : goal.returns-in-Ok-Some-clause-once
returns-in-Ok-Some-clause-once g c =
    let one = touched_one c.args.pending.now c.args.buffer.0 (sym c.is_touched.ensures.exact ∙ c.if-not-is_touched.false) in
    let counted = c.of_nicks.ensures.count in
    omega (arith, one, counted)

pub returns-in-Ok-None-clause-once : goal.returns-in-Ok-None-clause-once
returns-in-Ok-None-clause-once g c =
    let one = touched_one c.args.pending.now c.args.buffer.0 (sym c.is_touched.ensures.exact ∙ c.if-not-is_touched.false) in
    let counted = c.of_nicks.ensures.count in
    omega (arith, one, counted)

pub returns-in-Err-clause-once : goal.returns-in-Err-clause-once
returns-in-Err-clause-once g c =
    let one = touched_one c.args.pending.now c.args.buffer.0 (sym c.is_touched.ensures.exact ∙ c.if-not-is_touched.false) in
    let counted = c.of_nicks.ensures.count in
    omega (arith, one, counted)

pub returns-then-not-is_touched-clause-idle : goal.returns-then-not-is_touched-clause-idle
returns-then-not-is_touched-clause-idle g c = λ none. (refl, refl)

pub returns-in-Ok-Some-clause-idle : goal.returns-in-Ok-Some-clause-idle
returns-in-Ok-Some-clause-idle g c = λ none. absurd (untouched _ none (sym c.is_touched.ensures.exact ∙ c.if-not-is_touched.false))

pub returns-in-Ok-None-clause-idle : goal.returns-in-Ok-None-clause-idle
returns-in-Ok-None-clause-idle g c = λ none. absurd (untouched _ none (sym c.is_touched.ensures.exact ∙ c.if-not-is_touched.false))

pub returns-in-Err-clause-idle : goal.returns-in-Err-clause-idle
returns-in-Err-clause-idle g c = λ none. absurd (untouched _ none (sym c.is_touched.ensures.exact ∙ c.if-not-is_touched.false))

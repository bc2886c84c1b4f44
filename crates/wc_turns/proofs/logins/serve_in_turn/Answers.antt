use Rattle.std.proofs.Common.{◌≡◌, ◌∙◌, sym, true, false}
use Rattle.std.proofs.lemmas.Bool.{false≢true}
use Rattle.wc_turns.specs.Sources.{is_guest_on, ReadsAlone}
use Rattle.wc_turns.proofs.CloseLemmas.{LoopStep-refl}
use Rattle.wc_turns.proofs.GuestLemmas.{waits-now, none-read, one-read, by-early, by-slow, by-quick}
use Rattle.wc_turns.proofs.logins.serve_in_turn.Goals as goal
use Rattle.wc_turns.proofs.logins.serve_in_turn.Goals.{else-decided-via-then-decided+else-is_guest, else-decided-via-else-decided}

pub returns-then-is_guest-clause-continues : goal.returns-then-is_guest-clause-continues
returns-then-is_guest-clause-continues g c = LoopStep-refl _ _

pub returns-then-is_guest-clause-served : goal.returns-then-is_guest-clause-served
returns-then-is_guest-clause-served g c = λ on.
    waits-now c.args.decided c.args.link.0 c.args.headless.now (g.S.Sockets.seen c.args.sockets.now) c.if-decided.true (rw c.connections.ensures at (sym c.is_guest.ensures ∙ c.if-is_guest.true))

pub returns-then-is_guest-clause-once : goal.returns-then-is_guest-clause-once
returns-then-is_guest-clause-once g c = none-read c.args.decided c.args.headless.now (g.S.Sockets.seen c.args.sockets.now) c.if-decided.true

pub returns-then-decided-2-clause-once : goal.returns-then-decided-2-clause-once
returns-then-decided-2-clause-once g c =
    let seen = g.S.Sockets.seen in
    let x = c.args.headless.now in
    let alone : ReadsAlone c.args.link.0 x c.serve_link.new.headless (seen c.args.sockets.now) (seen c.serve_link.new.sockets) = record { reads = c.serve_link.ensures.continues; others = c.serve_link.ensures.others } in
    let guest : c.args.decided ≡ true → is_guest_on c.args.link.0 x.core.connections ≡ false = λ decided.
    elim c.else-decided.branch [
      | else-decided-via-then-decided+else-is_guest w ↦ rw w.connections.ensures at (sym w.is_guest.ensures ∙ w.if-is_guest.false)
      | else-decided-via-else-decided w ↦ absurd (false≢true (sym w.if-decided.false ∙ decided))
    ] in
    one-read _ _ c.args.link.0 x c.serve_link.new.headless _ _ alone guest (by-early _ c.args.link.0 x c.serve_link.new.headless c.if-decided-2.true)

pub returns-then-slow-clause-once : goal.returns-then-slow-clause-once
returns-then-slow-clause-once g c =
    let seen = g.S.Sockets.seen in
    let x = c.args.headless.now in
    let alone : ReadsAlone c.args.link.0 x c.serve_link.new.headless (seen c.args.sockets.now) (seen c.serve_link.new.sockets) = record { reads = c.serve_link.ensures.continues; others = c.serve_link.ensures.others } in
    one-read _ _ c.args.link.0 x c.serve_link.new.headless _ _ alone (λ decided. absurd (false≢true (sym c.if-decided-2.false ∙ decided)))
    (by-slow c.args.decided c.args.link.0 x c.serve_link.new.headless c.is_slow-slow.result c.is_guest-then-slow.result c.if-decided-2.false (rw c.connections-2.ensures at c.is_slow-slow.ensures) c.if-slow.true (rw c.connections-then-slow.ensures at c.is_guest-then-slow.ensures))

pub returns-else-slow-clause-once : goal.returns-else-slow-clause-once
returns-else-slow-clause-once g c =
    let seen = g.S.Sockets.seen in
    let x = c.args.headless.now in
    let alone : ReadsAlone c.args.link.0 x c.serve_link.new.headless (seen c.args.sockets.now) (seen c.serve_link.new.sockets) = record { reads = c.serve_link.ensures.continues; others = c.serve_link.ensures.others } in
    one-read _ _ c.args.link.0 x c.serve_link.new.headless _ _ alone (λ decided. absurd (false≢true (sym c.if-decided-2.false ∙ decided)))
    (by-quick c.args.decided c.args.link.0 x c.serve_link.new.headless c.is_slow-slow.result c.if-decided-2.false (rw c.connections-2.ensures at c.is_slow-slow.ensures) c.if-slow.false)

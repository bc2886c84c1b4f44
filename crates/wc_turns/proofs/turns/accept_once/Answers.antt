use Rattle.std.proofs.Common.{refl, ap, sym, ◌∙◌, ◌&&◌, not, eqb}
use Rattle.wc_outside.specs.declared.happening.Happening.TheVariants.{ListenFailed}
use Rattle.wc_turns.proofs.ForgetLemmas.{and-not-false}
use Rattle.wc_turns.proofs.ComeLemmas.{LoopStep-came, LoopStep-refused, LoopStep-idle}
use Rattle.wc_turns.proofs.KeyedLemmas.{or-false}
use Rattle.wc_turns.proofs.PointLemmas.{or_left}
use Rattle.wc_turns.proofs.ReadLemmas.{arrived-one, arrived-none}
use Rattle.wc_turns.proofs.AgreesLemmas.{timeless-listen}
use Rattle.wc_turns.proofs.StepLemmas.{LoopStep-missed}
use Rattle.wc_turns.proofs.TurnLemmas.{NeverFall-trans}
use Rattle.std.proofs.Common.{◌≡◌, ◌+◌, arith}
use Rattle.wc_turns.proofs.ContainedLemmas.{KeepsLinks-same, KeepsLinks-came, KeepsLinks-refused}
use Rattle.wc_turns.proofs.turns.accept_once.Goals as goal

pub returns-in-Ok-None-clause-continues : goal.returns-in-Ok-None-clause-continues
returns-in-Ok-None-clause-continues g c =
    let e = rw c.in-Ok-None.field-0-is at c.in-Ok-None.ensures in
    let seen = g.S.Sockets.seen in
    LoopStep-idle c.args.headless.now (seen c.args.sockets.now) (seen c.accept.new.self) (record { told = e.told; taken = e.taken; asked = e.asked; counts = e.counts })
    e.sent e.choked e.asked e.used (λ k. e.there k ∙ or-false _) e.undrained e.blocked e.listening

pub returns-then-link_came-clause-continues : goal.returns-then-link_came-clause-continues
returns-then-link_came-clause-continues g c =
    let e = rw c.in-Ok-Some.field-0-is at c.in-Ok-Some.ensures in
    let l = c.if-link_came.ensures in
    let d = c.close.ensures in
    let arrival = c.in-Ok-Some.arrival in
    let seen = g.S.Sockets.seen in
    LoopStep-refused c.args.headless.now c.link_came.new.self (seen c.args.sockets.now) (seen c.close.new.self) arrival.link arrival.nonce l.comes l.serves c.requires.going c.requires.calm
    (record { told = λ t. e.told (d.told t); taken = λ t. d.taken t ∙ e.taken (d.told t); asked = λ t. d.asked t ∙ e.asked (d.told t); counts = NeverFall-trans _ _ _ e.counts d.counts })
    e.next (d.used ∙ e.used) (let u = d.used in let l = e.limit refl in omega arith) (λ t k. d.sent t k ∙ e.sent (d.told t) k) (λ t k q. sym (e.choked (d.told t) k) ∙ or_left _ _ (sym (d.choked t k) ∙ q)) (λ t. d.asked t ∙ e.asked (d.told t))
    (λ k. d.there k ∙ ap (λ b. b && not (eqb k arrival.link.0)) (e.there k)) (λ k. d.undrained k ∙ ap (λ b. b && not (eqb k arrival.link.0)) (e.undrained k)) (λ k. d.blocked k ∙ ap (λ b. b && not (eqb k arrival.link.0)) (e.blocked k))
    (d.listening ∙ e.listening ∙ and-not-false _) c.requires.agrees

pub returns-then-link_came-clause-arrived : goal.returns-then-link_came-clause-arrived
returns-then-link_came-clause-arrived g c = λ t.
    let e = rw c.in-Ok-Some.field-0-is at c.in-Ok-Some.ensures in
    let d = c.close.ensures in
    arrived-one c.in-Ok-Some.arrival.link c.in-Ok-Some.arrival.nonce _ _ (d.taken t ∙ e.taken (d.told t))

pub returns-else-link_came-clause-continues : goal.returns-else-link_came-clause-continues
returns-else-link_came-clause-continues g c =
    let e = rw c.in-Ok-Some.field-0-is at c.in-Ok-Some.ensures in
    let l = c.if-link_came.ensures in
    let arrival = c.in-Ok-Some.arrival in
    let seen = g.S.Sockets.seen in
    LoopStep-came c.args.headless.now c.link_came.new.self (seen c.args.sockets.now) (seen c.accept.new.self) arrival.link arrival.nonce l.comes l.serves c.requires.going c.requires.calm
    (record { told = e.told; taken = e.taken; asked = e.asked; counts = e.counts }) e.next e.used (e.limit refl) e.sent e.choked e.asked e.there e.undrained e.blocked (e.listening ∙ and-not-false _)

pub returns-else-link_came-clause-arrived : goal.returns-else-link_came-clause-arrived
returns-else-link_came-clause-arrived g c = λ t.
    let e = rw c.in-Ok-Some.field-0-is at c.in-Ok-Some.ensures in
    arrived-one c.in-Ok-Some.arrival.link c.in-Ok-Some.arrival.nonce _ _ (e.taken t)

pub returns-in-Err-clause-continues : goal.returns-in-Err-clause-continues
returns-in-Err-clause-continues g c =
    let e = c.in-Err.ensures in
    let seen = g.S.Sockets.seen in
    rw c.link_missed.ensures (LoopStep-missed c.args.headless.now _ (seen c.args.sockets.now) (seen c.accept.new.self) ListenFailed refl refl (record { told = e.told; taken = e.taken; asked = e.asked; counts = e.counts })
    e.sent e.choked e.asked (record { used = e.used; there = λ k. e.there k ∙ or-false _; undrained = e.undrained; blocked = e.blocked; listening = e.listening ∙ and-not-false _ })
    (λ k. refl) timeless-listen (λ k. refl) (λ k. refl) (λ taken. refl) refl (λ s on taken told. refl))

pub returns-in-Err-clause-arrived : goal.returns-in-Err-clause-arrived
returns-in-Err-clause-arrived g c = λ t. arrived-none _ _ (c.in-Err.ensures.taken t)

pub returns-in-Ok-None-clause-contained : goal.returns-in-Ok-None-clause-contained
returns-in-Ok-None-clause-contained g c = λ s. KeepsLinks-same c.args.headless.now _ refl (omega arith) (λ k. refl) refl

pub returns-then-link_came-clause-contained : goal.returns-then-link_came-clause-contained
returns-then-link_came-clause-contained g c = λ s.
    let e = rw c.in-Ok-Some.field-0-is at c.in-Ok-Some.ensures in
    let l = c.if-link_came.ensures in
    let arrival = c.in-Ok-Some.arrival in
    let next : arrival.link.0 ≡ c.args.headless.now.used + 1 = e.next ∙ ap (λ n. n + 1) (sym s.among.counted) in
    KeepsLinks-refused c.args.headless.now c.link_came.new.self arrival.link arrival.nonce l.comes l.serves next (s.among.unknown arrival.link.0 (omega arith))

pub returns-else-link_came-clause-contained : goal.returns-else-link_came-clause-contained
returns-else-link_came-clause-contained g c = λ s.
    let e = rw c.in-Ok-Some.field-0-is at c.in-Ok-Some.ensures in
    let l = c.if-link_came.ensures in
    let arrival = c.in-Ok-Some.arrival in
    KeepsLinks-came c.args.headless.now c.link_came.new.self arrival.link arrival.nonce l.comes l.serves (e.next ∙ ap (λ n. n + 1) (sym s.among.counted))

pub returns-in-Err-clause-contained : goal.returns-in-Err-clause-contained
returns-in-Err-clause-contained g c = λ s. rw c.link_missed.ensures (KeepsLinks-same c.args.headless.now _ refl (omega arith) (λ k. refl) refl)

use Rattle.wc_turns.proofs.turns.send_once.Goals as goal
use Rattle.std.proofs.Common.{◌≤◌, true, false, refl, sym, ap, ◌∙◌, inr, [], ◌∷◌, length, rules, arith, inl}
use Rattle.wc_outside.specs.declared.happening.Happening.TheVariants.{Failed}
use Rattle.wc_turns.proofs.AgreesLemmas.{timeless-failed}
use Rattle.wc_turns.proofs.StepLemmas.{LoopStep-missed, failed-left}
use Rattle.std.proofs.lemmas.Bool.{false≢true}
use Rattle.wc_turns.proofs.TurnLemmas.{LoopStep-trans}
use Rattle.wc_turns.proofs.CloseLemmas.{LoopStep-refl, LoopStep-quiet, LoopStep-written, OnlyLinks-with, seen_written, there-unless, nothing_sent}
use Rattle.wc_turns.proofs.SourceLemmas.{NothingBecameReady-same, TakesNothing-call, blocked-other, left-same, no-bytes}
use Rattle.wc_turns.proofs.SendLemmas.{LoopStep-first, SendsOn-first, first-less, written-left, written-send, none-left, some-left}
use Rattle.wc_turns.proofs.PartLemmas.{SendsOn-call, SendsOn-trans, SendsOn-written, misses-going}

pub returns-in_default-clause-continues : goal.returns-in_default-clause-continues
returns-in_default-clause-continues g c = LoopStep-refl _ _

pub returns-then-is_empty-clause-continues : goal.returns-then-is_empty-clause-continues
returns-then-is_empty-clause-continues g c = LoopStep-refl _ _

pub returns-in-Ok-Took-clause-continues : goal.returns-in-Ok-Took-clause-continues
returns-in-Ok-Took-clause-continues g c =
    let e = rw c.in-Ok-Took.field-0-is at c.in-Ok-Took.ensures in
    let x = c.args.headless.now in
    let m = c.mark_written in
    let y = record x { links = m.new.self } in
    let a = g.S.Sockets.seen c.args.sockets.now in
    let b = g.S.Sockets.seen c.write.new.self in
    LoopStep-trans x y _ a (seen_written c.args.link.0 false a) b
    (LoopStep-written x y a c.args.link.0 false (OnlyLinks-with x m.new.self m.ensures.closed) (λ q. absurd (false≢true q)) m.ensures.opened)
    (LoopStep-first y _ (seen_written c.args.link.0 false a) b c.args.link.0 c.in-Ok-Took.count c.in-Some.unsent.now (written-send c.args.link.0 false x m.new.self m.ensures.opened ∙ sym c.in-Some.ensures) c.sent.ensures
    (record { told = e.told; taken = e.taken; asked = e.asked; counts = e.counts }) e.sent e.choked e.asked (record { used = e.used; there = e.there; undrained = e.undrained; blocked = e.blocked; listening = e.listening }))

pub returns-in-Ok-Took-clause-sends : goal.returns-in-Ok-Took-clause-sends
returns-in-Ok-Took-clause-sends g c =
    let e = rw c.in-Ok-Took.field-0-is at c.in-Ok-Took.ensures in
    let before = g.S.Sockets.seen c.args.sockets.now in
    let after = g.S.Sockets.seen c.write.new.self in
    let x = c.args.headless.now in
    let m = c.mark_written in
    let y = record x { links = m.new.self } in
    SendsOn-trans c.args.link.0 x y _ before before after e.told (SendsOn-written c.args.link.0 false x y before (OnlyLinks-with x m.new.self m.ensures.closed) m.ensures.opened)
    (SendsOn-first c.args.link.0 c.in-Ok-Took.count y _ before after c.sent.ensures
    (NothingBecameReady-same before after e.undrained e.listening) (TakesNothing-call before after [] e.taken (λ k. refl) refl) (λ k n. e.blocked k ∙ blocked-other k c.args.link.0 _ _ n))

pub returns-in-Ok-Took-clause-less : goal.returns-in-Ok-Took-clause-less
returns-in-Ok-Took-clause-less g c = λ q.
    let e = rw c.in-Ok-Took.field-0-is at c.in-Ok-Took.ensures in
    let some : 1 ≤ length c.in-Some.unsent.now = (let empty = c.if-is_empty.ensures in let is = c.is_empty.ensures in search rules) in
    let x = c.args.headless.now in
    let m = c.mark_written in
    let y = record x { links = m.new.self } in
    let same = ap length (left-same c.args.link.0 x y (written-left c.args.link.0 c.args.link.0 false x m.new.self m.ensures.opened)) in
    let less = first-less c.args.link.0 c.in-Ok-Took.count y _ c.in-Some.unsent.now (written-send c.args.link.0 false x m.new.self m.ensures.opened ∙ sym c.in-Some.ensures) c.sent.ensures (e.within.1 some) e.within.0 in
    omega arith

-- no more is sent than there is
pub sent-requires : goal.sent-requires
sent-requires g c =
    let e = rw c.in-Ok-Took.field-0-is at c.in-Ok-Took.ensures in
    let m = c.mark_written in
    rw (written-send c.args.link.0 false c.args.headless.now m.new.self m.ensures.opened ∙ sym c.in-Some.ensures) e.within.0

pub returns-then-is_empty-clause-done : goal.returns-then-is_empty-clause-done
returns-then-is_empty-clause-done g c = λ q s. inl (some-left c.args.link.0 c.args.headless.now c.in-Some.unsent.now s.among.alone c.in-Some.ensures ∙ no-bytes c.in-Some.unsent.now (sym c.is_empty.ensures ∙ c.if-is_empty.true))

pub returns-in-Ok-NotYet-clause-continues : goal.returns-in-Ok-NotYet-clause-continues
returns-in-Ok-NotYet-clause-continues g c =
    let e = rw c.in-Ok-NotYet.field-0-is at c.in-Ok-NotYet.ensures in
    let x = c.args.headless.now in
    let m = c.mark_written-in-Ok-NotYet in
    let y = record x { links = m.new.self } in
    let a = g.S.Sockets.seen c.args.sockets.now in
    let b = g.S.Sockets.seen c.write.new.self in
    LoopStep-trans x y y a (seen_written c.args.link.0 true a) b
    (LoopStep-written x y a c.args.link.0 true (OnlyLinks-with x m.new.self m.ensures.closed) (λ q. there-unless _ (λ n. false≢true (e.known n))) m.ensures.opened)
    (LoopStep-quiet y (seen_written c.args.link.0 true a) b (record { told = e.told; taken = e.taken; asked = e.asked; counts = e.counts })
    (λ t k. e.sent t k ∙ nothing_sent _ _) e.choked e.asked (record { used = e.used; there = e.there; undrained = e.undrained; blocked = e.blocked; listening = e.listening }))

pub returns-in-Ok-NotYet-clause-sends : goal.returns-in-Ok-NotYet-clause-sends
returns-in-Ok-NotYet-clause-sends g c =
    let e = rw c.in-Ok-NotYet.field-0-is at c.in-Ok-NotYet.ensures in
    let before = g.S.Sockets.seen c.args.sockets.now in
    let after = g.S.Sockets.seen c.write.new.self in
    let x = c.args.headless.now in
    let m = c.mark_written-in-Ok-NotYet in
    let y = record x { links = m.new.self } in
    SendsOn-trans c.args.link.0 x y y before before after e.told (SendsOn-written c.args.link.0 true x y before (OnlyLinks-with x m.new.self m.ensures.closed) m.ensures.opened)
    (SendsOn-call c.args.link.0 y y before after refl refl refl refl (λ k. inr refl) (λ k. refl)
    (NothingBecameReady-same before after e.undrained e.listening) (TakesNothing-call before after [] e.taken (λ k. refl) refl) (λ k n. e.blocked k ∙ blocked-other k c.args.link.0 _ _ n))

pub returns-in-Err-clause-continues : goal.returns-in-Err-clause-continues
returns-in-Err-clause-continues g c =
    let e = c.in-Err.ensures in
    let x = c.args.headless.now in
    let core = x.core in
    let m = c.mark_written-in-Err in
    let y = record x { links = m.new.self } in
    let a = g.S.Sockets.seen c.args.sockets.now in
    let b = g.S.Sockets.seen c.write.new.self in
    let mid = seen_written c.args.link.0 false a in
    rw c.link_missed.ensures (LoopStep-trans x y _ a mid b
    (LoopStep-written x y a c.args.link.0 false (OnlyLinks-with x m.new.self m.ensures.closed) (λ q. absurd (false≢true q)) m.ensures.opened)
    (LoopStep-missed y _ mid b (Failed c.args.link) refl refl (record { told = e.told; taken = e.taken; asked = e.asked; counts = e.counts })
    (λ t k. e.sent t k ∙ nothing_sent _ _) e.choked e.asked (record { used = e.used; there = e.there; undrained = e.undrained; blocked = e.blocked; listening = e.listening })
    (λ k. refl) (timeless-failed c.args.link) (λ k. refl) (λ k. refl) (λ taken. refl) refl
    (λ s on taken. failed-left core c.args.link taken s.among.once s.among.seats s.among.alone (misses-going c.args.link.0 core c.requires.missed on s.among.once s.among.seats.apart))))

pub returns-in-Err-clause-sends : goal.returns-in-Err-clause-sends
returns-in-Err-clause-sends g c =
    let e = c.in-Err.ensures in
    let before = g.S.Sockets.seen c.args.sockets.now in
    let after = g.S.Sockets.seen c.write.new.self in
    let x = c.args.headless.now in
    let m = c.mark_written-in-Err in
    let y = record x { links = m.new.self } in
    SendsOn-trans c.args.link.0 x y _ before before after e.told (SendsOn-written c.args.link.0 false x y before (OnlyLinks-with x m.new.self m.ensures.closed) m.ensures.opened)
    (SendsOn-call c.args.link.0 y c.link_missed.new.self before after (rw c.link_missed.ensures refl) (rw c.link_missed.ensures refl) (rw c.link_missed.ensures refl) (rw c.link_missed.ensures refl) (rw c.link_missed.ensures (λ k. inr refl)) (rw c.link_missed.ensures (λ k. refl))
    (NothingBecameReady-same before after e.undrained e.listening) (TakesNothing-call before after (Failed c.args.link ∷ []) e.taken (λ k. refl) refl) (λ k n. e.blocked k ∙ blocked-other k c.args.link.0 _ _ n))

pub returns-in-Err-clause-done : goal.returns-in-Err-clause-done
returns-in-Err-clause-done g c = λ q s. (let e = c.in-Err.ensures in inr (inr (e.failed, λ t. record { front = []; rest = []; taken = e.taken t })))

pub returns-in_default-clause-done : goal.returns-in_default-clause-done
returns-in_default-clause-done g c = λ q s. inl (none-left c.args.link.0 c.args.headless.now c.in_default.ensures)

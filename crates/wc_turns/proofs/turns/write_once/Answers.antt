use Rattle.wc_turns.proofs.turns.write_once.Goals as goal
use Rattle.wc_text.specs.declared.names.Cause.TheVariants.{Failed as CauseFailed}
use Rattle.wc_turns.specs.declared.turns.Wrote.TheVariants.{All, Lost}
use Rattle.std.proofs.Common.{◌≤◌, true, false, inl, refl, sym, ap, ◌∙◌, [], ◌∷◌, length, rules, arith, ◌≡◌}
use Rattle.wc_outside.specs.declared.happening.Happening.TheVariants.{Failed}
use Rattle.wc_turns.proofs.TurnLemmas.{LoopStep-trans}
use Rattle.std.proofs.lemmas.Bool.{false≢true}
use Rattle.wc_turns.proofs.CloseLemmas.{LoopStep-refl, LoopStep-quiet, LoopStep-written, OnlyLinks-with, seen_written, there-unless, nothing_sent}
use Rattle.wc_turns.proofs.SourceLemmas.{IsWritten-later, NothingBecameReady-refl, TakesNothing-call, TakesNothing-refl, TakesNothing-trans, blocked-other, left-same, put-same, no-bytes}
use Rattle.wc_turns.proofs.SendLemmas.{LoopStep-first, SendsOn-first, SameLeft-trans, first-keeps, first-left, first-less, first-put, none-left, some-left, send-party, written-left, written-send}
use Rattle.wc_turns.proofs.ClosingLemmas.{failed-of}
use Rattle.wc_turns.proofs.PartLemmas.{HasFailed-now, KeepsLinks-sends, SendsOn-written, sends-count}
use Rattle.wc_turns.proofs.ReadLemmas.{LoopStep-lost, lost-leaves, lost-has, lost-count}
use Rattle.wc_turns.proofs.ContainedLemmas.{KeepsLinks-refl, KeepsLinks-trans, KeepsLinks-takes}
use Rattle.wc_turns.specs.Parties.{has_party}

lost-all : Lost ≡ All → ⊥
lost-all q = cc

pub returns-in_default-clause-continues : goal.returns-in_default-clause-continues
returns-in_default-clause-continues g c = LoopStep-refl _ _

pub returns-then-is_empty-clause-continues : goal.returns-then-is_empty-clause-continues
returns-then-is_empty-clause-continues g c = LoopStep-refl _ _

pub returns-in-Ok-Took-clause-continues : goal.returns-in-Ok-Took-clause-continues
returns-in-Ok-Took-clause-continues g c =
    let e = rw c.in-Ok-Took.field-0-is at c.in-Ok-Took.ensures in
    let x = c.args.headless.now in
    let m = c.mark_written in
    let y = record x { links = m.new.self } in
    let a = g.S.Sockets.seen c.args.sockets.now in
    let b = g.S.Sockets.seen c.write.new.self in
    LoopStep-trans x y _ a (seen_written c.args.link.0 false a) b
    (LoopStep-written x y a c.args.link.0 false (OnlyLinks-with x m.new.self m.ensures.closed) (λ q. absurd (false≢true q)) m.ensures.opened)
    (LoopStep-first y _ (seen_written c.args.link.0 false a) b c.args.link.0 c.in-Ok-Took.count c.in-Some.unsent.now (written-send c.args.link.0 false x m.new.self m.ensures.opened ∙ sym c.in-Some.ensures) c.sent.ensures
    (record { told = e.told; taken = e.taken; asked = e.asked; counts = e.counts }) e.sent e.choked e.asked (record { used = e.used; there = e.there; undrained = e.undrained; blocked = e.blocked; listening = e.listening }))

-- no more is sent than there is
pub sent-requires : goal.sent-requires
sent-requires g c =
    let e = rw c.in-Ok-Took.field-0-is at c.in-Ok-Took.ensures in
    let m = c.mark_written in
    rw (written-send c.args.link.0 false c.args.headless.now m.new.self m.ensures.opened ∙ sym c.in-Some.ensures) e.within.0

pub returns-in-Ok-Took-clause-calm : goal.returns-in-Ok-Took-clause-calm
returns-in-Ok-Took-clause-calm g c =
    let kept = first-keeps c.args.link.0 c.in-Ok-Took.count (record c.args.headless.now { links = c.mark_written.new.self }) _ c.sent.ensures in
    record { parted = kept.leaving ∙ c.requires.calm.parted; asked = kept.wanted ∙ c.requires.calm.asked }

pub returns-in-Ok-Took-clause-put : goal.returns-in-Ok-Took-clause-put
returns-in-Ok-Took-clause-put g c = λ q h.
    let x = c.args.headless.now in
    let m = c.mark_written in
    let y = record x { links = m.new.self } in
    first-put c.args.link.0 c.in-Ok-Took.count y _ c.sent.ensures (put-same c.args.link.0 x y (written-left c.args.link.0 c.args.link.0 false x m.new.self m.ensures.opened) h)

pub returns-in_default-clause-done : goal.returns-in_default-clause-done
returns-in_default-clause-done g c = λ q h. inl (record { left = none-left c.args.link.0 c.args.headless.now c.in_default.ensures; put = h })

pub returns-then-is_empty-clause-done : goal.returns-then-is_empty-clause-done
returns-then-is_empty-clause-done g c = λ q h. inl (record { left = some-left c.args.link.0 c.args.headless.now c.in-Some.unsent.now c.requires.agrees.among.alone c.in-Some.ensures ∙ no-bytes c.in-Some.unsent.now (sym c.is_empty.ensures ∙ c.if-is_empty.true); put = h })

pub returns-in-Ok-Took-clause-others : goal.returns-in-Ok-Took-clause-others
returns-in-Ok-Took-clause-others g c = λ q k n.
    let x = c.args.headless.now in
    let m = c.mark_written in
    let y = record x { links = m.new.self } in
    IsWritten-later k x c.sent.new.self (g.S.Sockets.seen c.args.sockets.now) (g.S.Sockets.seen c.write.new.self)
    (SameLeft-trans k x y c.sent.new.self (written-left k c.args.link.0 false x m.new.self m.ensures.opened) (first-left k c.args.link.0 c.in-Ok-Took.count y c.sent.new.self c.sent.ensures n)) (c.write.ensures.blocked k ∙ blocked-other k c.args.link.0 _ _ n)

pub returns-in-Ok-NotYet-clause-others : goal.returns-in-Ok-NotYet-clause-others
returns-in-Ok-NotYet-clause-others g c = λ q k n.
    let x = c.args.headless.now in
    let m = c.mark_written-in-Ok-NotYet in
    IsWritten-later k x (record x { links = m.new.self }) (g.S.Sockets.seen c.args.sockets.now) (g.S.Sockets.seen c.write.new.self)
    (written-left k c.args.link.0 true x m.new.self m.ensures.opened) (c.write.ensures.blocked k ∙ blocked-other k c.args.link.0 _ _ n)

pub returns-in-Ok-Took-clause-less : goal.returns-in-Ok-Took-clause-less
returns-in-Ok-Took-clause-less g c = λ q.
    let e = rw c.in-Ok-Took.field-0-is at c.in-Ok-Took.ensures in
    let some : 1 ≤ length c.in-Some.unsent.now = (let empty = c.if-is_empty.ensures in let is = c.is_empty.ensures in search rules) in
    let x = c.args.headless.now in
    let m = c.mark_written in
    let y = record x { links = m.new.self } in
    let same = ap length (left-same c.args.link.0 x y (written-left c.args.link.0 c.args.link.0 false x m.new.self m.ensures.opened)) in
    let less = first-less c.args.link.0 c.in-Ok-Took.count y _ c.in-Some.unsent.now (written-send c.args.link.0 false x m.new.self m.ensures.opened ∙ sym c.in-Some.ensures) c.sent.ensures (e.within.1 some) e.within.0 in
    omega arith

pub returns-in-Ok-NotYet-clause-continues : goal.returns-in-Ok-NotYet-clause-continues
returns-in-Ok-NotYet-clause-continues g c =
    let e = rw c.in-Ok-NotYet.field-0-is at c.in-Ok-NotYet.ensures in
    let x = c.args.headless.now in
    let m = c.mark_written-in-Ok-NotYet in
    let y = record x { links = m.new.self } in
    let a = g.S.Sockets.seen c.args.sockets.now in
    let b = g.S.Sockets.seen c.write.new.self in
    LoopStep-trans x y y a (seen_written c.args.link.0 true a) b
    (LoopStep-written x y a c.args.link.0 true (OnlyLinks-with x m.new.self m.ensures.closed) (λ q. there-unless _ (λ n. false≢true (e.known n))) m.ensures.opened)
    (LoopStep-quiet y (seen_written c.args.link.0 true a) b (record { told = e.told; taken = e.taken; asked = e.asked; counts = e.counts })
    (λ t k. e.sent t k ∙ nothing_sent _ _) e.choked e.asked (record { used = e.used; there = e.there; undrained = e.undrained; blocked = e.blocked; listening = e.listening }))

pub returns-in-Err-clause-continues : goal.returns-in-Err-clause-continues
returns-in-Err-clause-continues g c =
    let e = c.in-Err.ensures in
    let l = c.link_gone.ensures in
    let x = c.args.headless.now in
    let m = c.mark_written-in-Err in
    let y = record x { links = m.new.self } in
    let a = g.S.Sockets.seen c.args.sockets.now in
    let b = g.S.Sockets.seen c.write.new.self in
    let mid = seen_written c.args.link.0 false a in
    let first = LoopStep-trans x y _ a mid _
    (LoopStep-written x y a c.args.link.0 false (OnlyLinks-with x m.new.self m.ensures.closed) (λ q. absurd (false≢true q)) m.ensures.opened)
    (LoopStep-lost y c.link_gone.new.self c.args.link (Failed c.args.link) CauseFailed mid b
    (record { call = record { told = e.told; taken = e.taken; asked = e.asked; counts = e.counts }; sent = λ t k. e.sent t k ∙ nothing_sent _ _; choked = e.choked; asked = e.asked; same = record { used = e.used; there = e.there; undrained = e.undrained; blocked = e.blocked; listening = e.listening } })
    refl refl c.requires.calm c.requires.going (l.failed refl) (λ taken. failed-of c.args.link.0) l.core (e.failed, λ t. record { front = []; rest = []; taken = e.taken t })) in
    LoopStep-trans x c.link_gone.new.self _ a b _ first c.settle.ensures.continues

pub returns-in-Err-clause-done : goal.returns-in-Err-clause-done
returns-in-Err-clause-done g c = λ q. absurd (lost-all q)

pub returns-in-Err-clause-others : goal.returns-in-Err-clause-others
returns-in-Err-clause-others g c = λ q k n. absurd (q refl)

pub returns-in-Err-clause-nothing : goal.returns-in-Err-clause-nothing
returns-in-Err-clause-nothing g c =
    let e = c.in-Err.ensures in
    TakesNothing-trans _ (g.S.Sockets.seen c.write.new.self) _ c.settle.ensures.continues.told
    (TakesNothing-call (g.S.Sockets.seen c.args.sockets.now) (g.S.Sockets.seen c.write.new.self) (Failed c.args.link ∷ []) e.taken (λ k. refl) refl) c.settle.ensures.settles.nothing

pub returns-in_default-clause-contained : goal.returns-in_default-clause-contained
returns-in_default-clause-contained g c = KeepsLinks-refl _

pub returns-then-is_empty-clause-contained : goal.returns-then-is_empty-clause-contained
returns-then-is_empty-clause-contained g c = KeepsLinks-refl _

pub returns-in-Ok-Took-clause-contained : goal.returns-in-Ok-Took-clause-contained
returns-in-Ok-Took-clause-contained g c =
    let x = c.args.headless.now in
    let m = c.mark_written in
    let y = record x { links = m.new.self } in
    let a = g.S.Sockets.seen c.args.sockets.now in
    KeepsLinks-trans x y _ (KeepsLinks-sends c.args.link.0 x y _ _ (SendsOn-written c.args.link.0 false x y (g.S.Sockets.seen c.args.sockets.now) (OnlyLinks-with x m.new.self m.ensures.closed) m.ensures.opened)) (KeepsLinks-sends c.args.link.0 y _ a a (SendsOn-first c.args.link.0 c.in-Ok-Took.count y _ a a c.sent.ensures (NothingBecameReady-refl a) (TakesNothing-refl a) (λ k n. refl)))

pub returns-in-Ok-NotYet-clause-contained : goal.returns-in-Ok-NotYet-clause-contained
returns-in-Ok-NotYet-clause-contained g c =
    let x = c.args.headless.now in
    let m = c.mark_written-in-Ok-NotYet in
    let y = record x { links = m.new.self } in
    KeepsLinks-sends c.args.link.0 x y _ _ (SendsOn-written c.args.link.0 true x y (g.S.Sockets.seen c.args.sockets.now) (OnlyLinks-with x m.new.self m.ensures.closed) m.ensures.opened)

pub returns-in-Err-clause-contained : goal.returns-in-Err-clause-contained
returns-in-Err-clause-contained g c =
    let l = c.link_gone.ensures in
    let x = c.args.headless.now in
    let m = c.mark_written-in-Err in
    let y = record x { links = m.new.self } in
    KeepsLinks-trans x y _ (KeepsLinks-sends c.args.link.0 x y _ _ (SendsOn-written c.args.link.0 false x y (g.S.Sockets.seen c.args.sockets.now) (OnlyLinks-with x m.new.self m.ensures.closed) m.ensures.opened))
    (KeepsLinks-trans y c.link_gone.new.self _ (KeepsLinks-takes y c.link_gone.new.self _ (l.failed refl) l.core.keeps.rises) c.settle.ensures.settles.contained)

pub returns-in-Ok-Took-clause-going : goal.returns-in-Ok-Took-clause-going
returns-in-Ok-Took-clause-going g c =
    (first-keeps c.args.link.0 c.in-Ok-Took.count (record c.args.headless.now { links = c.mark_written.new.self }) _ c.sent.ensures).quits ∙ c.requires.going

pub returns-in-Ok-Took-clause-parties : goal.returns-in-Ok-Took-clause-parties
returns-in-Ok-Took-clause-parties g c =
    let y = record c.args.headless.now { links = c.mark_written.new.self } in
    let a = g.S.Sockets.seen c.args.sockets.now in
    let e = sends-count c.args.link.0 y _ a a (SendsOn-first c.args.link.0 c.in-Ok-Took.count y _ a a c.sent.ensures (NothingBecameReady-refl a) (TakesNothing-refl a) (λ k n. refl)) in
    omega arith

pub settle-requires : goal.settle-requires
settle-requires g c =
    let e = c.in-Err.ensures in
    let l = c.link_gone.ensures in
    let x = c.args.headless.now in
    let m = c.mark_written-in-Err in
    let y = record x { links = m.new.self } in
    let a = g.S.Sockets.seen c.args.sockets.now in
    let b = g.S.Sockets.seen c.write.new.self in
    let mid = seen_written c.args.link.0 false a in
    let first = LoopStep-trans x y _ a mid _
    (LoopStep-written x y a c.args.link.0 false (OnlyLinks-with x m.new.self m.ensures.closed) (λ q. absurd (false≢true q)) m.ensures.opened)
    (LoopStep-lost y c.link_gone.new.self c.args.link (Failed c.args.link) CauseFailed mid b
    (record { call = record { told = e.told; taken = e.taken; asked = e.asked; counts = e.counts }; sent = λ t k. e.sent t k ∙ nothing_sent _ _; choked = e.choked; asked = e.asked; same = record { used = e.used; there = e.there; undrained = e.undrained; blocked = e.blocked; listening = e.listening } })
    refl refl c.requires.calm c.requires.going (l.failed refl) (λ taken. failed-of c.args.link.0) l.core (e.failed, λ t. record { front = []; rest = []; taken = e.taken t })) in
    record { agrees = first.agrees c.requires.agrees; failed = HasFailed-now c.args.link (g.S.Sockets.seen c.args.sockets.now) (g.S.Sockets.seen c.write.new.self) c.in-Err.ensures.taken }

pub returns-in-Err-clause-going : goal.returns-in-Err-clause-going
returns-in-Err-clause-going g c = c.settle.ensures.settles.quits ∙ c.link_gone.ensures.core.quits ∙ c.requires.going

pub returns-in-Err-clause-parties : goal.returns-in-Err-clause-parties
returns-in-Err-clause-parties g c =
    let l = c.link_gone.ensures in
    let count = lost-count c.args.link.0 CauseFailed c.args.headless.now.core c.link_gone.new.self.core l.core in
    let fewer = c.settle.ensures.settles.fewer in
    omega arith

pub returns-in-Err-clause-lost : goal.returns-in-Err-clause-lost
returns-in-Err-clause-lost g c = λ q.
    let l = c.link_gone.ensures in
    let x = c.args.headless.now.core in
    let y = c.link_gone.new.self.core in
    let s = c.settle.ensures.settles in
    let there : has_party c.args.link.0 x ≡ true = send-party c.args.link.0 c.args.headless.now (g.S.Sockets.seen c.args.sockets.now) c.in-Some.unsent.now c.requires.agrees c.in-Some.ensures in
    let count = lost-count c.args.link.0 CauseFailed x y l.core in
    let gone = s.parted c.args.link.0 (lost-leaves c.args.link.0 CauseFailed x y l.core there) in
    let fewer = s.lost c.args.link.0 (lost-has c.args.link.0 CauseFailed x y l.core c.args.link.0 ∙ there) gone in
    omega arith

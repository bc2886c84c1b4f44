use Rattle.wc_turns.proofs.connect.stand_link.Goals as goal
use Rattle.wc_text.specs.declared.names.Cause.TheVariants.{Failed as CauseFailed}
use Rattle.wc_outside.specs.declared.happening.Happening.TheVariants.{Connected, Failed}
use Rattle.wc_turns.proofs.ClosingLemmas.{failed-of}
use Rattle.std.proofs.Common.{refl, ap, map, ◌∙◌, ◌∷◌, [], arith}
use Rattle.wc_turns.proofs.ReadLemmas.{LoopStep-stood, LoopStep-lost, ReadsOn-settles, ReadsOn-call, and-not-none, kept-used, kept-party, connecting-there, settled-drained, lost-leaves}
use Rattle.wc_turns.proofs.TurnLemmas.{LoopStep-trans}
use Rattle.wc_turns.proofs.CloseLemmas.{LoopStep-drained, OnlyLinks-with}
use Rattle.wc_turns.proofs.SourceLemmas.{NothingBecameReady-same, TakesNothing-trans, TakesNothing-call}
use Rattle.wc_turns.proofs.ContainedLemmas.{KeepsLinks-trans, KeepsLinks-takes, KeepsLinks-same}
use Rattle.wc_outside.specs.Keyed.{at_key}
use Rattle.wc_turns.specs.Links.{link_number, drained_state}
use Rattle.wc_turns.proofs.ChangedLemmas.{keeps-drained, numbers-changed}
use Rattle.wc_turns.proofs.KeyedLemmas.{same-keys}

pub settle-requires-clause-agrees : goal.settle-requires-clause-agrees
settle-requires-clause-agrees g c =
    let e = rw c.in-Ok-true.field-0-test at c.in-Ok-true.ensures in
    let l = c.link_stands.ensures in
    let seen = g.S.Sockets.seen in
    let x = c.args.headless.now in
    let a = seen c.args.sockets.now in
    let b = seen c.connected.new.self in
    let first = LoopStep-stood x c.link_stands.new.self c.args.link a b
    (record { call = record { told = e.told; taken = e.taken; asked = e.asked; counts = e.counts }; sent = e.sent; choked = e.choked; asked = e.asked; same = record { used = e.used; there = e.there; undrained = λ k. e.undrained k ∙ and-not-none _ _; blocked = e.blocked; listening = e.listening } }) c.requires.calm c.requires.going l.takes l.keeps l.links in
    first.agrees c.requires.agrees

pub settle-requires-in-Err-clause-agrees : goal.settle-requires-in-Err-clause-agrees
settle-requires-in-Err-clause-agrees g c =
    let e = c.in-Err.ensures in
    let l = c.link_gone.ensures in
    let seen = g.S.Sockets.seen in
    let x = c.args.headless.now in
    let first = LoopStep-lost x c.link_gone.new.self c.args.link (Failed c.args.link) CauseFailed (seen c.args.sockets.now) (seen c.connected.new.self)
    (record { call = record { told = e.told; taken = e.taken; asked = e.asked; counts = e.counts }; sent = e.sent; choked = e.choked; asked = e.asked; same = record { used = e.used; there = e.there; undrained = λ k. e.undrained k ∙ and-not-none _ _; blocked = e.blocked; listening = e.listening } }) refl refl c.requires.calm c.requires.going (l.failed refl) (λ taken. failed-of c.args.link.0) l.core (e.failed, λ t. record { front = []; rest = []; taken = e.taken t }) in
    first.agrees c.requires.agrees

pub returns-in-Ok-true-clause-continues : goal.returns-in-Ok-true-clause-continues
returns-in-Ok-true-clause-continues g c =
    let e = rw c.in-Ok-true.field-0-test at c.in-Ok-true.ensures in
    let l = c.link_stands.ensures in
    let seen = g.S.Sockets.seen in
    let x = c.args.headless.now in
    let a = seen c.args.sockets.now in
    let b = seen c.connected.new.self in
    let first = LoopStep-stood x c.link_stands.new.self c.args.link a b
    (record { call = record { told = e.told; taken = e.taken; asked = e.asked; counts = e.counts }; sent = e.sent; choked = e.choked; asked = e.asked; same = record { used = e.used; there = e.there; undrained = λ k. e.undrained k ∙ and-not-none _ _; blocked = e.blocked; listening = e.listening } }) c.requires.calm c.requires.going l.takes l.keeps l.links in
    LoopStep-trans x c.link_stands.new.self _ a b _ first c.settle.ensures.continues

pub returns-in-Ok-true-clause-reads : goal.returns-in-Ok-true-clause-reads
returns-in-Ok-true-clause-reads g c =
    let e = rw c.in-Ok-true.field-0-test at c.in-Ok-true.ensures in
    let a = g.S.Sockets.seen c.args.sockets.now in
    let b = g.S.Sockets.seen c.connected.new.self in
    let p = c.settle.ensures in
    ReadsOn-settles c.args.link.0 c.link_stands.new.self c.settle.new.headless a b _ p.continues.told
    (ReadsOn-call c.args.link.0 a b (Connected c.args.link ∷ []) (NothingBecameReady-same a b (λ k. e.undrained k ∙ and-not-none _ _) e.listening) e.taken (λ k n. refl) refl) p.settles

pub returns-in-Ok-true-clause-nothing : goal.returns-in-Ok-true-clause-nothing
returns-in-Ok-true-clause-nothing g c =
    let e = rw c.in-Ok-true.field-0-test at c.in-Ok-true.ensures in
    TakesNothing-trans _ (g.S.Sockets.seen c.connected.new.self) _ c.settle.ensures.continues.told
    (TakesNothing-call (g.S.Sockets.seen c.args.sockets.now) (g.S.Sockets.seen c.connected.new.self) (Connected c.args.link ∷ []) e.taken (λ k. refl) refl) c.settle.ensures.settles.nothing

pub returns-in-Ok-true-clause-contained : goal.returns-in-Ok-true-clause-contained
returns-in-Ok-true-clause-contained g c =
    let l = c.link_stands.ensures in
    KeepsLinks-trans c.args.headless.now c.link_stands.new.self _ (KeepsLinks-takes c.args.headless.now c.link_stands.new.self _ l.takes l.keeps.rises) c.settle.ensures.settles.contained

pub returns-in-Ok-true-clause-stands : goal.returns-in-Ok-true-clause-stands
returns-in-Ok-true-clause-stands g c = λ q.
    let x = c.args.headless.now in
    let l = c.link_stands.ensures in
    let used = kept-used c.args.link.0 x (g.S.Sockets.seen c.args.sockets.now) c.requires.agrees (connecting-there (at_key link_number c.args.link.0 x.links.opened.items) c.requires.connecting) in
    let same = l.takes.used in
    c.settle.ensures.settles.stands c.args.link.0 (omega arith) l.stands

pub returns-in-Ok-false-clause-continues : goal.returns-in-Ok-false-clause-continues
returns-in-Ok-false-clause-continues g c =
    let e = rw c.in-Ok-false.field-0-test at c.in-Ok-false.ensures in
    LoopStep-drained c.args.headless.now _ (g.S.Sockets.seen c.args.sockets.now) (g.S.Sockets.seen c.connected.new.self) c.args.link.0
    (OnlyLinks-with c.args.headless.now c.mark_drained.new.self c.mark_drained.ensures.closed)
    (record { told = e.told; taken = e.taken; asked = e.asked; counts = e.counts }) e.sent e.choked e.asked e.used e.there e.listening e.undrained e.blocked c.mark_drained.ensures.opened

pub returns-in-Ok-false-clause-contained : goal.returns-in-Ok-false-clause-contained
returns-in-Ok-false-clause-contained g c =
    let states = c.args.headless.now.links.opened.items in
    KeepsLinks-same c.args.headless.now _ refl (omega arith) (λ k. same-keys link_number k _ states (ap (λ ss. map link_number ss) c.mark_drained.ensures.opened ∙ numbers-changed c.args.link.0 drained_state keeps-drained states)) (ap (λ v. v.items) c.mark_drained.ensures.closed)

pub returns-in-Err-clause-continues : goal.returns-in-Err-clause-continues
returns-in-Err-clause-continues g c =
    let e = c.in-Err.ensures in
    let l = c.link_gone.ensures in
    let seen = g.S.Sockets.seen in
    let x = c.args.headless.now in
    let first = LoopStep-lost x c.link_gone.new.self c.args.link (Failed c.args.link) CauseFailed (seen c.args.sockets.now) (seen c.connected.new.self)
    (record { call = record { told = e.told; taken = e.taken; asked = e.asked; counts = e.counts }; sent = e.sent; choked = e.choked; asked = e.asked; same = record { used = e.used; there = e.there; undrained = λ k. e.undrained k ∙ and-not-none _ _; blocked = e.blocked; listening = e.listening } }) refl refl c.requires.calm c.requires.going (l.failed refl) (λ taken. failed-of c.args.link.0) l.core (e.failed, λ t. record { front = []; rest = []; taken = e.taken t }) in
    LoopStep-trans x c.link_gone.new.self _ (seen c.args.sockets.now) (seen c.connected.new.self) _ first c.settle-in-Err.ensures.continues

pub returns-in-Err-clause-reads : goal.returns-in-Err-clause-reads
returns-in-Err-clause-reads g c =
    let e = c.in-Err.ensures in
    let a = g.S.Sockets.seen c.args.sockets.now in
    let b = g.S.Sockets.seen c.connected.new.self in
    let p = c.settle-in-Err.ensures in
    ReadsOn-settles c.args.link.0 c.link_gone.new.self c.settle-in-Err.new.headless a b _ p.continues.told
    (ReadsOn-call c.args.link.0 a b (Failed c.args.link ∷ []) (NothingBecameReady-same a b (λ k. e.undrained k ∙ and-not-none _ _) e.listening) e.taken (λ k n. refl) refl) p.settles

pub returns-in-Err-clause-nothing : goal.returns-in-Err-clause-nothing
returns-in-Err-clause-nothing g c =
    let e = c.in-Err.ensures in
    TakesNothing-trans _ (g.S.Sockets.seen c.connected.new.self) _ c.settle-in-Err.ensures.continues.told
    (TakesNothing-call (g.S.Sockets.seen c.args.sockets.now) (g.S.Sockets.seen c.connected.new.self) (Failed c.args.link ∷ []) e.taken (λ k. refl) refl) c.settle-in-Err.ensures.settles.nothing

pub returns-in-Err-clause-drained : goal.returns-in-Err-clause-drained
returns-in-Err-clause-drained g c = λ none on.
    let e = c.in-Err.ensures in
    let l = c.link_gone.ensures in
    let seen = g.S.Sockets.seen in
    let x = c.args.headless.now in
    let first = LoopStep-lost x c.link_gone.new.self c.args.link (Failed c.args.link) CauseFailed (seen c.args.sockets.now) (seen c.connected.new.self)
    (record { call = record { told = e.told; taken = e.taken; asked = e.asked; counts = e.counts }; sent = e.sent; choked = e.choked; asked = e.asked; same = record { used = e.used; there = e.there; undrained = λ k. e.undrained k ∙ and-not-none _ _; blocked = e.blocked; listening = e.listening } }) refl refl c.requires.calm c.requires.going (l.failed refl) (λ taken. failed-of c.args.link.0) l.core (e.failed, λ t. record { front = []; rest = []; taken = e.taken t }) in
    let p = c.settle-in-Err.ensures in
    let s = c.requires.agrees in
    settled-drained c.args.link.0 c.link_gone.new.self c.settle-in-Err.new.headless (seen c.connected.new.self) (seen c.settle-in-Err.new.sockets) (p.continues.agrees (first.agrees s)) p.settles
    (lost-leaves c.args.link.0 CauseFailed x.core c.link_gone.new.self.core l.core (kept-party c.args.link.0 x (seen c.args.sockets.now) s (connecting-there (at_key link_number c.args.link.0 x.links.opened.items) c.requires.connecting)))

pub returns-in-Err-clause-contained : goal.returns-in-Err-clause-contained
returns-in-Err-clause-contained g c =
    let l = c.link_gone.ensures in
    KeepsLinks-trans c.args.headless.now c.link_gone.new.self _ (KeepsLinks-takes c.args.headless.now c.link_gone.new.self _ (l.failed refl) l.core.keeps.rises) c.settle-in-Err.ensures.settles.contained

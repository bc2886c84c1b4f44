use Rattle.wc_turns.proofs.turns.read_once.Goals as goal
use Rattle.std.proofs.Common.{inl, refl, ap, sym, ◌∙◌, [], ◌∷◌, arith, map, is_some, None, false, subst}
use Rattle.std.proofs.lemmas.Bool.{false≢true}
use Rattle.wc_outside.specs.declared.happening.Happening.TheVariants.{Ended, Failed}
use Rattle.wc_turns.proofs.TurnLemmas.{LoopStep-trans}
use Rattle.wc_turns.proofs.CloseLemmas.{LoopStep-refl, LoopStep-drained, OnlyLinks-with}
use Rattle.wc_turns.proofs.ClosingLemmas.{ended-of, failed-of}
use Rattle.wc_turns.proofs.SourceLemmas.{NothingBecameReady-same}
use Rattle.wc_turns.proofs.PartLemmas.{HasFailed-now, kinds-stand}
use Rattle.wc_turns.proofs.ReadLemmas.{LoopStep-read, LoopStep-lost, ReadsOn-read, ReadsOn-call, ReadsOn-settles, bytes-read, settled-drained, lost-leaves, kept-party, kept-used, and-not-none, bytes-kept}
use Rattle.wc_turns.specs.Links.{link_number, drained_state, new_state, IsStanding}
use Rattle.wc_turns.proofs.ChangedLemmas.{keeps-drained, numbers-changed, SameKinds-changed, kind-drained}
use Rattle.wc_turns.proofs.KeyedLemmas.{same-keys}
use Rattle.wc_turns.proofs.ContainedLemmas.{KeepsLinks-refl, KeepsLinks-same, KeepsLinks-trans, KeepsLinks-takes}
use Rattle.wc_text.specs.declared.names.Cause.TheVariants.{Ended as CauseEnded, Failed as CauseFailed}
use Rattle.wc_turns.specs.declared.headless.Headless.{Headless}

pub returns-in_default-clause-continues : goal.returns-in_default-clause-continues
returns-in_default-clause-continues g c = LoopStep-refl _ _

pub returns-in_default-clause-contained : goal.returns-in_default-clause-contained
returns-in_default-clause-contained g c = KeepsLinks-refl _

pub returns-in-Ok-NotYet-clause-continues : goal.returns-in-Ok-NotYet-clause-continues
returns-in-Ok-NotYet-clause-continues g c =
    let e = rw c.in-Ok-NotYet.field-0-is at c.in-Ok-NotYet.ensures in
    LoopStep-drained c.args.headless.now _ (g.S.Sockets.seen c.args.sockets.now) (g.S.Sockets.seen c.read.new.self) c.args.link.0
    (OnlyLinks-with c.args.headless.now c.mark_drained.new.self c.mark_drained.ensures.closed)
    (record { told = e.told; taken = e.taken; asked = e.asked; counts = e.counts }) e.sent e.choked e.asked e.used e.there e.listening e.undrained e.blocked c.mark_drained.ensures.opened

pub returns-in-Ok-NotYet-clause-contained : goal.returns-in-Ok-NotYet-clause-contained
returns-in-Ok-NotYet-clause-contained g c =
    let states = c.args.headless.now.links.opened.items in
    KeepsLinks-same c.args.headless.now _ refl (omega arith) (λ k. same-keys link_number k _ states (ap (λ ss. map link_number ss) c.mark_drained.ensures.opened ∙ numbers-changed c.args.link.0 drained_state keeps-drained states)) (ap (λ v. v.items) c.mark_drained.ensures.closed)

pub returns-in-Ok-NotYet-clause-stands : goal.returns-in-Ok-NotYet-clause-stands
returns-in-Ok-NotYet-clause-stands g c =
    let states = c.args.headless.now.links.opened.items in
    rw c.mark_drained.ensures.opened (kinds-stand states _ (SameKinds-changed c.args.link.0 drained_state keeps-drained kind-drained states) c.args.link.0 c.requires.stands)

pub settle-requires-clause-agrees : goal.settle-requires-clause-agrees
settle-requires-clause-agrees g c =
    let e = rw c.in-Ok-Bytes.field-0-is at c.in-Ok-Bytes.ensures in
    let seen = g.S.Sockets.seen in
    let x = c.args.headless.now in
    let first = LoopStep-read x c.bytes_came.new.self c.args.link _ (seen c.args.sockets.now) (seen c.read.new.self)
    (record { call = record { told = e.told; taken = e.taken; asked = e.asked; counts = e.counts }; sent = e.sent; choked = e.choked; asked = e.asked; same = record { used = e.used; there = e.there; undrained = λ k. e.undrained k ∙ and-not-none _ _; blocked = e.blocked; listening = e.listening } }) c.requires.calm c.requires.going c.bytes_came.ensures.takes c.bytes_came.ensures.causes in
    first.agrees c.requires.agrees

pub returns-then-quits-clause-continues : goal.returns-then-quits-clause-continues
returns-then-quits-clause-continues g c =
    let e = rw c.in-Ok-Bytes.field-0-is at c.in-Ok-Bytes.ensures in
    let seen = g.S.Sockets.seen in
    let x = c.args.headless.now in
    let first = LoopStep-read x c.bytes_came.new.self c.args.link _ (seen c.args.sockets.now) (seen c.read.new.self)
    (record { call = record { told = e.told; taken = e.taken; asked = e.asked; counts = e.counts }; sent = e.sent; choked = e.choked; asked = e.asked; same = record { used = e.used; there = e.there; undrained = λ k. e.undrained k ∙ and-not-none _ _; blocked = e.blocked; listening = e.listening } }) c.requires.calm c.requires.going c.bytes_came.ensures.takes c.bytes_came.ensures.causes in
    LoopStep-trans x c.bytes_came.new.self _ (seen c.args.sockets.now) (seen c.read.new.self) _ first c.settle.ensures.continues

pub returns-then-quits-clause-reads : goal.returns-then-quits-clause-reads
returns-then-quits-clause-reads g c =
    let e = rw c.in-Ok-Bytes.field-0-is at c.in-Ok-Bytes.ensures in
    let p = c.settle.ensures in
    ReadsOn-read c.bytes_came.new.self c.settle.new.headless c.args.link _ (g.S.Sockets.seen c.args.sockets.now) (g.S.Sockets.seen c.read.new.self) _
    (record { call = record { told = e.told; taken = e.taken; asked = e.asked; counts = e.counts }; sent = e.sent; choked = e.choked; asked = e.asked; same = record { used = e.used; there = e.there; undrained = λ k. e.undrained k ∙ and-not-none _ _; blocked = e.blocked; listening = e.listening } }) p.continues.told p.settles

pub returns-then-quits-clause-within : goal.returns-then-quits-clause-within
returns-then-quits-clause-within g c = λ t.
    let e = rw c.in-Ok-Bytes.field-0-is at c.in-Ok-Bytes.ensures in
    let p = c.settle.ensures in
    let kept = p.settles.nothing.bytes t c.args.link.0 in
    let within = e.within.1 in
    let size = c.read.auto.into in
    let read = bytes-read c.args.link c.in-Ok-Bytes.count c.read.new.into (g.S.Sockets.seen c.args.sockets.now).taken (g.S.Sockets.seen c.read.new.self).taken (e.taken (p.continues.told t)) (omega arith) in
    omega arith

pub returns-then-quits-clause-contained : goal.returns-then-quits-clause-contained
returns-then-quits-clause-contained g c =
    let l = c.bytes_came.ensures in
    KeepsLinks-trans c.args.headless.now c.bytes_came.new.self _ (KeepsLinks-takes c.args.headless.now c.bytes_came.new.self _ l.takes.takes l.causes.rises) c.settle.ensures.settles.contained

pub returns-then-quits-clause-stands : goal.returns-then-quits-clause-stands
returns-then-quits-clause-stands g c =
    let l = c.bytes_came.ensures in
    let used = kept-used c.args.link.0 c.args.headless.now (g.S.Sockets.seen c.args.sockets.now) c.requires.agrees (ap is_some (c.in-Some.ensures.found (new_state c.args.link None false))) in
    let same = l.takes.takes.used in
    c.settle.ensures.settles.stands c.args.link.0 (omega arith) l.stands

pub returns-else-quits-clause-continues : goal.returns-else-quits-clause-continues
returns-else-quits-clause-continues g c =
    let e = rw c.in-Ok-Bytes.field-0-is at c.in-Ok-Bytes.ensures in
    let seen = g.S.Sockets.seen in
    let x = c.args.headless.now in
    let first = LoopStep-read x c.bytes_came.new.self c.args.link _ (seen c.args.sockets.now) (seen c.read.new.self)
    (record { call = record { told = e.told; taken = e.taken; asked = e.asked; counts = e.counts }; sent = e.sent; choked = e.choked; asked = e.asked; same = record { used = e.used; there = e.there; undrained = λ k. e.undrained k ∙ and-not-none _ _; blocked = e.blocked; listening = e.listening } }) c.requires.calm c.requires.going c.bytes_came.ensures.takes c.bytes_came.ensures.causes in
    LoopStep-trans x c.bytes_came.new.self _ (seen c.args.sockets.now) (seen c.read.new.self) _ first c.settle.ensures.continues

pub returns-else-quits-clause-reads : goal.returns-else-quits-clause-reads
returns-else-quits-clause-reads g c =
    let e = rw c.in-Ok-Bytes.field-0-is at c.in-Ok-Bytes.ensures in
    let p = c.settle.ensures in
    ReadsOn-read c.bytes_came.new.self c.settle.new.headless c.args.link _ (g.S.Sockets.seen c.args.sockets.now) (g.S.Sockets.seen c.read.new.self) _
    (record { call = record { told = e.told; taken = e.taken; asked = e.asked; counts = e.counts }; sent = e.sent; choked = e.choked; asked = e.asked; same = record { used = e.used; there = e.there; undrained = λ k. e.undrained k ∙ and-not-none _ _; blocked = e.blocked; listening = e.listening } }) p.continues.told p.settles

pub returns-else-quits-clause-within : goal.returns-else-quits-clause-within
returns-else-quits-clause-within g c = λ t.
    let e = rw c.in-Ok-Bytes.field-0-is at c.in-Ok-Bytes.ensures in
    let p = c.settle.ensures in
    let kept = p.settles.nothing.bytes t c.args.link.0 in
    let within = e.within.1 in
    let size = c.read.auto.into in
    let read = bytes-read c.args.link c.in-Ok-Bytes.count c.read.new.into (g.S.Sockets.seen c.args.sockets.now).taken (g.S.Sockets.seen c.read.new.self).taken (e.taken (p.continues.told t)) (omega arith) in
    omega arith

pub returns-else-quits-clause-contained : goal.returns-else-quits-clause-contained
returns-else-quits-clause-contained g c =
    let l = c.bytes_came.ensures in
    KeepsLinks-trans c.args.headless.now c.bytes_came.new.self _ (KeepsLinks-takes c.args.headless.now c.bytes_came.new.self _ l.takes.takes l.causes.rises) c.settle.ensures.settles.contained

pub returns-else-quits-clause-stands : goal.returns-else-quits-clause-stands
returns-else-quits-clause-stands g c =
    let l = c.bytes_came.ensures in
    let used = kept-used c.args.link.0 c.args.headless.now (g.S.Sockets.seen c.args.sockets.now) c.requires.agrees (ap is_some (c.in-Some.ensures.found (new_state c.args.link None false))) in
    let same = l.takes.takes.used in
    c.settle.ensures.settles.stands c.args.link.0 (omega arith) l.stands

pub returns-then-quits-clause-drained : goal.returns-then-quits-clause-drained
returns-then-quits-clause-drained g c = λ none s on. absurd (false≢true (sym on ∙ sym c.quits.ensures ∙ c.if-quits.true))

pub returns-else-quits-clause-bytes : goal.returns-else-quits-clause-bytes
returns-else-quits-clause-bytes g c = λ t.
    let e = rw c.in-Ok-Bytes.field-0-is at c.in-Ok-Bytes.ensures in
    let p = c.settle.ensures in
    let within = e.within.1 in
    let size = c.read.auto.into in
    p.settles.nothing.bytes t c.args.link.0
    ∙ bytes-read c.args.link c.in-Ok-Bytes.count c.read.new.into (g.S.Sockets.seen c.args.sockets.now).taken (g.S.Sockets.seen c.read.new.self).taken (e.taken (p.continues.told t)) (omega arith)

pub settle-requires-in-Ok-End-clause-agrees : goal.settle-requires-in-Ok-End-clause-agrees
settle-requires-in-Ok-End-clause-agrees g c =
    let e = rw c.in-Ok-End.field-0-is at c.in-Ok-End.ensures in
    let l = c.link_gone.ensures in
    let seen = g.S.Sockets.seen in
    let x = c.args.headless.now in
    let first = LoopStep-lost x c.link_gone.new.self c.args.link (Ended c.args.link) CauseEnded (seen c.args.sockets.now) (seen c.read.new.self)
    (record { call = record { told = e.told; taken = e.taken; asked = e.asked; counts = e.counts }; sent = e.sent; choked = e.choked; asked = e.asked; same = record { used = e.used; there = e.there; undrained = λ k. e.undrained k ∙ and-not-none _ _; blocked = e.blocked; listening = e.listening } }) refl refl c.requires.calm c.requires.going (l.ended refl) (λ taken. ended-of c.args.link.0) l.core (λ t. inl (record { front = []; rest = []; taken = e.taken t })) in
    first.agrees c.requires.agrees

pub returns-in-Ok-End-clause-continues : goal.returns-in-Ok-End-clause-continues
returns-in-Ok-End-clause-continues g c =
    let e = rw c.in-Ok-End.field-0-is at c.in-Ok-End.ensures in
    let l = c.link_gone.ensures in
    let seen = g.S.Sockets.seen in
    let x = c.args.headless.now in
    let first = LoopStep-lost x c.link_gone.new.self c.args.link (Ended c.args.link) CauseEnded (seen c.args.sockets.now) (seen c.read.new.self)
    (record { call = record { told = e.told; taken = e.taken; asked = e.asked; counts = e.counts }; sent = e.sent; choked = e.choked; asked = e.asked; same = record { used = e.used; there = e.there; undrained = λ k. e.undrained k ∙ and-not-none _ _; blocked = e.blocked; listening = e.listening } }) refl refl c.requires.calm c.requires.going (l.ended refl) (λ taken. ended-of c.args.link.0) l.core (λ t. inl (record { front = []; rest = []; taken = e.taken t })) in
    LoopStep-trans x c.link_gone.new.self _ (seen c.args.sockets.now) (seen c.read.new.self) _ first c.settle-in-Ok-End.ensures.continues

pub returns-in-Ok-End-clause-reads : goal.returns-in-Ok-End-clause-reads
returns-in-Ok-End-clause-reads g c =
    let e = rw c.in-Ok-End.field-0-is at c.in-Ok-End.ensures in
    let a = g.S.Sockets.seen c.args.sockets.now in
    let b = g.S.Sockets.seen c.read.new.self in
    let p = c.settle-in-Ok-End.ensures in
    ReadsOn-settles c.args.link.0 c.link_gone.new.self c.settle-in-Ok-End.new.headless a b _ p.continues.told
    (ReadsOn-call c.args.link.0 a b (Ended c.args.link ∷ []) (NothingBecameReady-same a b (λ k. e.undrained k ∙ and-not-none _ _) e.listening) e.taken (λ k n. refl) refl) p.settles

pub returns-in-Ok-End-clause-drained : goal.returns-in-Ok-End-clause-drained
returns-in-Ok-End-clause-drained g c = λ none s on.
    let e = rw c.in-Ok-End.field-0-is at c.in-Ok-End.ensures in
    let l = c.link_gone.ensures in
    let seen = g.S.Sockets.seen in
    let x = c.args.headless.now in
    let first = LoopStep-lost x c.link_gone.new.self c.args.link (Ended c.args.link) CauseEnded (seen c.args.sockets.now) (seen c.read.new.self)
    (record { call = record { told = e.told; taken = e.taken; asked = e.asked; counts = e.counts }; sent = e.sent; choked = e.choked; asked = e.asked; same = record { used = e.used; there = e.there; undrained = λ k. e.undrained k ∙ and-not-none _ _; blocked = e.blocked; listening = e.listening } }) refl refl c.requires.calm c.requires.going (l.ended refl) (λ taken. ended-of c.args.link.0) l.core (λ t. inl (record { front = []; rest = []; taken = e.taken t })) in
    let p = c.settle-in-Ok-End.ensures in
    settled-drained c.args.link.0 c.link_gone.new.self c.settle-in-Ok-End.new.headless (seen c.read.new.self) (seen c.settle-in-Ok-End.new.sockets) (p.continues.agrees (first.agrees s)) p.settles
    (lost-leaves c.args.link.0 CauseEnded x.core c.link_gone.new.self.core l.core (kept-party c.args.link.0 x (seen c.args.sockets.now) s (ap is_some (c.in-Some.ensures.found (new_state c.args.link None false)))))

pub returns-in-Ok-End-clause-within : goal.returns-in-Ok-End-clause-within
returns-in-Ok-End-clause-within g c =
    let e = rw c.in-Ok-End.field-0-is at c.in-Ok-End.ensures in
    let p = c.settle-in-Ok-End.ensures in
    bytes-kept c.args.link.0 _ (g.S.Sockets.seen c.args.sockets.now) (g.S.Sockets.seen c.read.new.self) _ (Ended c.args.link ∷ []) p.continues.told e.taken refl p.settles.nothing

pub returns-in-Ok-End-clause-contained : goal.returns-in-Ok-End-clause-contained
returns-in-Ok-End-clause-contained g c =
    let l = c.link_gone.ensures in
    KeepsLinks-trans c.args.headless.now c.link_gone.new.self _ (KeepsLinks-takes c.args.headless.now c.link_gone.new.self _ (l.ended refl) l.core.keeps.rises) c.settle-in-Ok-End.ensures.settles.contained

pub returns-in-Ok-End-clause-stands : goal.returns-in-Ok-End-clause-stands
returns-in-Ok-End-clause-stands g c =
    let l = c.link_gone.ensures in
    let x = c.args.headless.now in
    let used = kept-used c.args.link.0 x (g.S.Sockets.seen c.args.sockets.now) c.requires.agrees (ap is_some (c.in-Some.ensures.found (new_state c.args.link None false))) in
    let same = ap (λ (h : Headless). h.used) l.rest in
    c.settle-in-Ok-End.ensures.settles.stands c.args.link.0 (omega arith) (subst (λ (h : Headless). IsStanding c.args.link.0 h.links.opened.items) (sym l.rest) c.requires.stands)

pub settle-requires-in-Err-clause-agrees : goal.settle-requires-in-Err-clause-agrees
settle-requires-in-Err-clause-agrees g c =
    let e = c.in-Err.ensures in
    let l = c.link_gone-in-Err.ensures in
    let seen = g.S.Sockets.seen in
    let x = c.args.headless.now in
    let first = LoopStep-lost x c.link_gone-in-Err.new.self c.args.link (Failed c.args.link) CauseFailed (seen c.args.sockets.now) (seen c.read.new.self)
    (record { call = record { told = e.told; taken = e.taken; asked = e.asked; counts = e.counts }; sent = e.sent; choked = e.choked; asked = e.asked; same = record { used = e.used; there = e.there; undrained = λ k. e.undrained k ∙ and-not-none _ _; blocked = e.blocked; listening = e.listening } }) refl refl c.requires.calm c.requires.going (l.failed refl) (λ taken. failed-of c.args.link.0) l.core (e.failed, λ t. record { front = []; rest = []; taken = e.taken t }) in
    first.agrees c.requires.agrees

pub settle-requires-in-Err-clause-failed : goal.settle-requires-in-Err-clause-failed
settle-requires-in-Err-clause-failed g c = HasFailed-now c.args.link (g.S.Sockets.seen c.args.sockets.now) (g.S.Sockets.seen c.read.new.self) c.in-Err.ensures.taken

pub returns-in-Err-clause-continues : goal.returns-in-Err-clause-continues
returns-in-Err-clause-continues g c =
    let e = c.in-Err.ensures in
    let l = c.link_gone-in-Err.ensures in
    let seen = g.S.Sockets.seen in
    let x = c.args.headless.now in
    let first = LoopStep-lost x c.link_gone-in-Err.new.self c.args.link (Failed c.args.link) CauseFailed (seen c.args.sockets.now) (seen c.read.new.self)
    (record { call = record { told = e.told; taken = e.taken; asked = e.asked; counts = e.counts }; sent = e.sent; choked = e.choked; asked = e.asked; same = record { used = e.used; there = e.there; undrained = λ k. e.undrained k ∙ and-not-none _ _; blocked = e.blocked; listening = e.listening } }) refl refl c.requires.calm c.requires.going (l.failed refl) (λ taken. failed-of c.args.link.0) l.core (e.failed, λ t. record { front = []; rest = []; taken = e.taken t }) in
    LoopStep-trans x c.link_gone-in-Err.new.self _ (seen c.args.sockets.now) (seen c.read.new.self) _ first c.settle-in-Err.ensures.continues

pub returns-in-Err-clause-reads : goal.returns-in-Err-clause-reads
returns-in-Err-clause-reads g c =
    let e = c.in-Err.ensures in
    let a = g.S.Sockets.seen c.args.sockets.now in
    let b = g.S.Sockets.seen c.read.new.self in
    let p = c.settle-in-Err.ensures in
    ReadsOn-settles c.args.link.0 c.link_gone-in-Err.new.self c.settle-in-Err.new.headless a b _ p.continues.told
    (ReadsOn-call c.args.link.0 a b (Failed c.args.link ∷ []) (NothingBecameReady-same a b (λ k. e.undrained k ∙ and-not-none _ _) e.listening) e.taken (λ k n. refl) refl) p.settles

pub returns-in-Err-clause-drained : goal.returns-in-Err-clause-drained
returns-in-Err-clause-drained g c = λ none s on.
    let e = c.in-Err.ensures in
    let l = c.link_gone-in-Err.ensures in
    let seen = g.S.Sockets.seen in
    let x = c.args.headless.now in
    let first = LoopStep-lost x c.link_gone-in-Err.new.self c.args.link (Failed c.args.link) CauseFailed (seen c.args.sockets.now) (seen c.read.new.self)
    (record { call = record { told = e.told; taken = e.taken; asked = e.asked; counts = e.counts }; sent = e.sent; choked = e.choked; asked = e.asked; same = record { used = e.used; there = e.there; undrained = λ k. e.undrained k ∙ and-not-none _ _; blocked = e.blocked; listening = e.listening } }) refl refl c.requires.calm c.requires.going (l.failed refl) (λ taken. failed-of c.args.link.0) l.core (e.failed, λ t. record { front = []; rest = []; taken = e.taken t }) in
    let p = c.settle-in-Err.ensures in
    settled-drained c.args.link.0 c.link_gone-in-Err.new.self c.settle-in-Err.new.headless (seen c.read.new.self) (seen c.settle-in-Err.new.sockets) (p.continues.agrees (first.agrees s)) p.settles
    (lost-leaves c.args.link.0 CauseFailed x.core c.link_gone-in-Err.new.self.core l.core (kept-party c.args.link.0 x (seen c.args.sockets.now) s (ap is_some (c.in-Some.ensures.found (new_state c.args.link None false)))))

pub returns-in-Err-clause-within : goal.returns-in-Err-clause-within
returns-in-Err-clause-within g c =
    let e = c.in-Err.ensures in
    let p = c.settle-in-Err.ensures in
    bytes-kept c.args.link.0 _ (g.S.Sockets.seen c.args.sockets.now) (g.S.Sockets.seen c.read.new.self) _ (Failed c.args.link ∷ []) p.continues.told e.taken refl p.settles.nothing

pub returns-in-Err-clause-contained : goal.returns-in-Err-clause-contained
returns-in-Err-clause-contained g c =
    let l = c.link_gone-in-Err.ensures in
    KeepsLinks-trans c.args.headless.now c.link_gone-in-Err.new.self _ (KeepsLinks-takes c.args.headless.now c.link_gone-in-Err.new.self _ (l.failed refl) l.core.keeps.rises) c.settle-in-Err.ensures.settles.contained

pub returns-in-Err-clause-stands : goal.returns-in-Err-clause-stands
returns-in-Err-clause-stands g c =
    let l = c.link_gone-in-Err.ensures in
    let x = c.args.headless.now in
    let used = kept-used c.args.link.0 x (g.S.Sockets.seen c.args.sockets.now) c.requires.agrees (ap is_some (c.in-Some.ensures.found (new_state c.args.link None false))) in
    let same = ap (λ (h : Headless). h.used) l.rest in
    c.settle-in-Err.ensures.settles.stands c.args.link.0 (omega arith) (subst (λ (h : Headless). IsStanding c.args.link.0 h.links.opened.items) (sym l.rest) c.requires.stands)

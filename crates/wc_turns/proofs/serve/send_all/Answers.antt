use Rattle.std.proofs.Common.{inl, ◌∙◌, arith}
use Rattle.wc_turns.proofs.TurnLemmas.{LoopStep-trans}
use Rattle.wc_turns.proofs.ContainedLemmas.{KeepsLinks-refl, KeepsLinks-trans}
use Rattle.wc_turns.proofs.CloseLemmas.{LoopStep-refl}
use Rattle.wc_turns.proofs.SourceLemmas.{later-of, TakesNothing-refl, TakesNothing-trans}
use Rattle.wc_turns.proofs.ServeLemmas.{blocked-kept, sent-next, sent-rest}
use Rattle.wc_turns.proofs.serve.send_all.Goals as goal

pub loop-link-init : goal.loop-link-init
loop-link-init g c = record { continues = LoopStep-refl _ _; calm = c.requires.calm; contained = KeepsLinks-refl _; quits = c.requires.quit; sent = λ s k one low. absurd (omega arith); nothing = TakesNothing-refl _ }

pub send_link-requires : goal.send_link-requires
send_link-requires g c = record { missed = inl c.loop-link.invariant.quits }

pub loop-link-preserved : goal.loop-link-preserved
loop-link-preserved g c =
    let i = c.loop-link.invariant in
    let e = c.send_link.ensures in
    let seen = g.S.Sockets.seen in
    record {
      continues = LoopStep-trans c.args.headless.now c.loop-link.headless c.send_link.new.headless (seen c.args.sockets.now) (seen c.loop-link.sockets) (seen c.send_link.new.sockets) i.continues e.continues;
      calm = record { parted = e.leaving ∙ i.calm.parted; asked = e.sends.wanted ∙ i.calm.asked };
      contained = KeepsLinks-trans c.args.headless.now c.loop-link.headless c.send_link.new.headless i.contained e.contained;
      quits = e.quits ∙ i.quits;
      sent = λ s k one most. sent-next k c.loop-link.last c.in-Some.link.0 c.loop-link.headless c.send_link.new.headless (seen c.args.sockets.now) (seen c.loop-link.sockets) (seen c.send_link.new.sockets)
          (blocked-kept c.loop-link.headless k (seen c.loop-link.sockets) (i.continues.agrees s)) (later-of _ _ i.continues) (later-of _ _ e.continues) i.continues.counts e.continues.counts (i.sent s k one) (λ p q. c.in-Some.ensures.between k p q) (λ n. (e.unsent k n, e.others k n)) (e.done (e.continues.agrees (i.continues.agrees s))) most;
      nothing = TakesNothing-trans _ (seen c.loop-link.sockets) _ e.continues.told i.nothing e.nothing;
    }

pub returns-clause-sent : goal.returns-clause-sent
returns-clause-sent g c = λ s k one.
    let i = c.loop-link.invariant in
    let seen = g.S.Sockets.seen in
    sent-rest k c.loop-link.last c.loop-link.headless (seen c.args.sockets.now) (seen c.loop-link.sockets) (blocked-kept c.loop-link.headless k (seen c.loop-link.sockets) (i.continues.agrees s)) (i.sent s k one) (λ above. c.next_unsent.ensures.none c.in_default.is k above)

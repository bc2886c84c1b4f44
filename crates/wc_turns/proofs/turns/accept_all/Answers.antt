use Rattle.std.proofs.Common.{◌≡◌, Ok, refl, ap, ◌∙◌, arith}
use Rattle.wc_turns.specs.Parts.{came_of}
use Rattle.wc_turns.proofs.TurnLemmas.{LoopStep-following}
use Rattle.wc_turns.proofs.CloseLemmas.{LoopStep-refl}
use Rattle.wc_turns.proofs.ContainedLemmas.{KeepsLinks-refl, KeepsLinks-trans}
use Rattle.wc_turns.proofs.SourceLemmas.{NothingBecameReady-refl, NothingBecameReady-trans, IsHeard-drained}
use Rattle.wc_turns.proofs.turns.accept_all.Goals as goal

pub loop-init : goal.loop-init
loop-init g c = record { continues = LoopStep-refl _ _; calm = c.requires.calm; contained = λ s. KeepsLinks-refl _; going = c.requires.going; falls = NothingBecameReady-refl _; arrived = λ t. omega arith; bytes = λ t k. refl }

pub returns-in-Ok-false : goal.returns-in-Ok-false
returns-in-Ok-false g c =
    let i = c.loop.invariant in
    let e = c.in-Ok-false.ensures in
    let seen = g.S.Sockets.seen in
    let below = c.loop.auto.counter-end in
    record {
      continues = LoopStep-following c.args.headless.now c.loop.headless c.accept_once.new.headless (seen c.args.sockets.now) (seen c.loop.sockets) (seen c.accept_once.new.sockets) i.continues e.continues;
      calm = e.calm;
      contained = λ s. KeepsLinks-trans c.args.headless.now c.loop.headless c.accept_once.new.headless (i.contained s) (e.contained (i.continues.agrees s));
      going = e.going;
      falls = NothingBecameReady-trans _ (seen c.loop.sockets) _ i.falls e.falls;
      heard = IsHeard-drained (seen c.args.sockets.now) (seen c.accept_once.new.sockets) (e.drained (ap Ok c.in-Ok-false.field-0-test));
      failed = tt;
      within = λ t. (let before = i.arrived (e.continues.told t) in let now = e.arrived t in let none : came_of (Ok c.in-Ok-false.field-0) ≡ 0 = ap (λ b. came_of (Ok b)) c.in-Ok-false.field-0-test in omega arith);
      bytes = λ t k. e.bytes t k ∙ i.bytes (e.continues.told t) k;
    }

pub returns-in-Err : goal.returns-in-Err
returns-in-Err g c =
    let i = c.loop.invariant in
    let e = c.in-Err.ensures in
    let seen = g.S.Sockets.seen in
    let below = c.loop.auto.counter-end in
    record {
      continues = LoopStep-following c.args.headless.now c.loop.headless c.accept_once.new.headless (seen c.args.sockets.now) (seen c.loop.sockets) (seen c.accept_once.new.sockets) i.continues e.continues;
      calm = e.calm;
      contained = λ s. KeepsLinks-trans c.args.headless.now c.loop.headless c.accept_once.new.headless (i.contained s) (e.contained (i.continues.agrees s));
      going = e.going;
      falls = NothingBecameReady-trans _ (seen c.loop.sockets) _ i.falls e.falls;
      heard = tt;
      failed = (let rose = e.failed in let never = i.continues.counts.listens in omega arith);
      within = λ t. (let before = i.arrived (e.continues.told t) in let now = e.arrived t in omega arith);
      bytes = λ t k. e.bytes t k ∙ i.bytes (e.continues.told t) k;
    }

pub loop-preserved : goal.loop-preserved
loop-preserved g c =
    let i = c.loop.invariant in
    let e = c.in-Ok-true.ensures in
    let seen = g.S.Sockets.seen in
    record {
      continues = LoopStep-following c.args.headless.now c.loop.headless c.accept_once.new.headless (seen c.args.sockets.now) (seen c.loop.sockets) (seen c.accept_once.new.sockets) i.continues e.continues;
      calm = e.calm;
      contained = λ s. KeepsLinks-trans c.args.headless.now c.loop.headless c.accept_once.new.headless (i.contained s) (e.contained (i.continues.agrees s));
      going = e.going;
      falls = NothingBecameReady-trans _ (seen c.loop.sockets) _ i.falls e.falls;
      arrived = λ t. (let before = i.arrived (e.continues.told t) in let now = e.arrived t in let one : came_of (Ok c.in-Ok-true.field-0) ≡ 1 = ap (λ b. came_of (Ok b)) c.in-Ok-true.field-0-test in omega arith);
      bytes = λ t k. e.bytes t k ∙ i.bytes (e.continues.told t) k;
    }

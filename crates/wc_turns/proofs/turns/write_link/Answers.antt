use Rattle.wc_turns.proofs.turns.write_link.Goals as goal
use Rattle.wc_turns.specs.declared.turns.Wrote.TheVariants.{Some as WroteSome, All, Lost}
use Rattle.wc_turns.proofs.TurnLemmas.{LoopStep-trans}
use Rattle.wc_turns.proofs.ContainedLemmas.{KeepsLinks-trans}
use Rattle.wc_turns.proofs.GoneLemmas.{same-unsent}
use Rattle.wc_turns.proofs.PartLemmas.{KeepsLinks-sends, sends-count}
use Rattle.wc_turns.proofs.SendLemmas.{LoopStep-put, SendsOn-put, puts-put}
use Rattle.wc_turns.proofs.UnputLemmas.{LoopStep-frame, Unput-of}
use Rattle.wc_turns.proofs.SourceLemmas.{IsWritten-later, NothingBecameReady-trans, TakesNothing-trans}
use Rattle.std.proofs.Common.{◌≡◌, ◌∙◌, sym, refl, None, arith}
use Rattle.std.proofs.lemmas.Bool.{false≢true}

some-lost : WroteSome ≡ Lost → ⊥
some-lost q = cc

all-lost : All ≡ Lost → ⊥
all-lost q = cc

pub loop-init : goal.loop-init
loop-init g c =
    let x = c.args.headless.now in
    let mid = c.frame.new.self in
    let a = g.S.Sockets.seen c.args.sockets.now in
    let puts = c.if-not-frame.ensures in
    let sends = SendsOn-put c.args.link.0 x mid a None puts in
    let count = sends-count c.args.link.0 x mid a a sends in
    record {
      continues = LoopStep-put x mid a c.args.link.0 None puts;
      calm = record { parted = sends.leaving ∙ c.requires.calm.parted; asked = sends.wanted ∙ c.requires.calm.asked };
      contained = KeepsLinks-sends c.args.link.0 x mid a a sends;
      going = sends.quits ∙ c.requires.going;
      falls = sends.falls;
      others = λ k n h. IsWritten-later k x mid a a (record { frames = sends.frames k n; unsent = same-unsent k x.core mid.core (sends.parties k n) }) refl h;
      put = puts-put c.args.link.0 x mid c.requires.agrees.among.alone puts;
      parties = omega arith;
      nothing = sends.nothing;
    }

pub write_once-requires-clause-agrees : goal.write_once-requires-clause-agrees
write_once-requires-clause-agrees g c = c.loop.invariant.continues.agrees c.requires.agrees

pub loop-preserved : goal.loop-preserved
loop-preserved g c =
    let i = c.loop.invariant in
    let e = c.write_once.ensures in
    let seen = g.S.Sockets.seen in
    record {
      continues = LoopStep-trans c.args.headless.now c.loop.headless c.write_once.new.headless (seen c.args.sockets.now) (seen c.loop.sockets) (seen c.write_once.new.sockets) i.continues e.continues;
      calm = e.calm;
      contained = KeepsLinks-trans c.args.headless.now c.loop.headless c.write_once.new.headless i.contained e.contained;
      going = e.going;
      falls = NothingBecameReady-trans _ (seen c.loop.sockets) _ i.falls e.falls;
      others = λ k n h. e.others (λ q. some-lost (sym c.in-Some.is ∙ q)) k n (i.others k n h);
      put = e.put c.in-Some.is i.put;
      parties = (let p = i.parties in let q = e.parties in omega arith);
      nothing = TakesNothing-trans _ (seen c.loop.sockets) _ e.continues.told i.nothing e.nothing;
    }

pub returns-in-All : goal.returns-in-All
returns-in-All g c =
    let i = c.loop.invariant in
    let e = c.write_once.ensures in
    let seen = g.S.Sockets.seen in
    record {
      continues = LoopStep-trans c.args.headless.now c.loop.headless c.write_once.new.headless (seen c.args.sockets.now) (seen c.loop.sockets) (seen c.write_once.new.sockets) i.continues e.continues;
      calm = e.calm;
      contained = KeepsLinks-trans c.args.headless.now c.loop.headless c.write_once.new.headless i.contained e.contained;
      going = e.going;
      falls = NothingBecameReady-trans _ (seen c.loop.sockets) _ i.falls e.falls;
      done = λ q. e.done c.in-All.is i.put;
      others = λ q k n h. e.others (λ r. all-lost (sym c.in-All.is ∙ r)) k n (i.others k n h);
      parties = (let p = i.parties in let q = e.parties in omega arith);
      lost = λ q. absurd (false≢true q);
      nothing = TakesNothing-trans _ (seen c.loop.sockets) _ e.continues.told i.nothing e.nothing;
    }

pub returns-in-Lost : goal.returns-in-Lost
returns-in-Lost g c =
    let i = c.loop.invariant in
    let e = c.write_once.ensures in
    let seen = g.S.Sockets.seen in
    record {
      continues = LoopStep-trans c.args.headless.now c.loop.headless c.write_once.new.headless (seen c.args.sockets.now) (seen c.loop.sockets) (seen c.write_once.new.sockets) i.continues e.continues;
      calm = e.calm;
      contained = KeepsLinks-trans c.args.headless.now c.loop.headless c.write_once.new.headless i.contained e.contained;
      going = e.going;
      falls = NothingBecameReady-trans _ (seen c.loop.sockets) _ i.falls e.falls;
      done = λ q. absurd (false≢true (sym q));
      others = λ q. absurd (false≢true (sym q));
      parties = (let p = i.parties in let q = e.parties in omega arith);
      lost = λ q. (let p = i.parties in let r = e.lost c.in-Lost.is in omega arith);
      nothing = TakesNothing-trans _ (seen c.loop.sockets) _ e.continues.told i.nothing e.nothing;
    }

-- a message was refused, and its client is parted with
pub settle-requires : goal.settle-requires
settle-requires g c =
    let first = LoopStep-frame c.args.headless.now c.frame.new.self c.args.link (g.S.Sockets.seen c.args.sockets.now) c.requires.calm c.requires.going c.if-not-frame.ensures in
    record { agrees = first.agrees c.requires.agrees; failed = tt }

pub returns-then-not-frame : goal.returns-then-not-frame
returns-then-not-frame g c =
    let x = c.args.headless.now in
    let y = c.frame.new.self in
    let a = g.S.Sockets.seen c.args.sockets.now in
    let p = Unput-of x y c.args.link a c.if-not-frame.ensures in
    let e = c.settle.ensures in
    let few = e.settles.fewer in
    record {
      continues = LoopStep-trans x y c.settle.new.headless a a (g.S.Sockets.seen c.settle.new.sockets) (LoopStep-frame x y c.args.link a c.requires.calm c.requires.going c.if-not-frame.ensures) e.continues;
      calm = e.settles.calm;
      contained = KeepsLinks-trans x y c.settle.new.headless p.keeps e.settles.contained;
      going = e.settles.quits ∙ p.quits ∙ c.requires.going;
      falls = e.settles.falls;
      done = λ q. absurd (false≢true (sym q));
      others = λ q. absurd (false≢true (sym q));
      parties = (let n = p.count in omega arith);
      lost = λ q. (let n = p.count in let less = e.settles.lost c.args.link.0 p.has (e.settles.parted c.args.link.0 p.leaves) in omega arith);
      nothing = e.settles.nothing;
    }

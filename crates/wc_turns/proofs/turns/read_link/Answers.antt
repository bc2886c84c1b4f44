use Rattle.std.proofs.Common.{refl, ap, sym, ◌∙◌, ◌+◌, length, take, drop, arith}
use Rattle.std.proofs.lemmas.List.{length-append, length-take, take-append-drop}
use Rattle.wc_turns.proofs.TurnLemmas.{LoopStep-trans}
use Rattle.wc_turns.proofs.CloseLemmas.{LoopStep-refl}
use Rattle.wc_turns.proofs.SourceLemmas.{NothingBecameReady-trans, IsReadUp-drained}
use Rattle.wc_turns.proofs.ContainedLemmas.{KeepsLinks-refl, KeepsLinks-trans}
use Rattle.wc_turns.proofs.ReadLemmas.{ReadsOn-refl, ReadsOn-trans}
use Rattle.wc_turns.proofs.turns.read_link.Goals as goal

pub loop-left-init : goal.loop-left-init
loop-left-init g c = record { continues = LoopStep-refl _ _; calm = c.requires.calm; stands = c.requires.stands; contained = KeepsLinks-refl _; going = c.requires.going; reads = ReadsOn-refl _ _; size = refl; most = omega arith; bytes = λ t. omega arith }

pub loop-left-preserved : goal.loop-left-preserved
loop-left-preserved g c =
    let i = c.loop-left.invariant in
    let e = c.in-Some.ensures in
    let seen = g.S.Sockets.seen in
    record {
      continues = LoopStep-trans c.args.headless.now c.loop-left.headless c.read_once.new.headless (seen c.args.sockets.now) (seen c.loop-left.sockets) (seen c.read_once.new.sockets) i.continues e.continues;
      calm = e.calm;
      stands = e.stands;
      contained = KeepsLinks-trans c.args.headless.now c.loop-left.headless c.read_once.new.headless i.contained e.contained;
      going = e.going refl;
      reads = ReadsOn-trans c.args.link.0 (seen c.args.sockets.now) (seen c.loop-left.sockets) (seen c.read_once.new.sockets) e.continues.told i.reads e.reads;
      size =
          let room = c.min-room.result in
          let following = drop room c.loop-left.buffer in
          length-append c.read_once.new.buffer following ∙ ap (λ n. n + length following) c.read_once.auto.buffer ∙ sym (length-append (take room c.loop-left.buffer) following)
          ∙ ap length (take-append-drop room c.loop-left.buffer) ∙ i.size;
      most = (let most = i.most in omega arith);
      bytes = λ t. (let before = i.bytes (e.continues.told t) in let now = e.bytes t in let most = i.most in let few = e.count.1 in let size = length-take c.min-room.result c.loop-left.buffer in omega arith);
    }

pub returns-in-None : goal.returns-in-None
returns-in-None g c =
    let i = c.loop-left.invariant in
    let e = c.read_once.ensures in
    let seen = g.S.Sockets.seen in
    record {
      continues = LoopStep-trans c.args.headless.now c.loop-left.headless c.read_once.new.headless (seen c.args.sockets.now) (seen c.loop-left.sockets) (seen c.read_once.new.sockets) i.continues e.continues;
      calm = e.calm;
      contained = KeepsLinks-trans c.args.headless.now c.loop-left.headless c.read_once.new.headless i.contained e.contained;
      falls = NothingBecameReady-trans _ (seen c.loop-left.sockets) _ i.reads.falls e.reads.falls;
      served = λ agrees on. IsReadUp-drained c.args.link.0 (seen c.args.sockets.now) (seen c.read_once.new.sockets) (e.drained c.in-None.is (i.continues.agrees agrees) on);
      within = λ t. (let before = i.bytes (e.continues.told t) in let now = e.within t in let most = i.most in let size = length-take c.min-room.result c.loop-left.buffer in omega arith);
      others = λ t k n. e.reads.others t k n ∙ i.reads.others (e.continues.told t) k n;
      clients = λ t. e.reads.clients t ∙ i.reads.clients (e.continues.told t);
    }

pub read_once-requires-clause-agrees : goal.read_once-requires-clause-agrees
read_once-requires-clause-agrees g c = c.loop-left.invariant.continues.agrees c.requires.agrees

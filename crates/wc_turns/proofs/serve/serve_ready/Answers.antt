use Rattle.std.proofs.Common.{◌∙◌, sym, false, arith}
use Rattle.wc_turns.proofs.ContainedLemmas.{KeepsLinks-trans}
use Rattle.wc_turns.proofs.TurnLemmas.{LoopStep-trans}
use Rattle.wc_turns.proofs.GuestLemmas.{Reaches-of, IsServed-later, OneLogin-later, nothing-read}
use Rattle.wc_turns.proofs.SourceLemmas.{IsHeard-later, later-of}
use Rattle.wc_turns.proofs.ServeLemmas.{OnOk-by, OnErr-by, AllSent-following, Within-nothing}
use Rattle.wc_turns.proofs.serve.serve_ready.Goals as goal

pub returns-clause-continues : goal.returns-clause-continues
returns-clause-continues g c =
    let seen = g.S.Sockets.seen in
    LoopStep-trans c.args.headless.now c.serve_unless_quit-listened.new.headless c.write_unsent.new.headless (seen c.args.sockets.now) (seen c.serve_unless_quit-listened.new.sockets) (seen c.write_unsent.new.sockets) c.serve_unless_quit-listened.ensures.continues c.write_unsent.ensures.continues

pub returns-clause-served : goal.returns-clause-served
returns-clause-served g c =
    let s = c.serve_unless_quit-listened.ensures in
    let e = c.write_unsent.ensures in
    let before = g.S.Sockets.seen c.args.sockets.now in
    let between = g.S.Sockets.seen c.serve_unless_quit-listened.new.sockets in
    let after = g.S.Sockets.seen c.write_unsent.new.sockets in
    OnOk-by c.serve_unless_quit-listened.result _ (λ good agrees on. record {
      links = λ k one. IsServed-later k c.args.headless.now c.serve_unless_quit-listened.new.headless c.write_unsent.new.headless before between after (s.served agrees (sym e.quits ∙ on) k one) (e.falls on) (Reaches-of _ _ _ _ e.continues);
      listener = IsHeard-later before between after (s.heard good agrees (sym e.quits ∙ on)) (e.falls on) (later-of _ _ e.continues);
      written = e.written (s.continues.agrees agrees) on;
    })

pub returns-clause-sent : goal.returns-clause-sent
returns-clause-sent g c = λ agrees over.
    let seen = g.S.Sockets.seen in
    AllSent-following c.write_unsent.new.headless (seen c.args.sockets.now) (seen c.serve_unless_quit-listened.new.sockets) (seen c.write_unsent.new.sockets) (later-of _ _ c.serve_unless_quit-listened.ensures.continues) (later-of _ _ c.write_unsent.ensures.continues) c.serve_unless_quit-listened.ensures.continues.counts (c.write_unsent.ensures.sent (c.serve_unless_quit-listened.ensures.continues.agrees agrees) over)

pub returns-clause-contained : goal.returns-clause-contained
returns-clause-contained g c = λ agrees. KeepsLinks-trans c.args.headless.now c.serve_unless_quit-listened.new.headless c.write_unsent.new.headless (c.serve_unless_quit-listened.ensures.contained agrees) c.write_unsent.ensures.contained

pub returns-clause-within : goal.returns-clause-within
returns-clause-within g c =
    let seen = g.S.Sockets.seen in
    Within-nothing (seen c.args.sockets.now) (seen c.serve_unless_quit-listened.new.sockets) (seen c.write_unsent.new.sockets) (later-of _ _ c.write_unsent.ensures.continues) c.serve_unless_quit-listened.ensures.within c.write_unsent.ensures.nothing

pub returns-clause-failed : goal.returns-clause-failed
returns-clause-failed g c =
    let s = c.serve_unless_quit-listened.ensures in
    let e = c.write_unsent.ensures in
    OnErr-by c.serve_unless_quit-listened.result _ (λ bad. (let p = s.failed bad in let q = e.continues.counts.listens in omega arith))

pub returns-clause-once : goal.returns-clause-once
returns-clause-once g c =
    let e = c.write_unsent.ensures in
    let seen = g.S.Sockets.seen in
    OneLogin-later false c.args.headless.now c.serve_unless_quit-listened.new.headless c.write_unsent.new.headless (seen c.args.sockets.now) (seen c.serve_unless_quit-listened.new.sockets) (seen c.write_unsent.new.sockets) c.serve_unless_quit-listened.ensures.once
    (nothing-read _ _ e.nothing) (Reaches-of _ _ _ _ e.continues)

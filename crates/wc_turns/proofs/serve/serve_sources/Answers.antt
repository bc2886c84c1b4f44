use Rattle.std.proofs.Common.{◌≡◌, ◌∙◌, sym, false, true, arith}
use Rattle.std.proofs.lemmas.Bool.{false≢true}
use Rattle.wc_turns.proofs.ContainedLemmas.{KeepsLinks-trans}
use Rattle.wc_turns.proofs.TurnLemmas.{LoopStep-trans, LoopStep-following, LoopStep-good}
use Rattle.wc_turns.proofs.GuestLemmas.{Reaches-of, IsServed-later, rest-served, both-once, OneLogin-later}
use Rattle.wc_turns.proofs.SourceLemmas.{later-of}
use Rattle.wc_turns.proofs.ServeLemmas.{Within-named, Within-rest, Within-all, served-all, heard-all, ok-faults, heard-of, failed-of, is_ok-of, none-failed}
use Rattle.wc_turns.proofs.serve.serve_sources.Goals as goal

-- `/quit` was run at a source that is named
pub returns-then-quits : goal.returns-then-quits
returns-then-quits g c =
    let s = c.serve_tokens-listened.ensures.serves in
    let over : c.serve_tokens-listened.new.headless.core.quits ≡ true = sym c.quits.ensures ∙ c.if-quits.true in
    record {
      continues = s.continues;
      calm = s.calm;
      contained = s.contained;
      served = λ agrees on. absurd (false≢true (sym on ∙ over));
      heard = λ good agrees on. absurd (false≢true (sym on ∙ over));
      failed = λ bad. (s.failed bad).0;
      within = Within-named _ _ _ _ _ _ s;
      once = record { by = c.serve_tokens-listened.result.decided; guests = c.serve_tokens-listened.ensures.once };
    }

-- the listener failed
pub returns-then-is_err : goal.returns-then-is_err
returns-then-is_err g c =
    let tokens = c.serve_tokens-listened in
    let s = tokens.ensures.serves in
    let e = c.read_rest.ensures in
    let before = g.S.Sockets.seen c.args.sockets.now in
    let between = g.S.Sockets.seen tokens.new.sockets in
    let after = g.S.Sockets.seen c.read_rest.new.sockets in
    let going : tokens.new.headless.core.quits ≡ false = sym c.quits.ensures ∙ c.if-quits.false in
    let bad = sym c.is_err.ensures.value ∙ c.if-is_err.true in
    record {
      continues = LoopStep-trans c.args.headless.now tokens.new.headless c.read_rest.new.headless before between after s.continues e.continues;
      calm = e.calm;
      contained = λ agrees. KeepsLinks-trans c.args.headless.now tokens.new.headless c.read_rest.new.headless (s.contained agrees) e.contained;
      served = λ agrees on k one. served-all c.args.tokens.now k c.args.headless.now tokens.new.headless c.read_rest.new.headless before between after (Reaches-of _ _ _ _ e.continues) e.falls (s.served agrees going k)
          (λ out. rest-served k c.args.headless.now tokens.new.headless c.read_rest.new.headless before between after tokens.result.decided (Reaches-of _ _ _ _ s.continues) (Reaches-of _ _ _ _ e.continues) tokens.ensures.decides (e.served (s.continues.agrees agrees) on k one out));
      heard = λ good. absurd (none-failed tokens.result.listened bad good);
      failed = λ worse. (let p = (s.failed worse).0 in let q = e.continues.counts.listens in omega arith);
      within = Within-rest c.args.tokens.now _ _ _ before between after s (later-of _ _ e.continues) e.most e.named e.clients;
      once = both-once c.args.headless.now tokens.new.headless c.read_rest.new.headless before between after tokens.result.decided tokens.ensures.once e.once;
    }

-- `/quit` was run at a source that is not named
pub returns-then-quits-2 : goal.returns-then-quits-2
returns-then-quits-2 g c =
    let tokens = c.serve_tokens-listened in
    let s = tokens.ensures.serves in
    let e = c.read_rest.ensures in
    let before = g.S.Sockets.seen c.args.sockets.now in
    let between = g.S.Sockets.seen tokens.new.sockets in
    let after = g.S.Sockets.seen c.read_rest.new.sockets in
    let over : c.read_rest.new.headless.core.quits ≡ true = sym c.quits-2.ensures ∙ c.if-quits-2.true in
    record {
      continues = LoopStep-trans c.args.headless.now tokens.new.headless c.read_rest.new.headless before between after s.continues e.continues;
      calm = e.calm;
      contained = λ agrees. KeepsLinks-trans c.args.headless.now tokens.new.headless c.read_rest.new.headless (s.contained agrees) e.contained;
      served = λ agrees on. absurd (false≢true (sym on ∙ over));
      heard = λ good agrees on. absurd (false≢true (sym on ∙ over));
      failed = λ bad. (let p = (s.failed bad).0 in let q = e.continues.counts.listens in omega arith);
      within = Within-rest c.args.tokens.now _ _ _ before between after s (later-of _ _ e.continues) e.most e.named e.clients;
      once = both-once c.args.headless.now tokens.new.headless c.read_rest.new.headless before between after tokens.result.decided tokens.ensures.once e.once;
    }

pub returns : goal.returns
returns g c =
    let tokens = c.serve_tokens-listened in
    let s = tokens.ensures.serves in
    let e = c.read_rest.ensures in
    let l = c.accept_rest.ensures in
    let x = c.args.headless.now in
    let y = c.read_rest.new.headless in
    let before = g.S.Sockets.seen c.args.sockets.now in
    let between = g.S.Sockets.seen tokens.new.sockets in
    let after = g.S.Sockets.seen c.read_rest.new.sockets in
    let last = g.S.Sockets.seen c.accept_rest.new.sockets in
    let good = sym c.is_err.ensures.value ∙ c.if-is_err.false in
    let none = ok-faults tokens.result.listened good in
    let going : tokens.new.headless.core.quits ≡ false = sym c.quits.ensures ∙ c.if-quits.false in
    let goes : y.core.quits ≡ false = sym c.quits-2.ensures ∙ c.if-quits-2.false in
    let first = LoopStep-trans x tokens.new.headless y before between after (LoopStep-good tokens.result.listened x tokens.new.headless before between (is_ok-of tokens.result.listened good) s.continues) e.continues in
    record {
      continues = LoopStep-following x y c.accept_rest.new.headless before after last first l.continues;
      calm = l.calm;
      contained = λ agrees. KeepsLinks-trans x y c.accept_rest.new.headless (KeepsLinks-trans x tokens.new.headless y (s.contained agrees) e.contained) (l.contained (first.agrees agrees));
      served = λ agrees on k one. IsServed-later k x y c.accept_rest.new.headless before after last
          (
          served-all c.args.tokens.now k x tokens.new.headless y before between after (Reaches-of _ _ _ _ e.continues) e.falls (s.served agrees going k)
          (λ out. rest-served k x tokens.new.headless y before between after tokens.result.decided (Reaches-of _ _ _ _ s.continues) (Reaches-of _ _ _ _ e.continues) tokens.ensures.decides (e.served (s.continues.agrees agrees) goes k one out))
          )
          l.falls (Reaches-of _ _ _ _ l.continues);
      heard = λ heard agrees on. heard-all c.args.tokens.now before between after last (later-of _ _ s.continues) (later-of _ _ e.continues) (later-of _ _ l.continues) e.falls l.falls
          (s.heard none going) (heard-of c.accept_rest.result _ heard l.heard (first.agrees agrees)) (later-of _ _ first);
      failed = λ bad. (let p = failed-of c.accept_rest.result _ bad l.failed in let q = first.counts.listens in omega arith);
      within = Within-all c.args.tokens.now _ _ _ before between after last s (later-of _ _ e.continues) (later-of _ _ l.continues) (Within-rest c.args.tokens.now _ _ _ before between after s (later-of _ _ e.continues) e.most e.named e.clients) e.clients l.bytes l.clients l.named;
      once = OneLogin-later false x y c.accept_rest.new.headless before after last (both-once x tokens.new.headless y before between after tokens.result.decided tokens.ensures.once e.once) (record { bytes = l.bytes }) (Reaches-of _ _ _ _ l.continues);
    }

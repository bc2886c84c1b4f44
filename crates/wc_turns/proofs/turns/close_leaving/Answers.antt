use Rattle.wc_turns.proofs.turns.close_leaving.Goals as goal
use Rattle.std.proofs.Common.{refl, sym, ap, ◌∙◌, not, eqb, []}
use Rattle.std.proofs.lemmas.List.{append-nil}
use Rattle.wc_turns.proofs.TurnLemmas.{LoopStep-trans}
use Rattle.wc_turns.proofs.CloseLemmas.{LoopStep-close}
use Rattle.wc_turns.proofs.ContainedLemmas.{KeepsLinks-close}
use Rattle.wc_turns.proofs.SourceLemmas.{NothingBecameReady-drained, TakesNothing-call, kept-other}
use Rattle.wc_turns.proofs.PartLemmas.{ClosesLeaving-first, fewer-parted}
use Rattle.wc_turns.proofs.ForgetLemmas.{departure-same}
use Rattle.wc_core.specs.CoreView.{CoreView}

pub returns : goal.returns
returns g c =
    let s = c.flush_leaving.ensures in
    let e = c.close.ensures in
    let d = c.args.departure in
    let x = c.args.headless.now in
    let y = c.flush_leaving.new.headless in
    let a = g.S.Sockets.seen c.args.sockets.now in
    let b = g.S.Sockets.seen c.flush_leaving.new.sockets in
    let last = g.S.Sockets.seen c.close.new.self in
    let first = departure-same x.core y.core d s.sends.leaving c.requires.first in
    let whole = LoopStep-trans x y _ a b last s.continues
    (LoopStep-close y _ d b last first
    (record { core = c.forget.ensures; clock = refl; used = refl; listening = refl; turns = refl; ran = refl; refused = refl; unlisted = refl; opened = c.close-2.ensures.opened; closed = c.close-2.ensures.closed })
    (s.sends.wanted ∙ c.requires.asked)
    (record { told = e.told; taken = λ t. e.taken t ∙ sym (append-nil _); asked = e.asked; counts = e.counts })
    e.sent e.choked e.asked e.used e.there e.undrained e.listening e.blocked s.done) in
    record {
      continues = whole;
      parts = ClosesLeaving-first x y _ a b last d c.requires.first e.told s.sends c.forget.ensures c.close-2.ensures.opened (KeepsLinks-close y _ d.link d.cause refl (ap (λ (o : CoreView). o.starved) c.forget.ensures) c.close-2.ensures.opened c.close-2.ensures.closed)
          (NothingBecameReady-drained b last (λ k. not (eqb k d.link.0)) e.undrained e.listening) (TakesNothing-call b last [] (λ t. e.taken t ∙ sym (append-nil _)) (λ k. refl) refl) (λ k n. e.blocked k ∙ kept-other k d.link.0 _ n);
      fewer = fewer-parted x y (record y { core = c.forget.new.self }) a b d c.requires.first s.sends c.forget.ensures;
    }

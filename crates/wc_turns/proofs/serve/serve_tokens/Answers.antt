use Rattle.std.proofs.Common.{◌≡◌, ◌+◌, inr, sym, ◌∙◌, false, take, subst, arith}
use Rattle.std.proofs.lemmas.Bool.{false≢true}
use Rattle.std.proofs.lemmas.List.{take_all}
use Rattle.wc_outside.specs.declared.sockets.Token.TheVariants.{Listener}
use Rattle.wc_turns.specs.Sources.{ServesNamed}
use Rattle.wc_turns.specs.Sources.ReadsGuests.{ends}
use Rattle.wc_turns.specs.Turns.{faults_of}
use Rattle.wc_turns.proofs.GuestLemmas.{Reaches-of, HasDecided-later, HasDecided-next, served-plain, ServedAfter-next, guests-later, ReadsGuests-append}
use Rattle.wc_turns.proofs.ServeLemmas.{IsMore, more-at, Named-none, Named-listener-again, Named-link-again, Named-link, Named-listener, Named-quits, any-take}
use Rattle.wc_turns.proofs.serve.serve_tokens.Goals as goal
use Rattle.wc_turns.proofs.serve.serve_tokens.Goals.{in-Listener+then-not-is_listener_named, in-Listener+else-not-is_listener_named, in-Link+then-not-is_named, in-Link+else-not-is_named}

pub loop-place-init : goal.loop-place-init
loop-place-init g c = record { serves = Named-none _ _ c.requires.calm; decides = λ e. absurd (false≢true e); once = ends }

pub returns-then-quits : goal.returns-then-quits
returns-then-quits g c = record {
  serves = Named-quits _ _ _ _ _ _ _ (λ p. any-take p c.loop-place.place c.args.tokens.now) (sym c.quits.ensures ∙ c.if-quits.true) c.loop-place.invariant.serves;
  decides = c.loop-place.invariant.decides;
  once = c.loop-place.invariant.once;
}

pub loop-place-preserved : goal.loop-place-preserved
loop-place-preserved g c =
    let i = c.loop-place.invariant in
    let seen = g.S.Sockets.seen in
    let x = c.args.headless.now in
    let y = c.loop-place.headless in
    let a = seen c.args.sockets.now in
    let b = seen c.loop-place.sockets in
    let front = take c.loop-place.place c.args.tokens.now in
    let all = take (c.loop-place.place + 1) c.args.tokens.now in
    let more = more-at c.args.tokens.now c.loop-place.place Listener c.loop-place-test.true in
    let on : y.core.quits ≡ false = sym c.quits.ensures ∙ c.if-quits.false in
    elim c.match-tokens-place.branch [
      | in-Listener+then-not-is_listener_named w ↦ rw (w.headless-is, w.sockets-is, w.listened-is, w.decided-is) (
          let e = w.accept_all-listened.ensures in
          let z = w.accept_all-listened.new.headless in
          let d = seen w.accept_all-listened.new.sockets in
          record {
            serves = Named-listener w.accept_all-listened.result front all _ x y z a b d
                (subst (IsMore front all) w.in-Listener.is more) (sym w.is_listener_named.ensures ∙ w.if-not-is_listener_named.true) on i.serves e.continues e.calm e.falls e.contained e.heard e.failed e.within e.bytes;
            decides = λ now. HasDecided-later x y z a b d (i.decides now) (Reaches-of y z b d e.continues);
            once = guests-later false c.loop-place.decided x y z a b d i.once (record { bytes = e.bytes }) (Reaches-of y z b d e.continues);
          })
      | in-Listener+else-not-is_listener_named w ↦ rw (w.headless-is, w.sockets-is, w.listened-is, w.decided-is) (record {
        serves = Named-listener-again front all _ x y a b (subst (IsMore front all) w.in-Listener.is more) (sym w.is_listener_named.ensures ∙ w.if-not-is_listener_named.false) i.serves;
        decides = i.decides;
        once = i.once;
      })
      | in-Link+then-not-is_named w ↦ rw (w.headless-is, w.sockets-is, w.listened-is, w.decided-is) (
          let e = w.serve_in_turn-decided.ensures in
          let z = w.serve_in_turn-decided.new.headless in
          let d = seen w.serve_in_turn-decided.new.sockets in
          let first = Reaches-of x y a b i.serves.continues in
          let next = Reaches-of y z b d e.continues in
          record {
            serves = Named-link front all w.in-Link.link _ x y z a b d
                (subst (IsMore front all) w.in-Link.is more) (sym w.is_named.ensures ∙ w.if-not-is_named.true) on i.serves e.continues e.calm e.falls e.contained
                (λ s q. served-plain w.in-Link.link.0 x z a d (ServedAfter-next false c.loop-place.decided w.in-Link.link.0 x y z a b d first next (λ now. inr (i.decides now)) (e.served q)))
                (record { within = e.within; others = e.others; clients = e.clients });
            decides = λ now. HasDecided-next c.loop-place.decided w.in-Link.link.0 x y z a b d first next i.decides (e.decides now);
            once = ReadsGuests-append i.once e.once;
          })
      | in-Link+else-not-is_named w ↦ rw (w.headless-is, w.sockets-is, w.listened-is, w.decided-is) (record {
        serves = Named-link-again front all w.in-Link.link _ x y a b (subst (IsMore front all) w.in-Link.is more) (sym w.is_named.ensures ∙ w.if-not-is_named.false) i.serves;
        decides = i.decides;
        once = i.once;
      })
    ]

pub returns : goal.returns
returns g c = record {
  serves = subst (λ ts. ServesNamed ts (faults_of c.loop-place.listened) c.args.headless.now c.loop-place.headless (g.S.Sockets.seen c.args.sockets.now) (g.S.Sockets.seen c.loop-place.sockets)) (take_all c.loop-place.place c.args.tokens.now (omega arith)) c.loop-place.invariant.serves;
  decides = c.loop-place.invariant.decides;
  once = c.loop-place.invariant.once;
}

pub serve_in_turn-decided-requires : goal.serve_in_turn-decided-requires
serve_in_turn-decided-requires g c = record { agrees = c.loop-place.invariant.serves.continues.agrees c.requires.agrees; calm = c.loop-place.invariant.serves.calm; going = sym c.quits.ensures ∙ c.if-quits.false }

pub accept_all-listened-requires : goal.accept_all-listened-requires
accept_all-listened-requires g c = record { agrees = c.loop-place.invariant.serves.continues.agrees c.requires.agrees; calm = c.loop-place.invariant.serves.calm; going = sym c.quits.ensures ∙ c.if-quits.false }

use Rattle.std.proofs.Common.{◌≡◌, ◌∙◌, inl, sym, false, arith}
use Rattle.std.specs.List.{list_any}
use Rattle.std.proofs.lemmas.Bool.{false≢true}
use Rattle.wc_outside.specs.Happenings.{is_link}
use Rattle.wc_turns.proofs.TurnLemmas.{LoopStep-trans}
use Rattle.wc_turns.proofs.ContainedLemmas.{KeepsLinks-refl, KeepsLinks-trans}
use Rattle.wc_turns.proofs.CloseLemmas.{LoopStep-refl}
use Rattle.wc_turns.proofs.SourceLemmas.{NothingBecameReady-refl, NothingBecameReady-trans, later-of}
use Rattle.wc_turns.proofs.ServeLemmas.{served-next, served-rest, not-left-over, ReadsTo-first, ReadsTo-next}
use Rattle.wc_turns.proofs.GuestLemmas.{Reaches-of, decided-next, ReadsGuests-append}
use Rattle.wc_turns.specs.Sources.ReadsGuests.{ends}
use Rattle.wc_turns.proofs.serve.read_rest.Goals as goal

pub loop-link-init : goal.loop-link-init
loop-link-init g c = record { continues = LoopStep-refl _ _; calm = c.requires.calm; contained = KeepsLinks-refl _; falls = NothingBecameReady-refl _; served = λ agrees on k one low. absurd (omega arith); decides = inl; once = ends; reads = ReadsTo-first _ _ }

pub returns-then-quits-clause-served : goal.returns-then-quits-clause-served
returns-then-quits-clause-served g c = λ agrees on. absurd (false≢true (sym on ∙ sym c.quits.ensures ∙ c.if-quits.true))

pub loop-link-preserved : goal.loop-link-preserved
loop-link-preserved g c =
    let i = c.loop-link.invariant in
    let e = c.serve_in_turn-decided.ensures in
    let seen = g.S.Sockets.seen in
    let tokens = c.args.tokens.now in
    let on : c.loop-link.headless.core.quits ≡ false = sym c.quits.ensures ∙ c.if-quits.false in
    record {
      continues = LoopStep-trans c.args.headless.now c.loop-link.headless c.serve_in_turn-decided.new.headless (seen c.args.sockets.now) (seen c.loop-link.sockets) (seen c.serve_in_turn-decided.new.sockets) i.continues e.continues;
      calm = e.calm;
      contained = KeepsLinks-trans c.args.headless.now c.loop-link.headless c.serve_in_turn-decided.new.headless i.contained e.contained;
      falls = NothingBecameReady-trans _ (seen c.loop-link.sockets) _ i.falls e.falls;
      served = λ agrees on' k one most out.
          let now = i.continues.agrees agrees in
          served-next c.args.decided c.loop-link.decided k c.loop-link.last c.in-Some.link.0 c.args.headless.now c.loop-link.headless c.serve_in_turn-decided.new.headless (seen c.args.sockets.now) (seen c.loop-link.sockets) (seen c.serve_in_turn-decided.new.sockets)
          (Reaches-of _ _ _ _ i.continues) (Reaches-of _ _ _ _ e.continues) e.falls i.decides
          (λ low. i.served agrees on k one low out)
          (λ p q. now.among.undrained k ∙ not-left-over tokens k c.loop-link.headless.links.opened.items (rw c.links.ensures at (c.in-Some.ensures.between k p q)) out)
          (e.served on') most;
      decides = λ now. decided-next c.args.decided c.loop-link.decided c.in-Some.link.0 c.args.headless.now c.loop-link.headless c.serve_in_turn-decided.new.headless (seen c.args.sockets.now) (seen c.loop-link.sockets) (seen c.serve_in_turn-decided.new.sockets)
          (Reaches-of _ _ _ _ i.continues) (Reaches-of _ _ _ _ e.continues) i.decides (e.decides now);
      once = ReadsGuests-append i.once e.once;
      reads = ReadsTo-next (λ link. list_any (is_link link) tokens) c.loop-link.last c.in-Some.link.0 (seen c.args.sockets.now) (seen c.loop-link.sockets) (seen c.serve_in_turn-decided.new.sockets) c.in-Some.ensures.above c.in-Some.ensures.unnamed (later-of _ _ e.continues) i.reads
          (record { within = e.within; others = e.others; clients = e.clients });
    }

pub returns-clause-served : goal.returns-clause-served
returns-clause-served g c = λ agrees on k one out.
    let i = c.loop-link.invariant in
    let seen = g.S.Sockets.seen in
    let tokens = c.args.tokens.now in
    let now = i.continues.agrees agrees in
    served-rest c.args.decided k c.loop-link.last c.args.headless.now c.loop-link.headless (seen c.args.sockets.now) (seen c.loop-link.sockets) (λ low. i.served agrees on k one low out)
    (λ above. now.among.undrained k ∙ not-left-over tokens k c.loop-link.headless.links.opened.items (rw c.links.ensures at (c.next_undrained.ensures.none c.in_default.is k above)) out)

pub serve_in_turn-decided-requires : goal.serve_in_turn-decided-requires
serve_in_turn-decided-requires g c = record { agrees = c.loop-link.invariant.continues.agrees c.requires.agrees; calm = c.loop-link.invariant.calm; going = sym c.quits.ensures ∙ c.if-quits.false }

pub returns-then-quits-clause-once : goal.returns-then-quits-clause-once
returns-then-quits-clause-once g c = record { by = c.loop-link.decided; guests = c.loop-link.invariant.once }

pub returns-clause-once : goal.returns-clause-once
returns-clause-once g c = record { by = c.loop-link.decided; guests = c.loop-link.invariant.once }

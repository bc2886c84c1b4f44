-- What was saved is written at the end of a turn.
use Rattle.std.proofs.Common.{◌≡◌, ◌≢◌, ◌≤◌, ℕ, inl, inr, Bool, false, List, Option, Some, None, IsSome, refl, sym, ap, ◌∙◌, subst, arith}
use Rattle.std.proofs.lemmas.Bool.{false≢true}
use Rattle.wc_outside.specs.Seen.{Seen}
use Rattle.wc_core.specs.CoreView.{CoreView}
use Rattle.wc_core.specs.Served.{KeepsSaved, unwritten_of}
use Rattle.wc_turns.specs.Heard.{Heard}
use Rattle.wc_turns.specs.declared.headless.Headless.{Headless}
use Rattle.wc_turns.specs.declared.links.Closed.{Closed}
use Rattle.wc_turns.specs.declared.turn.TurnEnd.{TurnEnd}
use Rattle.wc_turns.specs.declared.turn.TurnEnd.TheVariants.{GoOn, Quit, WaitFault, ListenFault, KeeperFault}
use Rattle.wc_turns.specs.Saves.{held_by, WritesText, SavesTurn, written_state}
use Rattle.wc_turns.specs.Sources.{IsWritten, IsServed, OneLogin, Reaches}
use Rattle.wc_turns.specs.Turns.{AgreesWithSockets, LoopStep, CoreTakes, ClosesExactly, FaultsIn, moment, waits_then, faults_then}
use Rattle.wc_turns.specs.Waits.{LosesNone}
use Rattle.wc_turns.proofs.TurnLemmas.{LoopStep-as, LoopStep-wider}
use Rattle.wc_turns.proofs.CloseLemmas.{LoopStep-refl}
use Rattle.wc_turns.proofs.GuestLemmas.{Reaches-trans, OneLogin-later}
use Rattle.wc_turns.proofs.GoesLemmas.{Goes-then, Goes-kept}

-- ---- nothing else changes as it is written

pub agrees-written : (h : Headless) (seen : Seen) → AgreesWithSockets h seen → AgreesWithSockets (written_state h) seen
agrees-written h seen s =
    let a = s.among in
    record {
      among = record {
        counted = a.counted;
        there = a.there;
        undrained = a.undrained;
        blocked = a.blocked;
        listens = a.listens;
        parties = a.parties;
        ended = a.ended;
        alone = a.alone;
        once = a.once;
        seats = a.seats;
        order = a.order;
        apart = a.apart;
        unknown = a.unknown;
        clients = a.clients;
        unrefused = a.unrefused;
        spared = a.spared;
        next = a.next;
        reached = a.reached;
        limited = a.limited;
      };
      history = s.history;
      spells = s.spells;
      told = s.told;
      hears = s.hears;
      sockets = s.sockets;
      idle = s.idle;
    }

takes-written : (x h : Headless) (a b : Seen) (ran ran' : ℕ) (past : List Heard) (closed : List Closed) (more : List Heard) → CoreTakes past (moment x a) (moment h b) ran ran' closed more → CoreTakes past (moment x a) (moment (written_state h) b) ran ran' closed more
takes-written x h a b ran ran' past closed more c = record {
  events = c.events;
  reaches = c.reaches;
  rises = c.rises;
  verdicts = c.verdicts;
  goes = Goes-then c.events x.core h.core (written_state h).core c.goes (Goes-kept h.core (written_state h).core (record { state = λ told. refl; nobody = λ k e. e; pending = refl; starved = refl; quits = refl }));
  advances = λ same below told were agrees.
      let m = c.advances same below told were agrees in
      record { means = record { same = m.means.same; told = m.means.told }; oracle = m.oracle; stops = m.stops; hands = m.hands; sides = record { clients = m.sides.clients; servers = m.sides.servers }; asks = m.asks; closes = m.closes; quits = m.quits };
  silent = c.silent;
  ends = c.ends;
  last = c.last;
}

pub step-written : {n f : ℕ} (x h : Headless) (a b : Seen) → LoopStep false n f x h a b → LoopStep false n f x (written_state h) a b
unfolding agrees-written
step-written x h a b s = LoopStep-as x h (written_state h) a b refl refl refl refl (λ over. over) (λ s. (agrees-written h b s, refl)) (λ past closed more. takes-written x h a b x.ran h.ran past closed more) s

pub closes-written : (x h : Headless) (a b : Seen) → ClosesExactly x h a b → ClosesExactly x (written_state h) a b
closes-written x h a b c = record { history = c.history; spells = c.spells; heard = c.heard; taken = c.taken; ends = c.ends; events = c.events; reaches = c.reaches; closed = c.closed }

pub loses-written : (x h : Headless) → LosesNone x h → LosesNone x (written_state h)
loses-written x h l = record { opened = l.opened; came = l.came }

pub sent-written : (link : ℕ) (h : Headless) (seen : Seen) → IsWritten link h seen → IsWritten link (written_state h) seen
sent-written link h seen (inl clear) = inl (record { left = clear.left; put = clear.put })
sent-written link h seen (inr blocked) = inr blocked

-- what is written is no more than that, so the loop goes on to it
reaches-written : (h : Headless) (a : Seen) → Reaches h (written_state h) a a
reaches-written h a = record { waits = 0; faults = 0; step = step-written h h a a (LoopStep-wider h h a a (LoopStep-refl h a)) }

pub served-written : (link : ℕ) (x h : Headless) (a b : Seen) → IsServed link x h a b → IsServed link x (written_state h) a b
served-written link x h a b (inl read) = inl read
served-written link x h a b (inr w) = inr (record { mid = w.mid; seen = w.seen; decided = w.decided; guest = w.guest; last = Reaches-trans w.mid h (written_state h) w.seen b b w.last (reaches-written h b) })

pub once-written : (d : Bool) (x h : Headless) (a b : Seen) → OneLogin d x h a b → OneLogin d x (written_state h) a b
once-written d x h a b once = OneLogin-later d x h (written_state h) a b b once (record { bytes = λ t link. refl }) (reaches-written h b)

-- ---- the turn

pub fits-then : (end : TurnEnd) → FaultsIn end (faults_then end)
fits-then GoOn = refl
fits-then Quit = refl
fits-then WaitFault = refl
fits-then ListenFault = refl
fits-then KeeperFault = omega arith

-- the listener fails once at most
pub faults-most : (end : TurnEnd) → faults_then end ≤ 1
faults-most GoOn = omega arith
faults-most Quit = omega arith
faults-most WaitFault = omega arith
faults-most ListenFault = omega arith
faults-most KeeperFault = omega arith

-- a turn in which the keeper failed began
pub woke-once : (end : TurnEnd) → end ≢ WaitFault → waits_then end ≡ 1
woke-once GoOn woken = refl
woke-once Quit woken = refl
woke-once WaitFault woken = absurd (woken refl)
woke-once ListenFault woken = refl
woke-once KeeperFault woken = refl

pub saves-turn : (old mid : CoreView) (before after : Option (List ℕ)) → old.unwritten ≡ false → KeepsSaved old mid → WritesText (unwritten_of mid) before after → SavesTurn old mid before after
saves-turn old mid before after none (inl same) writes first had some =
    let e : unwritten_of mid ≡ None = rw (same.0 ∙ none) refl in
    let stays : after ≡ before = subst (λ o. WritesText o before after) e writes in
    stays ∙ had (subst IsSome stays some) ∙ ap (λ o. held_by o first) (sym same.1)
saves-turn old mid before after none (inr (on, text)) writes first had some = by mid.saved refl text where
  whole : unwritten_of mid ≡ mid.saved
  whole = rw on refl

  by : (o : Option (List ℕ)) → mid.saved ≡ o → IsSome o → after ≡ held_by mid.saved first
  by None e h = absurd (false≢true h)
  by (Some t) e h = (subst (λ o. WritesText o before after) (whole ∙ e) writes) some ∙ ap (λ o. held_by o first) (sym e)

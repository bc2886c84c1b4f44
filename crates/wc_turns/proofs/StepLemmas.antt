-- The steps of a loop.
use Rattle.std.proofs.Common.{◌≡◌, ℕ, ◌+◌, ◌-◌, ◌^◌, min, Bool, true, false, ◌||◌, IsTrue, List, [], ◌∷◌, ◌++◌, length, map, Option, Some, None, IsSome, is_some, is_none, inl, refl, sym, ap, ◌∙◌, subst, arith}
use Rattle.std.proofs.lemmas.Bool.{false≢true}
use Rattle.std.proofs.lemmas.List.{append-nil}
use Rattle.wc_text.specs.declared.names.LinkId.{LinkId}
use Rattle.wc_text.specs.declared.names.Cause.{Cause}
use Rattle.wc_outside.specs.Seen.{Seen}
use Rattle.wc_outside.specs.declared.happening.Happening.{Happening}
use Rattle.wc_outside.specs.declared.happening.Happening.TheVariants.{Woke, Accepted, Read, Ended, Failed, Connected, Refused, ListenFailed}
use Rattle.wc_board.specs.declared.connection.Connection.{Connection}
use Rattle.wc_core.specs.CoreView.{CoreView}
use Rattle.wc_core.specs.Step.{run, no_step, client_link}
use Rattle.wc_core.specs.State.{Beside}
use Rattle.wc_board.specs.Connections.{connection_link, leaving_in, leaving_on}
use Rattle.wc_core.specs.Served.{state_of, clients_of, links_of, or_else, Distinct}
use Rattle.wc_core.proofs.DidLemmas.{saves-as}
use Rattle.wc_core.proofs.ConnectionLemmas.{client-leaving, client-missing}
use Rattle.wc_servers.specs.Seats.{seat_link, server_link, open_of, is_open_at, AreSeats, leaving_on as server_leaving_on}
use Rattle.wc_turns.specs.declared.links.LinkState.{LinkState}
use Rattle.wc_turns.specs.declared.headless.Headless.{Headless}
use Rattle.wc_outside.specs.Keyed.{at_key}
use Rattle.std.specs.List.{list_any}
use Rattle.wc_turns.specs.Events.{bytes_on, comes_on, has_come, happening_events, events_from}
use Rattle.wc_turns.specs.Heard.{Heard, Happened}
use Rattle.wc_turns.specs.Links.{link_number, is_undrained, is_blocked}
use Rattle.wc_core.specs.ServersKept.{is_wanted}
use Rattle.wc_turns.specs.Parties.{asks_of, closes_asked}
use Rattle.wc_turns.specs.Parts.{leaving_of}
use Rattle.wc_turns.specs.Steps.{SameTails, SameKinds, reached_after_miss}
use Rattle.wc_turns.specs.Turns.{AgreesOnLinks, AgreesWithSockets, moment, gives, GivesNothing, CoreTakes, is_wake, is_listen_fault, LoopStep}
use Rattle.wc_turns.proofs.KeyedLemmas.{none_of, same-keys}
use Rattle.wc_turns.proofs.RunLemmas.{ReachesEvents-all, ReachesEvents-over, EndsAtQuit-one}
use Rattle.wc_turns.proofs.PointLemmas.{AreAlone, MomentAdvances-same}
use Rattle.wc_turns.proofs.AgreesLemmas.{IsTimeless, KeepsRefused, IsUnstanding, For-quiet, For-states, missing-as}
use Rattle.wc_turns.proofs.HeardLemmas.{quiet-happened, socket-stays}
use Rattle.wc_turns.proofs.HeardAgrees.{Hears-quiet, Hears-states, readings-kinds, socket-kinds}
use Rattle.wc_turns.proofs.CauseLemmas.{Onward-none, reasons-same}
use Rattle.wc_turns.proofs.ChangedLemmas.{there-as}
use Rattle.wc_turns.proofs.EndedLemmas.{ended-states}
use Rattle.wc_turns.proofs.SeatLemmas.{open-none, shut-leaving}
use Rattle.wc_turns.proofs.TurnLemmas.{Call, LoopStep-step, LoopStep-still}
use Rattle.wc_core.proofs.OracleLemmas.{Stay-refl}
use Rattle.wc_turns.specs.Goes.{AreEnds}
use Rattle.wc_turns.proofs.GoesLemmas.{Goes-same, Goes-ends}

-- the sockets stay as they were but for what they gave and sent
pub record SameSets (a b : Seen) : Type 0 where
  pub used : b.used ≡ a.used
  pub there : (k : ℕ) → b.there k ≡ a.there k
  pub undrained : (k : ℕ) → b.undrained k ≡ a.undrained k
  pub blocked : (k : ℕ) → b.blocked k ≡ a.blocked k
  pub listening : b.listening ≡ a.listening

pub among-same : (states : List LinkState) (core : CoreView) (used : ℕ) (listening : Bool) (refused : List LinkId) (a b : Seen) → SameSets a b → AgreesOnLinks states core used listening refused a → AgreesOnLinks states core used listening refused b
among-same states core used listening refused a b same s = record {
  counted = s.counted ∙ sym same.used;
  there = λ k. same.there k ∙ s.there k;
  undrained = λ k. same.undrained k ∙ s.undrained k;
  blocked = λ k. same.blocked k ∙ s.blocked k;
  listens = same.listening ∙ s.listens;
  parties = s.parties;
  ended = s.ended;
  alone = s.alone;
  once = s.once;
  seats = s.seats;
  order = s.order;
  apart = s.apart;
  unknown = s.unknown;
  clients = s.clients;
  unrefused = s.unrefused;
  spared = s.spared;
  next = s.next;
  reached = s.reached;
  limited = s.limited;
}

-- a happening that gives nothing is no arrival
no-arrival : (k : ℕ) (h : Happening) → GivesNothing (h ∷ []) → has_come k (h ∷ []) ≡ false
no-arrival k (Accepted link nonce) e = absurd (false≢true (sym e))
no-arrival k (Woke moment) e = refl
no-arrival k (Read link bytes) e = refl
no-arrival k (Ended link) e = refl
no-arrival k (Failed link) e = refl
no-arrival k (Connected link) e = refl
no-arrival k (Refused link) e = refl
no-arrival k ListenFailed e = refl

or-first : (a b : Bool) → (a || b) ≡ false → a ≡ false
or-first true b e = e
or-first false b e = refl

or-second : (a b : Bool) → (a || b) ≡ false → b ≡ false
or-second true b e = absurd (false≢true (sym e))
or-second false b e = e

pub no-arrivals : (k : ℕ) (given : List Happening) → GivesNothing given → has_come k given ≡ false
no-arrivals k [] e = refl
no-arrivals k (h ∷ given) e =
    let first : has_come k (h ∷ []) ≡ false = no-arrival k h (ap (λ t. t || false) (or-first (gives h) (list_any gives given) e)) in
    rw (or-first (comes_on k h) false first) (no-arrivals k given (or-second (gives h) (list_any gives given) e))

missed-by : (history : List Heard) (x : Headless) (n : ℕ) (a b : Seen) (h : Happening) (q : Bool) → x.core.quits ≡ q → n ≡ reached_after_miss x.core.quits x.ran → b.taken ≡ a.taken ++ h ∷ [] → ((k : ℕ) → b.sent k ≡ a.sent k) → ((k : ℕ) → b.choked k ≡ a.choked k) → b.asked ≡ a.asked
    → length (happening_events history h) ≡ 1 → GivesNothing (h ∷ []) → (x.core.quits ≡ false → (told : Beside) → run (state_of x.core told) (happening_events history h) ≡ no_step (state_of x.core told)) → AreEnds (happening_events history h) → CoreTakes history (moment x a) (moment (record x { ran = n }) b) x.ran n [] (Happened h ∷ [])
missed-by history x n a b h true e count taken sent choked asked one gives none ends =
    let same : n ≡ x.ran = rw e at count in
    record {
      events = [];
      goes = Goes-same x.core x.core refl;
      reaches = rw same (ReachesEvents-over x.core.quits x.core.quits x.ran (events_from history (Happened h ∷ [])) e);
      rises = omega arith;
      verdicts = Stay-refl x.core.verdicts;
      advances = λ still below told were agrees. MomentAdvances-same told (moment x a) (moment (record x { ran = n }) b) refl refl sent choked (ap (λ xs. xs ++ asks_of x.core.servers.wanted) asked) (h ∷ []) taken [] refl were tt;
      silent = λ over. gives;
      ends = (tt, tt);
      last = λ still below told were agrees going over. absurd (false≢true (sym going ∙ over));
    }
missed-by history x n a b h false e count taken sent choked asked one gives none ends =
    let more : n ≡ min (x.ran + 1) (2 ^ 64 - 1) = rw e at count in
    record {
      events = happening_events history h;
      goes = Goes-ends (happening_events history h) x.core x.core ends (Goes-same x.core x.core refl);
      reaches = rw (append-nil (happening_events history h)) (ReachesEvents-all x.core.quits x.core.quits x.ran n (happening_events history h) e (λ fits. omega arith));
      rises = omega arith;
      verdicts = Stay-refl x.core.verdicts;
      advances = λ still below told were agrees. MomentAdvances-same told (moment x a) (moment (record x { ran = n }) b) refl refl sent choked (ap (λ xs. xs ++ asks_of x.core.servers.wanted) asked) (h ∷ []) taken (happening_events history h) (none e told) were (EndsAtQuit-one (state_of x.core told) (happening_events history h) one);
      silent = λ over. gives;
      ends = (tt, tt);
      last = λ still below told were agrees going over. absurd (false≢true (sym going ∙ over));
    }

ran-before : (q : Bool) (ran n : ℕ) → n ≡ reached_after_miss q ran → n ≡ 0 → ran ≡ 0
ran-before true ran n count e = sym count ∙ e
ran-before false ran n count e = omega arith

-- no client comes at it
missed-nobody : (h : Happening) → GivesNothing (h ∷ []) → (k : ℕ) → comes_on k h ≡ false
missed-nobody h gives k = or-first (comes_on k h) false (no-arrival k h gives)

-- what gives nothing, and is no wake, tells of an end
missed-ends : (history : List Heard) (h : Happening) → is_wake h ≡ 0 → GivesNothing (h ∷ []) → AreEnds (happening_events history h)
missed-ends history (Woke moment) wake gives = absurd (omega (arith, wake))
missed-ends history (Accepted link nonce) wake gives = absurd (false≢true (sym gives))
missed-ends history (Read link bytes) wake gives = absurd (false≢true (sym gives))
missed-ends history (Ended link) wake gives = (refl, tt)
missed-ends history (Failed link) wake gives = (refl, tt)
missed-ends history (Connected link) wake gives = absurd (false≢true (sym gives))
missed-ends history (Refused link) wake gives = tt
missed-ends history ListenFailed wake gives = (refl, tt)

-- an event that changes nothing
pub LoopStep-missed : (x : Headless) (n : ℕ) (a b : Seen) (h : Happening) → is_wake h ≡ 0 → GivesNothing (h ∷ []) → Call a b (h ∷ []) → (IsTrue b.tells → (k : ℕ) → b.sent k ≡ a.sent k) → (IsTrue b.tells → (k : ℕ) → b.choked k ≡ a.choked k) → (IsTrue b.tells → b.asked ≡ a.asked) → SameSets a b
    → ((k : ℕ) → bytes_on k h ≡ []) → IsTimeless h → KeepsRefused h → IsUnstanding h → ((history : List Heard) → length (happening_events history h) ≡ 1) → n ≡ reached_after_miss x.core.quits x.ran
    → (AgreesWithSockets x a → x.core.quits ≡ false → (history : List Heard) (told : Beside) → run (state_of x.core told) (happening_events history h) ≡ no_step (state_of x.core told))
    → LoopStep true 0 (is_listen_fault h) x (record x { ran = n }) a b
LoopStep-missed x n a b h wake gives call sent choked asked same quiet timeless keeps unstanding one count none =
    LoopStep-step true 0 (is_listen_fault h) x (record x { ran = n }) a b (h ∷ []) (Happened h ∷ []) [] refl call (λ below. omega arith) (omega arith) (omega arith)
    (omega arith) (λ t s unstarved below. sym (append-nil _)) (λ s. reasons-same x (record x { ran = n }) a b refl) (λ s k h. h) (λ s. Onward-none x.core x.core (h ∷ []) (omega arith) (λ k. no-arrival k h gives)) (λ over. over) (λ t s. inl (refl, refl))
    (among-same x.links.opened.items x.core x.used x.listening x.refused.items a b same)
    (λ t s on. (let more : n ≡ min (x.ran + 1) (2 ^ 64 - 1) = rw on at count in For-quiet x.clock x.links.opened.items x.used x.ran n x.refused.items x.unlisted a.taken h 1 quiet timeless keeps unstanding (omega arith) (omega arith) (s.told (call.told t) on)))
    (λ t s on. (let more : n ≡ min (x.ran + 1) (2 ^ 64 - 1) = rw on at count in let o = one s.history in Hears-quiet x.links.opened.items x.used x.used x.ran n a.taken s.history (Happened h) (s.spells (call.told t)) (quiet-happened h quiet (missed-nobody h gives)) (omega arith) (omega arith) (s.hears (call.told t) on)))
    (λ t s k e. socket-stays k a.taken (h ∷ []) (s.sockets (call.told t) k e))
    (λ s stopped. s.idle (ran-before x.core.quits x.ran n count stopped))
    (λ t s. missed-by s.history x n a b h x.core.quits refl count (call.taken t) (sent t) (choked t) (asked t) (one s.history) gives (λ on. none s on s.history) (missed-ends s.history h wake gives))

left-client : (k : ℕ) (connections : List Connection) (o : Option Connection) → at_key connection_link k connections ≡ o → Distinct (map connection_link connections) → IsSome (leaving_in o) → at_key client_link k (clients_of connections) ≡ None
left-client k connections None e d h = absurd (false≢true h)
left-client k connections (Some connection) e d h = client-leaving k connections connection d e (closed-connection connection.leaving h)
  where
    closed-connection : (why : Option Cause) → IsSome why → is_none why ≡ false
    closed-connection None q = absurd (false≢true q)
    closed-connection (Some cause) q = refl

-- the failure of a link whose client or server is leaving changes nothing
pub failed-left : (core : CoreView) (link : LinkId) (taken : List Heard) → Distinct (links_of core) → AreSeats core.servers → AreAlone core → IsSome (leaving_of link.0 core) → (told : Beside) → run (state_of core told) (happening_events taken (Failed link)) ≡ no_step (state_of core told)
failed-left core link taken d seats alone h told = left-by (server_leaving_on link.0 core.servers.seats) refl h
  where
    no-client : (o : Option Connection) → at_key connection_link link.0 core.connections ≡ o → IsSome (server_leaving_on link.0 core.servers.seats) → o ≡ None
    no-client None e q = refl
    no-client (Some connection) e q = absurd (false≢true (rw (alone link.0 (ap is_some e)) at q))

    no-server : IsSome (leaving_on link.0 core.connections) → (o : Option Connection) → at_key connection_link link.0 core.connections ≡ o → is_open_at (at_key seat_link link.0 core.servers.seats) ≡ false
    no-server q None e = absurd (false≢true (rw e at q))
    no-server q (Some connection) e = rw (alone link.0 (ap is_some e)) refl

    done : at_key client_link link.0 (clients_of core.connections) ≡ None → at_key server_link link.0 (open_of core.servers.seats) ≡ None → run (state_of core told) (happening_events taken (Failed link)) ≡ no_step (state_of core told)
    done none other = rw (none, other) refl

    left-by : (why : Option Cause) → server_leaving_on link.0 core.servers.seats ≡ why → IsSome (or_else why (leaving_on link.0 core.connections)) → run (state_of core told) (happening_events taken (Failed link)) ≡ no_step (state_of core told)
    left-by None e q = done (left-client link.0 core.connections (at_key connection_link link.0 core.connections) refl d q) (open-none link.0 core.servers.seats seats.apart (no-server q (at_key connection_link link.0 core.connections) refl))
    left-by (Some cause) e q =
        let leaves : IsSome (server_leaving_on link.0 core.servers.seats) = rw e refl in
        done (client-missing link.0 core.connections (no-client (at_key connection_link link.0 core.connections) refl leaves)) (open-none link.0 core.servers.seats seats.apart (shut-leaving (at_key seat_link link.0 core.servers.seats) leaves))

-- only the links change
pub record OnlyLinks (x y : Headless) : Type 0 where
  pub core : y.core ≡ x.core
  pub clock : y.clock ≡ x.clock
  pub used : y.used ≡ x.used
  pub listening : y.listening ≡ x.listening
  pub turns : y.turns ≡ x.turns
  pub ran : y.ran ≡ x.ran
  pub refused : y.refused ≡ x.refused
  pub unlisted : y.unlisted ≡ x.unlisted
  pub closed : y.links.closed.items ≡ x.links.closed.items

-- the links are flagged anew
pub LoopStep-flags : (x y : Headless) (a b : Seen) → OnlyLinks x y → Call a b [] → (IsTrue b.tells → (k : ℕ) → b.sent k ≡ a.sent k) → (IsTrue b.tells → (k : ℕ) → b.choked k ≡ a.choked k) → (IsTrue b.tells → b.asked ≡ a.asked)
    → b.used ≡ a.used → ((k : ℕ) → b.there k ≡ a.there k) → b.listening ≡ a.listening → map link_number y.links.opened.items ≡ map link_number x.links.opened.items
    → ((k : ℕ) → a.undrained k ≡ is_undrained (at_key link_number k x.links.opened.items) → b.undrained k ≡ is_undrained (at_key link_number k y.links.opened.items))
    → ((k : ℕ) → AgreesOnLinks x.links.opened.items x.core x.used x.listening x.refused.items a → b.blocked k ≡ is_blocked (at_key link_number k y.links.opened.items))
    → SameTails x.links.opened.items y.links.opened.items → SameKinds x.links.opened.items y.links.opened.items → LoopStep true 0 0 x y a b
LoopStep-flags x y a b only call sent choked asked used there listening numbers flags blocked tails kinds =
    let links : (k : ℕ) → is_some (at_key link_number k y.links.opened.items) ≡ is_some (at_key link_number k x.links.opened.items) = λ k. same-keys link_number k y.links.opened.items x.links.opened.items numbers in
    LoopStep-still x y a b call only.turns (ap (λ c. c.starved) only.core) (ap (λ c. c.verdicts) only.core) (ap (λ c. c.quits) only.core) only.ran (λ k h. rw only.core at h) (ap (λ c. c.servers.used) only.core) (ap (λ c. c.servers.wanted) only.core) (saves-as x.core y.core x.core only.core refl refl)
    (ap (λ cs. cs ++ closes_asked y.core) only.closed ∙ ap (λ c. x.links.closed.items ++ closes_asked c) only.core)
    (λ s. rw (only.core, only.used, only.listening, only.refused) (record {
      counted = s.counted ∙ sym used;
      there = λ k. there k ∙ s.there k ∙ sym (there-as x.links.opened.items y.links.opened.items numbers kinds k);
      undrained = λ k. flags k (s.undrained k);
      blocked = λ k. blocked k s;
      listens = listening ∙ s.listens;
      parties = λ k. s.parties k ∙ ap (λ b'. b' || is_wanted k x.core.servers.wanted) (sym (links k));
      ended = ended-states x.links.opened.items y.links.opened.items x.core kinds s.ended;
      alone = s.alone;
      once = s.once;
      seats = s.seats;
      order = s.order;
      apart = subst Distinct (sym numbers) s.apart;
      unknown = λ k below. none_of _ (links k ∙ ap is_some (s.unknown k below));
      clients = s.clients;
      unrefused = s.unrefused;
      spared = s.spared;
      next = s.next;
      reached = s.reached;
      limited = s.limited;
    }))
    (λ t s. rw (only.clock, only.used, only.ran, only.refused, only.unlisted) (For-states x.clock x.links.opened.items y.links.opened.items x.used x.ran x.refused.items x.unlisted a.taken kinds (missing-as x.links.opened.items y.links.opened.items numbers) s))
    (λ t history s. rw (only.used, only.ran) (Hears-states x.links.opened.items y.links.opened.items x.used x.ran a.taken history tails (readings-kinds x.links.opened.items y.links.opened.items kinds) s))
    (λ k e. socket-kinds (at_key link_number k x.links.opened.items) (at_key link_number k y.links.opened.items) (kinds k) e)
    (λ t s told were. MomentAdvances-same told (moment x a) (moment y b) only.core only.used (sent t) (choked t) (ap (λ xs. xs ++ asks_of y.core.servers.wanted) (asked t) ∙ ap (λ c. a.asked ++ asks_of c.servers.wanted) only.core) [] (call.taken t) [] refl were tt)
    (λ s. Goes-same x.core y.core only.core)

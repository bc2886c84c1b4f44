-- Arrivals are served.
use Rattle.std.proofs.Common.{◌≡◌, ◌≢◌, ℕ, ◌+◌, ◌-◌, ◌^◌, ◌<◌, ◌≤◌, inl, inr, max, nat_le, Bool, true, false, not, eqb, ◌&&◌, ◌||◌, IsTrue, List, [], ◌∷◌, ◌++◌, length, map, Option, Some, None, IfSome, is_some, All, refl, sym, ap, ◌∙◌, subst, arith}
use Rattle.std.proofs.lemmas.Bool.{false≢true}
use Rattle.std.proofs.lemmas.Bool.Decides.{nat_tests}
use Rattle.std.proofs.lemmas.List.{append-nil}
use Rattle.std.proofs.lemmas.List.Elements.{All-nil, All-cons}
use Rattle.wc_text.specs.declared.names.LinkId.{LinkId}
use Rattle.wc_text.specs.declared.names.Cause.{Cause}
use Rattle.wc_outside.specs.Seen.{Seen}
use Rattle.wc_outside.specs.declared.happening.Happening.{Happening}
use Rattle.wc_outside.specs.declared.happening.Happening.TheVariants.{Accepted}
use Rattle.wc_outside.specs.Keyed.{at_key}
use Rattle.wc_board.specs.Connections.{connection_link, new_connection, unsent_on as client_unsent_on}
use Rattle.wc_core.specs.State.{Beside}
use Rattle.wc_servers.specs.Outs.{lines_to}
use Rattle.wc_servers.specs.Seats.{ServersView, AreSeats, seat_link, used_up, unsent_on as server_unsent_on}
use Rattle.wc_servers.proofs.SeatLemmas.{seats_same}
use Rattle.wc_core.specs.Events.{Arrives}
use Rattle.wc_core.specs.CoreView.{CoreView}
use Rattle.wc_core.specs.State.{State, has_end}
use Rattle.wc_core.specs.Step.{step, run}
use Rattle.wc_core.specs.Served.{state_of, WereTold, AdmitsArrivalAt, Means, refusal, outs_of, sent_to, Distinct}
use Rattle.wc_core.specs.ServersKept.{is_wanted, AreNext, AreInOrder}
use Rattle.wc_core.proofs.DidLemmas.{saves-as}
use Rattle.wc_core.proofs.ConnectionLemmas.{links-push}
use Rattle.wc_turns.specs.declared.links.LinkState.{LinkState}
use Rattle.wc_turns.specs.declared.headless.Headless.{Headless}
use Rattle.wc_turns.specs.Hands.{Delivers}
use Rattle.wc_turns.specs.Links.{link_number, is_undrained, is_blocked, is_there, new_state}
use Rattle.wc_turns.specs.Parties.{has_party, unsent_on, owed_to, asks_of, asks_in, is_refused, closes_asked, IsCalm}
use Rattle.wc_turns.specs.Run.{closings}
use Rattle.wc_turns.specs.Served.{closed_by}
use Rattle.wc_turns.specs.Steps.{LinkComes, TakesArrival, RefusesArrival, refused_for}
use Rattle.wc_turns.specs.Goes.{IsRefusal}
use Rattle.wc_core.specs.Contained.{starved_by}
use Rattle.wc_turns.specs.Turns.{AgreesOnLinks, AgreesWithSockets, Moment, moment, point, MomentAdvances, OnOneSide, IsClients, IsServers, CausedBy, HasCause, closed_so_far, LoopStep}
use Rattle.wc_turns.specs.Heard.{Happened}
use Rattle.wc_turns.proofs.ArriveLemmas.{refused-as}
use Rattle.wc_turns.proofs.HeardLemmas.{socket-stays}
use Rattle.wc_turns.proofs.HeardAgrees.{Hears-came, Hears-refused, socket-came}
use Rattle.wc_turns.proofs.KeyedLemmas.{or-false, or-true, is_some-push, at_key-push_same, at_key-push_other, absent-missing, distinct-push, map-push}
use Rattle.wc_turns.proofs.HandsLemmas.{Delivers-stays, Delivers-close}
use Rattle.wc_turns.proofs.RunLemmas.{ReachesEvents-all}
use Rattle.wc_turns.proofs.EndedLemmas.{ended-arrived}
use Rattle.wc_turns.proofs.PointLemmas.{MomentAdvances-comes, MomentAdvances-same, fresh_by, spoils-more, no-client, no-server, unsent-nobody}
use Rattle.wc_turns.proofs.AgreesLemmas.{For-came, For-refused}
use Rattle.wc_turns.proofs.CauseLemmas.{reasons-same, reasons-more, Onward}
use Rattle.wc_turns.proofs.ForgetLemmas.{and-not-true, and-not-false}
use Rattle.wc_turns.proofs.TurnLemmas.{Call, LoopStep-step, LoopStep-still}
use Rattle.wc_core.proofs.OracleLemmas.{verdicts-same}
use Rattle.wc_turns.proofs.GoesLemmas.{Goes-one, Goes-same}

pub came-flag : (f : Option LinkState → Bool) → f None ≡ false → (k : ℕ) (states : List LinkState) (state : LinkState) (t : Bool) → eqb (link_number state) k ≡ t → f (Some state) ≡ false → at_key link_number (link_number state) states ≡ None → f (at_key link_number k states) ≡ f (at_key link_number k (states ++ state ∷ []))
came-flag f off-none k states state true e off none =
    let same : link_number state ≡ k = grind (arith, nat_tests) in
    let before : at_key link_number k states ≡ None = ap (λ i. at_key link_number i states) (sym same) ∙ none in
    let after : at_key link_number k (states ++ state ∷ []) ≡ Some state = ap (λ i. at_key link_number i (states ++ state ∷ [])) (sym same) ∙ at_key-push_same link_number state states none in
    ap f before ∙ off-none ∙ sym off ∙ sym (ap f after)
came-flag f off-none k states state false e off none =
    let other : link_number state ≢ k = λ q. grind (arith, nat_tests) in
    ap f (sym (at_key-push_other link_number k state states other))

came-there : (k : ℕ) (states : List LinkState) (state : LinkState) (t : Bool) → eqb (link_number state) k ≡ t → state.refused ≡ false → at_key link_number (link_number state) states ≡ None → (is_there (at_key link_number k states) || t) ≡ is_there (at_key link_number k (states ++ state ∷ []))
came-there k states state true e kept none =
    let same : link_number state ≡ k = grind (arith, nat_tests) in
    let after : at_key link_number k (states ++ state ∷ []) ≡ Some state = ap (λ i. at_key link_number i (states ++ state ∷ [])) (sym same) ∙ at_key-push_same link_number state states none in
    or-true (is_there (at_key link_number k states)) ∙ sym (ap is_there after ∙ ap not kept)
came-there k states state false e kept none =
    let other : link_number state ≢ k = λ q. grind (arith, nat_tests) in
    or-false (is_there (at_key link_number k states)) ∙ ap is_there (sym (at_key-push_other link_number k state states other))

-- nobody is at a link that is not used yet, where no connection is to be asked for
pub nobody-new : (states : List LinkState) (core : CoreView) (used : ℕ) (listening : Bool) (refused : List LinkId) (seen : Seen) → AgreesOnLinks states core used listening refused seen → core.servers.wanted ≡ [] → (k : ℕ) → used < k → has_party k core ≡ false
nobody-new states core used listening refused seen s wanted k above = s.parties k ∙ ap (λ o. is_some o || is_wanted k core.servers.wanted) (s.unknown k above) ∙ ap (is_wanted k) wanted

or-more : (p q r w t : Bool) → (p || q) ≡ (r || w) → ((p || t) || q) ≡ ((r || t) || w)
or-more p q r w true e = ap (λ b. b || q) (or-true p) ∙ sym (ap (λ b. b || w) (or-true r))
or-more p q r w false e = ap (λ b. b || q) (or-false p) ∙ e ∙ sym (ap (λ b. b || w) (or-false r))

or-late : (p q t : Bool) → ((p || t) || q) ≡ ((p || q) || t)
or-late true q t = refl
or-late false true true = refl
or-late false true false = refl
or-late false false true = refl
or-late false false false = refl

used-seats : (link : ℕ) (core : CoreView) → AreSeats core.servers → AreSeats (used_up link core.servers)
used-seats link core h = seats_same core.servers (used_up link core.servers) refl (omega arith) h

used-order : (link : ℕ) (core : CoreView) → AreInOrder core.servers → AreInOrder (used_up link core.servers)
used-order link core h = record { ranked = h.ranked; counted = (let c = h.counted in omega arith) }

-- the core after a client came
abbrev came_core : CoreView → LinkId → List ℕ → CoreView
came_core core link nonce = record core {
  connections = core.connections ++ new_connection link nonce ∷ [];
  servers = used_up link.0 core.servers;
}

came-party : (k : ℕ) (core : CoreView) (link : LinkId) (nonce : List ℕ) → has_party k (came_core core link nonce) ≡ (has_party k core || eqb link.0 k)
came-party k core link nonce =
    ap (λ p. p || is_some (at_key seat_link k core.servers.seats)) (is_some-push connection_link k (new_connection link nonce) core.connections)
    ∙ or-late (is_some (at_key connection_link k core.connections)) (is_some (at_key seat_link k core.servers.seats)) (eqb link.0 k)

-- what is owed at an arrival is nothing
came-sides : (core : CoreView) (link : LinkId) (nonce : List ℕ) → core.servers.used < link.0 → OnOneSide core (came_core core link nonce) []
came-sides core link nonce above = record {
  clients = λ k h. (clients-by k h, refl);
  servers = λ k h. (servers-by k h, refl);
} where
  clients-by : (k : ℕ) → IsClients k (came_core core link nonce) → IsClients k core
  clients-by k (inl there) = there-by (eqb link.0 k) refl (sym (is_some-push connection_link k (new_connection link nonce) core.connections) ∙ there)
    where
      there-by : (t : Bool) → eqb link.0 k ≡ t → (is_some (at_key connection_link k core.connections) || t) ≡ true → IsClients k core
      there-by true e q = inr (let same : link.0 ≡ k = grind (arith, nat_tests) in omega arith)
      there-by false e q = inl (sym (or-false _) ∙ q)
  clients-by k (inr beyond) = inr (omega arith)

  servers-by : (k : ℕ) → IsServers k (came_core core link nonce) → IsServers k core
  servers-by k (inl there) = inl there
  servers-by k (inr beyond) = inr (omega arith)

among-came : (states : List LinkState) (core : CoreView) (used : ℕ) (listening : Bool) (refused : List LinkId) (a b : Seen) (link : LinkId) (nonce : List ℕ) → core.servers.wanted ≡ [] → link.0 ≡ a.used + 1 → b.used ≡ a.used + 1 → b.used ≤ 2 ^ 62
    → ((k : ℕ) → b.there k ≡ (a.there k || eqb link.0 k)) → ((k : ℕ) → b.undrained k ≡ a.undrained k) → ((k : ℕ) → b.blocked k ≡ a.blocked k) → b.listening ≡ a.listening
    → AgreesOnLinks states core used listening refused a → AgreesOnLinks (states ++ new_state link None false ∷ []) (came_core core link nonce) link.0 listening refused b
among-came states core used listening refused a b link nonce wanted next used' limit there undrained blocked listening' s =
    let state = new_state link None false in
    let above : used < link.0 = (let c = s.counted in omega arith) in
    let absent = s.unknown link.0 above in
    let nobody = nobody-new states core used listening refused a s wanted link.0 above in
    let some : (k : ℕ) → is_some (at_key link_number k (states ++ state ∷ [])) ≡ (is_some (at_key link_number k states) || eqb link.0 k) = λ k. is_some-push link_number k state states in
    let connection = new_connection link nonce in
    record {
      counted = next ∙ sym used';
      there = λ k. there k ∙ ap (λ q. q || eqb link.0 k) (s.there k) ∙ came-there k states state (eqb link.0 k) refl refl absent;
      undrained = λ k. undrained k ∙ s.undrained k ∙ came-flag is_undrained refl k states state (eqb link.0 k) refl refl absent;
      blocked = λ k. blocked k ∙ s.blocked k ∙ came-flag is_blocked refl k states state (eqb link.0 k) refl refl absent;
      listens = listening' ∙ s.listens;
      parties = λ k. ap (λ p. p || is_some (at_key seat_link k core.servers.seats)) (is_some-push connection_link k connection core.connections)
          ∙ or-more (is_some (at_key connection_link k core.connections)) (is_some (at_key seat_link k core.servers.seats)) (is_some (at_key link_number k states)) (is_wanted k core.servers.wanted) (eqb link.0 k) (s.parties k)
          ∙ ap (λ q. q || is_wanted k core.servers.wanted) (sym (some k));
      ended = ended-arrived states state core (came_core core link nonce) connection refl absent refl refl s.ended;
      alone = λ k e. alone-by nobody k (eqb link.0 k) refl (sym (is_some-push connection_link k connection core.connections) ∙ e);
      once = subst Distinct (sym (links-push core.connections connection)) (distinct-push link.0 (map connection_link core.connections) s.once (absent-missing connection_link link.0 core.connections (no-client link.0 core nobody)));
      seats = used-seats link.0 core s.seats;
      order = used-order link.0 core s.order;
      apart = subst Distinct (sym (map-push link_number states state)) (distinct-push link.0 (map link_number states) s.apart (absent-missing link_number link.0 states absent));
      unknown = λ k below.
          let other : link_number state ≢ k = λ q. omega arith in
          at_key-push_other link_number k state states other ∙ s.unknown k (omega arith);
      clients = λ k below.
          let other : connection_link connection ≢ k = λ q. omega arith in
          at_key-push_other connection_link k connection core.connections other ∙ s.clients k (omega arith);
      unrefused = λ k below. s.unrefused k (omega arith);
      spared = λ k e.
          let other : connection_link connection ≢ k = λ q. false≢true (sym (s.unrefused link.0 above) ∙ ap (λ i. is_refused i refused) q ∙ e) in
          at_key-push_other connection_link k connection core.connections other ∙ s.spared k e;
      next = subst (AreNext link.0) (sym wanted) tt;
      reached = (let r = s.reached in let c = s.counted in let l = ap length wanted in omega arith);
      limited = (let m = s.limited in omega arith);
    }
  where
    alone-by : has_party link.0 core ≡ false → (k : ℕ) (t : Bool) → eqb link.0 k ≡ t → (is_some (at_key connection_link k core.connections) || t) ≡ true → at_key seat_link k core.servers.seats ≡ None
    alone-by nobody k true e q = let same : link.0 ≡ k = grind (arith, nat_tests) in subst (λ i. at_key seat_link i core.servers.seats ≡ None) same (no-server link.0 core nobody)
    alone-by nobody k false e q = s.alone k (sym (or-false _) ∙ q)

-- an arrival has a new number, and no server
arrival-onward : (x y : CoreView) (link : LinkId) (nonce : List ℕ) → y.servers ≡ used_up link.0 x.servers → x.servers.used < link.0 → has_party link.0 x ≡ false → Onward x y (Accepted link nonce ∷ [])
arrival-onward x y link nonce servers above nobody = record {
  reached = (let e = ap (λ (v : ServersView). v.used) servers in omega arith);
  comes = λ k e. comes-by k (eqb link.0 k) refl e;
} where
  none-there : IsServers link.0 y → ⊥
  none-there (inl there) = false≢true (sym (ap (λ (v : ServersView). is_some (at_key seat_link link.0 v.seats)) servers ∙ ap is_some (no-server link.0 x nobody)) ∙ there)
  none-there (inr beyond) = (let e = ap (λ (v : ServersView). v.used) servers in absurd (omega arith))

  comes-by : (k : ℕ) (t : Bool) → eqb link.0 k ≡ t → (t || false) ≡ true → (x.servers.used < k) × (IsServers k y → ⊥)
  comes-by k true e q =
      let same : link.0 ≡ k = grind (arith, nat_tests) in
      subst (λ n. (x.servers.used < n) × (IsServers n y → ⊥)) same (above, none-there)
  comes-by k false e q = absurd (false≢true q)

-- an arrival has a client
pub LoopStep-came : (x y : Headless) (a b : Seen) (link : LinkId) (nonce : List ℕ) → LinkComes x y link → TakesArrival x y link nonce → x.core.quits ≡ false → IsCalm x.core → Call a b (Accepted link nonce ∷ []) → link.0 ≡ a.used + 1 → b.used ≡ a.used + 1 → b.used ≤ 2 ^ 62
    → (IsTrue b.tells → (k : ℕ) → b.sent k ≡ a.sent k) → (IsTrue b.tells → (k : ℕ) → b.choked k ≡ a.choked k) → (IsTrue b.tells → b.asked ≡ a.asked) → ((k : ℕ) → b.there k ≡ (a.there k || eqb link.0 k)) → ((k : ℕ) → b.undrained k ≡ a.undrained k) → ((k : ℕ) → b.blocked k ≡ a.blocked k) → b.listening ≡ a.listening
    → LoopStep true 0 0 x y a b
LoopStep-came x y a b link nonce comes admits going calm call next used limit sent choked asked there undrained blocked listening =
    LoopStep-step true 0 0 x y a b (Accepted link nonce ∷ []) (Happened (Accepted link nonce) ∷ []) [] refl call (λ below. (let e = comes.turns in omega arith)) refl refl
    (let e = ap (λ (c : CoreView). c.starved) admits.core in omega arith)
    (λ t s same below. closes s ∙ sym (append-nil _)) (λ s. reasons-same x y a b (closes s)) (λ s k h. ((sides s).servers k h).0) (λ s. arrival-onward x.core y.core link nonce (ap (λ (c : CoreView). c.servers) admits.core) (beyond s) (nobody s))
    (λ over. absurd (false≢true (sym going ∙ over))) (λ t s. saves-as x.core y.core _ admits.core refl refl)
    (λ s. rw (admits.opened, comes.listening, admits.core, comes.used, comes.refused) (among-came x.links.opened.items x.core x.used x.listening x.refused.items a b link nonce calm.asked next used limit there undrained blocked listening s))
    (λ t s on. rw (comes.clock, admits.opened, comes.refused, comes.unlisted) (For-came x.clock x.links.opened.items x.used y.used x.ran y.ran x.refused.items x.unlisted a.taken link nonce (new_state link None false) (next' s) (comes.used ∙ next' s) refl refl comes.ran (s.told (call.told t) going)))
    (λ t s on. rw (admits.opened, comes.used) (Hears-came x.links.opened.items x.used link.0 x.ran y.ran a.taken s.history link nonce (new_state link None false) (s.spells (call.told t)) (next' s) (next' s) refl (record { tail = refl; framing = refl; ended = refl }) refl (s.among.unknown link.0 (let n = next' s in omega arith)) ((s.told (call.told t) going).fresh) comes.ran (s.hears (call.told t) going)))
    (λ t s k e. socket-stays k a.taken (Accepted link nonce ∷ []) (s.sockets (call.told t) k (socket-came x.links.opened.items (new_state link None false) k refl (rw admits.opened at e))))
    (λ s none. ap (λ (c : CoreView). c.servers.wanted) admits.core ∙ calm.asked)
    (λ t s. record {
      events = Arrives link.0 nonce ∷ [];
      reaches = ReachesEvents-all x.core.quits y.core.quits x.ran y.ran (Arrives link.0 nonce ∷ []) going (λ fits. comes.ran);
      rises = (let e = ap (λ (c : CoreView). c.starved) admits.core in omega arith);
      verdicts = verdicts-same x.core.verdicts y.core.verdicts (ap (λ (c : CoreView). c.verdicts) admits.core);
      goes = Goes-one (Arrives link.0 nonce) x.core y.core (inl (record { core = admits.core; admits = λ below rows were. (came s (ap (λ (c : CoreView). c.starved) admits.core) below rows were).acts }));
      advances = λ same below rows were agrees. advances t s same below rows were;
      silent = λ over. absurd (false≢true (sym going ∙ over));
      ends = (tt, tt);
      last = λ same below rows were agrees on over. absurd (false≢true (sym going ∙ sym (ap (λ (c : CoreView). c.quits) admits.core) ∙ over));
    })
  where
    next' : AgreesWithSockets x a → link.0 ≡ x.used + 1
    next' s = next ∙ ap (λ n. n + 1) (sym s.among.counted)

    nobody : AgreesWithSockets x a → has_party link.0 x.core ≡ false
    nobody s = nobody-new x.links.opened.items x.core x.used x.listening x.refused.items a s.among calm.asked link.0 (let n = next' s in omega arith)

    beyond : AgreesWithSockets x a → x.core.servers.used < link.0
    beyond s = let r = s.among.reached in let l = ap length calm.asked in let n = next' s in omega arith

    sides : AgreesWithSockets x a → OnOneSide x.core y.core []
    sides s = rw admits.core (came-sides x.core link nonce (beyond s))

    closes : AgreesWithSockets x a → closed_so_far y ≡ closed_so_far x
    closes s = ap (λ xs. xs ++ closes_asked y.core) admits.closed ∙ ap (λ cs. x.links.closed.items ++ cs) ((comes.calm calm).parted ∙ sym calm.parted)

    came : AgreesWithSockets x a → y.core.starved ≡ x.core.starved → x.core.starved < 2 ^ 64 - 1 → (rows : Beside) → WereTold x.core rows → AdmitsArrivalAt link.0 x.core y.core None (step (state_of x.core rows) (Arrives link.0 nonce))
    came s same below rows were = (admits.step (absent-missing connection_link link.0 x.core.connections (no-client link.0 x.core (nobody s))) rows).comes same below were

    advances : IsTrue b.tells → AgreesWithSockets x a → y.core.starved ≡ x.core.starved → x.core.starved < 2 ^ 64 - 1 → (rows : Beside) → WereTold x.core rows → MomentAdvances rows (moment x a) (moment y b) [] (Arrives link.0 nonce ∷ [])
    advances t s same below rows were =
        let absent = absent-missing connection_link link.0 x.core.connections (no-client link.0 x.core (nobody s)) in
        let came = came s same below rows were in
        let acts : (run (state_of x.core rows) (Arrives link.0 nonce ∷ [])).acts ≡ [] = ap (λ xs. xs ++ []) came.acts in
        let servers : y.core.servers ≡ used_up link.0 x.core.servers = ap (λ (c : CoreView). c.servers) admits.core in
        MomentAdvances-comes rows (moment x a) (moment y b) [] (Arrives link.0 nonce ∷ []) (comes.used ∙ next' s) came.means (admits.step absent rows).oracle (λ k. ap (owed_to k) acts) (subst (OnOneSide x.core y.core) (sym acts) (sides s))
        (λ k. ap (λ bytes. bytes ++ server_unsent_on k y.core.servers.seats) (came.bytes k) ∙ ap (λ v. client_unsent_on k x.core.connections ++ server_unsent_on k v.seats) servers)
        (λ k. fresh_by k link.0 x.used (eqb link.0 k) refl (next' s) (has_party k x.core) (has_party k y.core) (ap (has_party k) admits.core ∙ came-party k x.core link nonce))
        (ap (λ (c : CoreView). c.quits) admits.core) (ap has_end acts) (sent t) (choked t)
        (ap (λ xs. xs ++ asks_of y.core.servers.wanted) (asked t) ∙ ap (λ v. a.asked ++ asks_of v.wanted) servers ∙ sym (append-nil _) ∙ ap (λ xs. (a.asked ++ asks_of x.core.servers.wanted) ++ asks_in xs) (sym acts))
        (Accepted link nonce ∷ []) (call.taken t) (ap closings acts) (λ q. refl, tt)

refused-caused : (link : LinkId) (nonce : List ℕ) (why : Cause) (a b : Seen) → IsRefusal why → (IsTrue b.tells → b.taken ≡ a.taken ++ Accepted link nonce ∷ []) → CausedBy why link.0 a b
refused-caused link nonce why a b (inl e) h = rw e (λ t. (nonce, record { front = []; rest = []; taken = h t }))
refused-caused link nonce why a b (inr e) h = rw e tt

refused-causes : (link : LinkId) (nonce : List ℕ) (o : Option Cause) (x y : Headless) (a b : Seen) → IfSome o IsRefusal → (IsTrue b.tells → b.taken ≡ a.taken ++ Accepted link nonce ∷ []) → All (HasCause x y a b) (closed_by link o)
refused-causes link nonce None x y a b p h = All-nil (HasCause x y a b)
refused-causes link nonce (Some why) x y a b p h = All-cons (HasCause x y a b) (record { link = link; cause = why }) [] (inl (refused-caused link nonce why a b p h)) (All-nil (HasCause x y a b))

refused-fits : (o : Option Cause) → IfSome o IsRefusal → IsRefusal (refused_for o)
refused-fits None h = inr refl
refused-fits (Some why) h = h

refusal-owed : (k link : ℕ) (o : Option Cause) → owed_to k (refusal link o ++ []) ≡ []
refusal-owed k link None = refl
refusal-owed k link (Some why) = refl

refusal-sent : (k link : ℕ) (o : Option Cause) → sent_to k (refusal link o ++ []) ≡ []
refusal-sent k link None = refl
refusal-sent k link (Some why) = refl

refusal-lines : (k link : ℕ) (o : Option Cause) → lines_to k (outs_of (refusal link o ++ [])) ≡ []
refusal-lines k link None = refl
refusal-lines k link (Some why) = refl

refusal-asks : (link : ℕ) (o : Option Cause) → asks_in (refusal link o ++ []) ≡ []
refusal-asks link None = refl
refusal-asks link (Some why) = refl

refusal-closes : (link : LinkId) (o : Option Cause) → closings (refusal link.0 o ++ []) ≡ closed_by link o
refusal-closes link None = refl
refusal-closes link (Some why) = refl

refusal-ends : (link : ℕ) (o : Option Cause) → has_end (refusal link o ++ []) ≡ false
refusal-ends link None = refl
refusal-ends link (Some why) = refl

-- the core after an arrival was refused
abbrev refused_core : CoreView → ℕ → ℕ → CoreView
refused_core core link starved = record core { servers = used_up link core.servers; starved = starved }

refused-sides : (core : CoreView) (link starved : ℕ) (o : Option Cause) → OnOneSide core (refused_core core link starved) (refusal link o ++ [])
refused-sides core link starved o = record {
  clients = λ k h. (clients-by k h, refusal-lines k link o);
  servers = λ k h. (servers-by k h, refusal-sent k link o);
} where
  clients-by : (k : ℕ) → IsClients k (refused_core core link starved) → IsClients k core
  clients-by k (inl there) = inl there
  clients-by k (inr beyond) = inr (omega arith)

  servers-by : (k : ℕ) → IsServers k (refused_core core link starved) → IsServers k core
  servers-by k (inl there) = inl there
  servers-by k (inr beyond) = inr (omega arith)

refused-hands : (k link starved : ℕ) (a b : Moment) (t : Bool) → eqb k link ≡ t → link ≡ a.used + 1 → b.used ≡ a.used + 1 → has_party link a.core ≡ false → b.core ≡ refused_core a.core link starved → b.sent k ≡ a.sent k → (b.choked k ≡ false → a.choked k ≡ false)
    → (more : List Happening) → b.taken ≡ a.taken ++ more → Delivers (point k a) (point k b) []
refused-hands k link starved a b true e next used none core sent choked more taken =
    let same : link ≡ k = grind (arith, nat_tests) in
    let here : has_party k a.core ≡ false = ap (λ i. has_party i a.core) (sym same) ∙ none in
    let above : nat_le k a.used ≡ false = grind (arith, nat_tests) in
    let now : nat_le k (a.used + 1) ≡ true = grind (arith, nat_tests) in
    Delivers-close (point k a) (point k b) (ap (λ q. q && not (has_party k a.core)) above)
    (ap (λ n. nat_le k n && not (has_party k b.core)) used ∙ ap (λ q. q && not (has_party k b.core)) now ∙ ap (λ c. not (has_party k c)) core ∙ ap not here) sent
    (rw taken (spoils-more k (a.choked k) (b.choked k) a.taken more choked))
    (λ q. unsent-nobody k a.core here)
refused-hands k link starved a b false e next used none core sent choked more taken =
    let other : link ≢ k = λ q. grind (arith, nat_tests) in
    let same : nat_le k (a.used + 1) ≡ nat_le k a.used = grind (arith, nat_tests) in
    Delivers-stays (point k a) (point k b) []
    (ap (λ n. nat_le k n && not (has_party k b.core)) used ∙ ap (λ q. q && not (has_party k b.core)) same ∙ ap (λ c. nat_le k a.used && not (has_party k c)) core)
    (rw taken (spoils-more k (a.choked k) (b.choked k) a.taken more choked))
    (ap (λ c. b.sent k ++ unsent_on k c) core ∙ ap (λ bytes. bytes ++ unsent_on k a.core) sent ∙ sym (append-nil _))
    (λ q. sent) (λ q. refl)

pub gone-link : (f : Option LinkState → Bool) → f None ≡ false → (k link : ℕ) (t u : Bool) → eqb k link ≡ t → eqb link k ≡ u → (states : List LinkState) → at_key link_number link states ≡ None → ((f (at_key link_number k states) || u) && not t) ≡ f (at_key link_number k states)
gone-link f off k link true u e g states none =
    let same : k ≡ link = grind (arith, nat_tests) in
    let here : at_key link_number k states ≡ None = ap (λ i. at_key link_number i states) same ∙ none in
    and-not-true _ ∙ sym (ap f here ∙ off)
gone-link f off k link false false e g states none = and-not-false _ ∙ or-false _
gone-link f off k link false true e g states none = absurd (let same : link ≡ k = grind (arith, nat_tests) in let other : k ≢ link = λ q. grind (arith, nat_tests) in other (sym same))

pub gone-flag : (f : Option LinkState → Bool) → f None ≡ false → (k link : ℕ) (t : Bool) → eqb k link ≡ t → (states : List LinkState) → at_key link_number link states ≡ None → (f (at_key link_number k states) && not t) ≡ f (at_key link_number k states)
gone-flag f off-none k link true e states none = let same : k ≡ link = grind (arith, nat_tests) in let here : at_key link_number k states ≡ None = ap (λ i. at_key link_number i states) same ∙ none in and-not-true _ ∙ sym (ap f here ∙ off-none)
gone-flag f off-none k link false e states none = and-not-false _

-- what the core means changes by the number that is used
refused-means : (old new : CoreView) (link : ℕ) (told : Beside) (state : State) → new ≡ refused_core old link new.starved → state ≡ record (state_of old told) { used = max old.servers.used link } → WereTold old told → Means new state
refused-means old new link told state core same were =
    let P : CoreView → Type 0 = λ c. Means c state in
    let Q : State → Type 0 = λ s. Means (refused_core old link new.starved) s in
    subst P (sym core) (subst Q (sym same) (record { same = refl; told = were }))

among-refused : (states : List LinkState) (core : CoreView) (used starved : ℕ) (listening : Bool) (refused : List LinkId) (a b : Seen) (link : LinkId) → core.servers.wanted ≡ [] → link.0 ≡ a.used + 1 → b.used ≡ a.used + 1 → b.used ≤ 2 ^ 62
    → ((k : ℕ) → b.there k ≡ ((a.there k || eqb link.0 k) && not (eqb k link.0))) → ((k : ℕ) → b.undrained k ≡ (a.undrained k && not (eqb k link.0))) → ((k : ℕ) → b.blocked k ≡ (a.blocked k && not (eqb k link.0))) → b.listening ≡ a.listening
    → AgreesOnLinks states core used listening refused a → AgreesOnLinks states (refused_core core link.0 starved) link.0 listening refused b
among-refused states core used starved listening refused a b link wanted next used' limit there undrained blocked listening' s =
    let above : used < link.0 = (let c = s.counted in omega arith) in
    let absent = s.unknown link.0 above in
    record {
      counted = next ∙ sym used';
      there = λ k. there k ∙ ap (λ q. (q || eqb link.0 k) && not (eqb k link.0)) (s.there k) ∙ gone-link is_there refl k link.0 (eqb k link.0) (eqb link.0 k) refl refl states absent;
      undrained = λ k. undrained k ∙ ap (λ q. q && not (eqb k link.0)) (s.undrained k) ∙ gone-flag is_undrained refl k link.0 (eqb k link.0) refl states absent;
      blocked = λ k. blocked k ∙ ap (λ q. q && not (eqb k link.0)) (s.blocked k) ∙ gone-flag is_blocked refl k link.0 (eqb k link.0) refl states absent;
      listens = listening' ∙ s.listens;
      parties = s.parties;
      ended = s.ended;
      alone = s.alone;
      once = s.once;
      seats = used-seats link.0 core s.seats;
      order = used-order link.0 core s.order;
      apart = s.apart;
      unknown = λ k below. s.unknown k (omega arith);
      clients = λ k below. s.clients k (omega arith);
      unrefused = λ k below. s.unrefused k (omega arith);
      spared = s.spared;
      next = subst (AreNext link.0) (sym wanted) tt;
      reached = (let r = s.reached in let c = s.counted in let l = ap length wanted in omega arith);
      limited = (let m = s.limited in omega arith);
    }

-- an arrival has no client, and its link is closed at once
pub LoopStep-refused : (x y : Headless) (a b : Seen) (link : LinkId) (nonce : List ℕ) → LinkComes x y link → RefusesArrival x y link nonce → x.core.quits ≡ false → IsCalm x.core → Call a b (Accepted link nonce ∷ []) → link.0 ≡ a.used + 1 → b.used ≡ a.used + 1 → b.used ≤ 2 ^ 62
    → (IsTrue b.tells → (k : ℕ) → b.sent k ≡ a.sent k) → (IsTrue b.tells → (k : ℕ) → b.choked k ≡ false → a.choked k ≡ false) → (IsTrue b.tells → b.asked ≡ a.asked) → ((k : ℕ) → b.there k ≡ ((a.there k || eqb link.0 k) && not (eqb k link.0))) → ((k : ℕ) → b.undrained k ≡ (a.undrained k && not (eqb k link.0))) → ((k : ℕ) → b.blocked k ≡ (a.blocked k && not (eqb k link.0))) → b.listening ≡ a.listening
    → AgreesWithSockets x a → LoopStep true 0 0 x y a b
LoopStep-refused x y a b link nonce comes r going calm call next used limit sent choked asked there undrained blocked listening s' =
    LoopStep-step true 0 0 x y a b (Accepted link nonce ∷ []) (Happened (Accepted link nonce) ∷ []) (closed_by link r.cause) refl call (λ below. (let e = comes.turns in omega arith)) refl refl
    r.rises (λ t s same below. closes) (λ s. reasons-more x y a b (closed_by link r.cause) closes (refused-causes link nonce r.cause x y a b r.fits call.taken)) (λ s k h. ((refused-sides x.core link.0 y.core.starved None).servers k (subst (IsServers k) core h)).0) (λ s. arrival-onward x.core y.core link nonce (ap (λ (c : CoreView). c.servers) core) beyond nobody)
    (λ over. absurd (false≢true (sym going ∙ over))) (λ t s. saves-as x.core y.core (refused_core x.core link.0 y.core.starved) core refl refl)
    (λ s. rw (r.opened absent, comes.listening, core, comes.used, comes.refused) (among-refused x.links.opened.items x.core x.used y.core.starved x.listening x.refused.items a b link calm.asked next used limit there undrained blocked listening s))
    (λ t s on. rw (comes.clock, r.opened absent, comes.refused, comes.unlisted) (For-refused x.clock x.links.opened.items x.used y.used x.ran y.ran x.refused.items x.unlisted a.taken link nonce (comes.used ∙ next') comes.ran (s.told (call.told t) going)))
    (λ t s on. rw (r.opened absent, comes.used) (Hears-refused x.links.opened.items x.used link.0 x.ran y.ran a.taken s.history link nonce (s.spells (call.told t)) next' next' absent comes.ran (s.hears (call.told t) going)))
    (λ t s k e. socket-stays k a.taken (Accepted link nonce ∷ []) (s.sockets (call.told t) k (rw (r.opened absent) at e)))
    (λ s none. ap (λ (c : CoreView). c.servers.wanted) core ∙ calm.asked)
    (λ t s. record {
      events = Arrives link.0 nonce ∷ [];
      reaches = ReachesEvents-all x.core.quits y.core.quits x.ran y.ran (Arrives link.0 nonce ∷ []) going (λ fits. comes.ran);
      rises = r.rises;
      verdicts = verdicts-same x.core.verdicts y.core.verdicts (ap (λ (c : CoreView). c.verdicts) core);
      goes = Goes-one (Arrives link.0 nonce) x.core y.core (inr (record { cause = refused_for r.cause; fits = refused-fits r.cause r.fits; core = r.core; closes = r.closes nobody }));
      advances = λ same below rows were agrees. advances t same below rows were;
      silent = λ over. absurd (false≢true (sym going ∙ over));
      ends = (tt, tt);
      last = λ same below rows were agrees on over. absurd (false≢true (sym going ∙ sym (ap (λ (c : CoreView). c.quits) core) ∙ over));
    })
  where
    next' : link.0 ≡ x.used + 1
    next' = next ∙ ap (λ n. n + 1) (sym s'.among.counted)

    above : x.used < link.0
    above = let n = next' in omega arith

    beyond : x.core.servers.used < link.0
    beyond = let r = s'.among.reached in let l = ap length calm.asked in let n = next' in omega arith

    absent : at_key link_number link.0 x.links.opened.items ≡ None
    absent = s'.among.unknown link.0 above

    nobody : has_party link.0 x.core ≡ false
    nobody = nobody-new x.links.opened.items x.core x.used x.listening x.refused.items a s'.among calm.asked link.0 above

    core : y.core ≡ refused_core x.core link.0 y.core.starved
    core = refused-as x.core y.core link.0 (starved_by (refused_for r.cause) x.core.starved) r.core

    closes : closed_so_far y ≡ closed_so_far x ++ closed_by link r.cause
    closes = ap (λ cs. y.links.closed.items ++ cs) ((comes.calm calm).parted) ∙ append-nil _ ∙ r.closed absent ∙ ap (λ xs. xs ++ closed_by link r.cause) (sym (append-nil x.links.closed.items) ∙ ap (λ cs. x.links.closed.items ++ cs) (sym calm.parted))

    advances : IsTrue b.tells → y.core.starved ≡ x.core.starved → x.core.starved < 2 ^ 64 - 1 → (rows : Beside) → WereTold x.core rows → MomentAdvances rows (moment x a) (moment y b) (closed_by link r.cause) (Arrives link.0 nonce ∷ [])
    advances t same below rows were =
        let stepped = r.step same below nobody rows were in
        let acts : (run (state_of x.core rows) (Arrives link.0 nonce ∷ [])).acts ≡ refusal link.0 r.cause ++ [] = ap (λ p. p.acts ++ []) stepped in
        record {
          means = refused-means x.core y.core link.0 rows (step (state_of x.core rows) (Arrives link.0 nonce)).state core (ap (λ p. p.state) stepped) were;
          oracle = ap (λ p. p.state.oracle) stepped;
          stops = (λ q. refl, tt);
          hands = λ k plain. rw (acts, refusal-owed k link.0 r.cause)
              (refused-hands k link.0 y.core.starved (moment x a) (moment y b) (eqb k link.0) refl next' (comes.used ∙ next') nobody core (sent t k) (choked t k) (Accepted link nonce ∷ []) (call.taken t));
          sides = subst (OnOneSide x.core y.core) (sym acts) (subst (λ c. OnOneSide x.core c (refusal link.0 r.cause ++ [])) (sym core) (refused-sides x.core link.0 y.core.starved r.cause));
          asks = ap (λ xs. xs ++ asks_of y.core.servers.wanted) (asked t) ∙ ap (λ (c : CoreView). a.asked ++ asks_of c.servers.wanted) core ∙ sym (append-nil _)
              ∙ ap (λ xs. (a.asked ++ asks_of x.core.servers.wanted) ++ xs) (sym (refusal-asks link.0 r.cause)) ∙ ap (λ xs. (a.asked ++ asks_of x.core.servers.wanted) ++ asks_in xs) (sym acts);
          closes = rw acts (refusal-closes link r.cause);
          quits = ap (λ (c : CoreView). c.quits) core ∙ sym (or-false x.core.quits) ∙ ap (λ q. x.core.quits || q) (sym (refusal-ends link.0 r.cause)) ∙ ap (λ xs. x.core.quits || has_end xs) (sym acts);
        }

and-nothing : (b : Bool) → (b && not true) ≡ false
and-nothing true = refl
and-nothing false = refl

-- no arrival is ready
pub LoopStep-idle : (x : Headless) (a b : Seen) → Call a b [] → (IsTrue b.tells → (k : ℕ) → b.sent k ≡ a.sent k) → (IsTrue b.tells → (k : ℕ) → b.choked k ≡ a.choked k) → (IsTrue b.tells → b.asked ≡ a.asked)
    → b.used ≡ a.used → ((k : ℕ) → b.there k ≡ a.there k) → ((k : ℕ) → b.undrained k ≡ a.undrained k) → ((k : ℕ) → b.blocked k ≡ a.blocked k) → b.listening ≡ (a.listening && not true) → LoopStep true 0 0 x (record x { listening = false }) a b
LoopStep-idle x a b call sent choked asked used there undrained blocked listening =
    LoopStep-still x (record x { listening = false }) a b call refl refl refl refl refl (λ k h. h) refl refl (inl (refl, refl)) refl
    (λ s. record {
      counted = s.counted ∙ sym used;
      there = λ k. there k ∙ s.there k;
      undrained = λ k. undrained k ∙ s.undrained k;
      blocked = λ k. blocked k ∙ s.blocked k;
      listens = listening ∙ and-nothing _;
      parties = s.parties;
      ended = s.ended;
      alone = s.alone;
      once = s.once;
      seats = s.seats;
      order = s.order;
      apart = s.apart;
      unknown = s.unknown;
      clients = s.clients;
      unrefused = s.unrefused;
      spared = s.spared;
      next = s.next;
      reached = s.reached;
      limited = s.limited;
    })
    (λ t s. s) (λ t history s. s) (λ k e. e)
    (λ t s rows were. MomentAdvances-same rows (moment x a) (moment (record x { listening = false }) b) refl refl (sent t) (choked t) (ap (λ xs. xs ++ asks_of x.core.servers.wanted) (asked t)) [] (call.taken t) [] refl were tt)
    (λ s. Goes-same x.core x.core refl)

-- One happening is taken.
use Rattle.std.proofs.Common.{◌≡◌, ◌≢◌, ◌⊎◌, inl, inr, ℕ, ◌+◌, ◌-◌, ◌^◌, ◌<◌, ◌≤◌, nat_le, ◌||◌, min, Bool, true, false, eqb, IsTrue, List, [], ◌∷◌, ◌++◌, length, map, All, Option, Some, None, is_some, get_or, set, refl, sym, ap, ◌∙◌, subst, arith, append_assoc}
use Rattle.std.proofs.lemmas.Bool.{false≢true}
use Rattle.std.proofs.lemmas.Bool.Decides.{nat_tests}
use Rattle.std.proofs.lemmas.List.{append-nil}
use Rattle.std.proofs.lemmas.List.Elements.{All-head, All-append}
use Rattle.wc_text.specs.declared.names.LinkId.{LinkId}
use Rattle.wc_text.specs.declared.names.Cause.{Cause}
use Rattle.wc_text.specs.declared.names.Cause.TheVariants.{NoMemory, LoginFailed, Surplus, Quit, Ended as CauseEnded, Failed as CauseFailed, Disconnected, NickTaken, BadSocket}
use Rattle.wc_outside.specs.Seen.{Seen}
use Rattle.wc_outside.specs.declared.happening.Happening.{Happening}
use Rattle.wc_outside.specs.declared.happening.Happening.TheVariants.{Woke, Accepted, Read, Ended, Failed, Connected, Refused, ListenFailed}
use Rattle.wc_outside.specs.Keyed.{at_key, put_at, IsKeyPlace}
use Rattle.wc_board.specs.Connections.{connection_link, leaving_on}
use Rattle.wc_core.specs.State.{Beside}
use Rattle.wc_servers.specs.Outs.{wanted_in, part_of, or_else as or_other}
use Rattle.wc_servers.specs.Seats.{SeatView, AreSeats, seat_link, server_link, is_open_at as server_is_open_at, leaving_in as server_leaving_in, leaving_on as server_leaving_on}
use Rattle.wc_core.specs.Events.{Event, Arrives, Stands, Breaks}
use Rattle.wc_core.specs.CoreView.{CoreView}
use Rattle.wc_core.specs.State.{State, Act, has_end}
use Rattle.wc_core.specs.Step.{run, step}
use Rattle.wc_core.specs.Served.{links_of, state_of, outs_of, close_of, or_else, Distinct, Does, Follows, KeepsSaved, plain_beside}
use Rattle.wc_core.specs.ServersKept.{AreInOrder, parts_in}
use Rattle.wc_core.proofs.ConnectionLemmas.{client-missing}
use Rattle.wc_board.specs.Served.{StaysOrStarves}
use Rattle.wc_turns.specs.declared.links.LinkState.{LinkState}
use Rattle.wc_turns.specs.declared.headless.Headless.{Headless}
use Rattle.wc_turns.specs.Links.{link_number, is_undrained, is_blocked, is_there, is_ended, is_connecting, is_socket_at, changed_at, standing_state, IsConnecting}
use Rattle.wc_turns.specs.Events.{bytes_on, comes_on, has_come, socket_on, happening_events, events_of}
use Rattle.wc_turns.specs.Heard.{Heard, Happened, NotPut, happened}
use Rattle.wc_turns.specs.Parties.{asks_of, asks_in, closes_asked, seat_closes, IsCalm}
use Rattle.wc_turns.specs.Run.{closings, close_of_parting}
use Rattle.wc_turns.specs.Steps.{LosesLink}
use Rattle.wc_turns.specs.Served.{closed_by, leaving_closes, IsOfRead, LeavesForRead, LeavesAtRead}
use Rattle.wc_turns.specs.Turns.{AgreesOnLinks, AgreesWithSockets, moment, CausedBy, IsOfServer, HasCause, wake_count, listen_faults, closed_so_far, LoopStep, TakesHappening}
use Rattle.wc_turns.proofs.KeyedLemmas.{at_key-key, at_key-put_same, at_key-put_other, none_of, same-keys}
use Rattle.wc_turns.proofs.RunLemmas.{ReachesEvents-all}
use Rattle.wc_turns.proofs.PointLemmas.{AreAlone, seats-above, sides-kept, MomentAdvances-takes, asks_of-append}
use Rattle.wc_turns.proofs.ChangedLemmas.{changed, keeps-standing, at_key-changed, numbers-changed, SameTails-changed}
use Rattle.wc_turns.proofs.EndedLemmas.{ended-keeps}
use Rattle.wc_turns.proofs.ClosingLemmas.{IsOf, IsApart, parted, run-one, all-front}
use Rattle.wc_turns.proofs.ConnectionLemmas.{calm-leaving, closes-all, one-closes}
use Rattle.wc_turns.proofs.ServedLemmas.{MayRun-one}
use Rattle.wc_turns.proofs.CauseLemmas.{KeepsSides, Onward-none, uncome-as, reasons-more}
use Rattle.wc_turns.proofs.AgreesLemmas.{For-quiet, For-reached, For-stands, IsTimeless, KeepsRefused, IsUnstanding}
use Rattle.wc_turns.proofs.HeardLemmas.{quiet-happened, quiet-notput, socket-stays}
use Rattle.wc_turns.proofs.HeardAgrees.{Hears-quiet, Hears-states, SameReadings, reading_of, socket-heard}
use Rattle.wc_turns.proofs.SeatLemmas.{open-none, seats-all, calm-partings}
use Rattle.wc_turns.proofs.PartyLemmas.{among-come, party-used, clients-above, calm-clients, calm-seats}
use Rattle.wc_turns.proofs.StepLemmas.{SameSets}
use Rattle.wc_turns.proofs.TurnLemmas.{Call, LoopStep-step}
use Rattle.wc_turns.specs.Goes.{TakesEvent, LosesWhole, DoesWhole}

pub flag-put : (f : Option LinkState → Bool) (j k : ℕ) (t : Bool) → eqb k j ≡ t → (old new : LinkState) (states : List LinkState) → at_key link_number j states ≡ Some old → link_number new ≡ j → f (Some new) ≡ f (Some old) → f (at_key link_number k (put_at link_number j new states)) ≡ f (at_key link_number k states)
flag-put f j k true e old new states found key flag =
    let same : j ≡ k = grind (arith, nat_tests) in
    let before : at_key link_number k states ≡ Some old = subst (λ i. at_key link_number i states ≡ Some old) same found in
    let after : at_key link_number k (put_at link_number j new states) ≡ Some new = subst (λ i. at_key link_number i (put_at link_number j new states) ≡ Some new) same (at_key-put_same link_number j old new states key found) in
    rw (after, before) flag
flag-put f j k false e old new states found key flag = let other : k ≢ j = λ q. grind (arith, nat_tests) in ap f (at_key-put_other link_number j k new states key other)

-- how many events are reached
pub reached : (n m : ℕ) (all es others : List Event) → others ≡ [] → all ≡ es ++ others → m ≡ min (n + length es) (2 ^ 64 - 1) → m ≡ min (n + length all) (2 ^ 64 - 1)
reached n m all es others none front count = let e = ap length (front ∙ ap (λ xs. es ++ xs) none ∙ append-nil es) in omega arith

-- the link of a place goes on standing
pub read-stands : (states : List LinkState) (link place : ℕ) (old new : LinkState) → IsKeyPlace link_number link states place → old ≡ get_or states place old → new.link ≡ old.link → new.connecting ≡ old.connecting → is_connecting (at_key link_number link states) ≡ false → is_connecting (at_key link_number link (set states place new)) ≡ false
read-stands states link place old new p at key kind stands =
    let found : at_key link_number link states ≡ Some old = p.found old ∙ ap Some (sym at) in
    let number : link_number new ≡ link = ap (λ (l : LinkId). l.0) key ∙ at_key-key link_number link states old found in
    ap (λ ss. is_connecting (at_key link_number link ss)) (p.put new) ∙ flag-put is_connecting link link (eqb link link) refl old new states found number kind ∙ stands

-- the link of a place stands
pub standing-at : (states : List LinkState) (link place : ℕ) (old : LinkState) → IsKeyPlace link_number link states place → old ≡ get_or states place old → is_connecting (at_key link_number link states) ≡ false → old.connecting ≡ false
standing-at states link place old p at stands =
    let found : at_key link_number link states ≡ Some old = p.found old ∙ ap Some (sym at) in
    sym (ap is_connecting found) ∙ stands

-- the link of a client or of a server is lost
pub TakesHappening-lost : (x y : Headless) (h : Happening) (event : Event) → x.core.quits ≡ false → ((k : ℕ) → bytes_on k h ≡ []) → ((k : ℕ) → comes_on k h ≡ false) → IsTimeless h → KeepsRefused h → IsUnstanding h → ((history : List Heard) → happening_events history h ≡ event ∷ [])
    → y.turns ≡ x.turns → y.used ≡ x.used → y.listening ≡ x.listening → y.refused ≡ x.refused → y.unlisted ≡ x.unlisted → y.clock ≡ x.clock → y.links ≡ x.links → y.ran ≡ min (x.ran + 1) (2 ^ 64 - 1)
    → Does x.core y.core (λ state. step state event) → TakesEvent event x.core y.core → TakesHappening x y (Happened h)
TakesHappening-lost x y h event going quiet nobody timeless keeps unstanding events turns used listening refused unlisted clock links ran does whole = record {
  turns = turns;
  closed = ap (λ l. l.closed.items) links;
  used = used;
  listening = listening;
  refused = ap (λ r. r.items) refused;
  numbers = rw links refl;
  undrained = λ k. rw links refl;
  blocked = λ k. rw links refl;
  there = λ k. rw links refl;
  clients = (does (plain_beside x.core)).keeps.links;
  servers = (does (plain_beside x.core)).keeps.servers;
  ended = λ once h. rw links (ended-keeps x.links.opened.items x.core y.core (does (plain_beside x.core)).keeps h);
  idle = λ none. absurd (omega arith);
  told = λ taken unknown on s. rw (links, clock, used, refused, unlisted) (For-quiet x.clock x.links.opened.items x.used x.ran y.ran x.refused.items x.unlisted taken h 1 quiet timeless keeps unstanding (omega arith) (omega arith) s);
  hears = λ taken history spells unknown on s. rw (links, used) (Hears-quiet x.links.opened.items x.used x.used x.ran y.ran taken history (Happened h) spells (quiet-happened h quiet nobody) (omega arith) (let e = ap length (events history) in omega arith) s);
  sockets = λ taken history spells s k e. socket-stays k taken (h ∷ []) (socket-heard x.links.opened.items x.used x.ran taken history s k (rw links at e));
  ends = λ taken history spells s. tt;
  takes = λ taken history spells s. rw (events history) (record { events = event ∷ []; reaches = ReachesEvents-all x.core.quits y.core.quits x.ran y.ran (event ∷ []) going (λ fits. omega arith); takes = MayRun-one x.core y.core event does whole });
}

-- a message could not be put into a frame of a link
pub TakesHappening-broken : (x y : Headless) (link : LinkId) → x.core.quits ≡ false
    → y.turns ≡ x.turns → y.used ≡ x.used → y.listening ≡ x.listening → y.refused ≡ x.refused → y.unlisted ≡ x.unlisted → y.clock ≡ x.clock → y.links ≡ x.links → y.ran ≡ min (x.ran + 1) (2 ^ 64 - 1)
    → Does x.core y.core (λ state. step state (Breaks link.0)) → is_socket_at (at_key link_number link.0 x.links.opened.items) ≡ true → LosesWhole link.0 BadSocket x.core y.core → TakesHappening x y (NotPut link)
TakesHappening-broken x y link going turns used listening refused unlisted clock links ran does is whole = record {
  turns = turns;
  closed = ap (λ l. l.closed.items) links;
  used = used;
  listening = listening;
  refused = ap (λ r. r.items) refused;
  numbers = ap (λ l. map link_number l.opened.items) links;
  undrained = λ k. ap (λ l. is_undrained (at_key link_number k l.opened.items)) links;
  blocked = λ k. ap (λ l. is_blocked (at_key link_number k l.opened.items)) links;
  there = λ k. ap (λ l. is_there (at_key link_number k l.opened.items)) links;
  clients = (does (plain_beside x.core)).keeps.links;
  servers = (does (plain_beside x.core)).keeps.servers;
  ended = λ once h. rw links (ended-keeps x.links.opened.items x.core y.core (does (plain_beside x.core)).keeps h);
  idle = λ none. absurd (omega arith);
  told = λ taken unknown on s. rw (append-nil taken, links, clock, used, refused, unlisted) (For-reached x.clock x.links.opened.items x.used x.ran y.ran x.refused.items x.unlisted taken (λ z. omega arith) s);
  hears = λ taken history spells unknown on s. rw (links, used) (Hears-quiet x.links.opened.items x.used x.used x.ran y.ran taken history (NotPut link) spells (quiet-notput link) (omega arith) ran s);
  sockets = λ taken history spells s k e. socket-stays k taken [] (socket-heard x.links.opened.items x.used x.ran taken history s k (rw links at e));
  ends = λ taken history spells s. ap (socket_on link.0) spells ∙ socket-heard x.links.opened.items x.used x.ran taken history s link.0 is;
  takes = λ taken history spells s. record { events = Breaks link.0 ∷ []; reaches = ReachesEvents-all x.core.quits y.core.quits x.ran y.ran (Breaks link.0 ∷ []) going (λ fits. omega arith); takes = MayRun-one x.core y.core (Breaks link.0) does whole };
}

-- a connection stands
pub TakesHappening-stands : (x y : Headless) (link : LinkId) → x.core.quits ≡ false → IsConnecting link.0 x.links.opened.items → y.turns ≡ x.turns → y.used ≡ x.used → y.listening ≡ x.listening → y.refused ≡ x.refused → y.unlisted ≡ x.unlisted → y.clock ≡ x.clock → y.links.closed ≡ x.links.closed
    → y.links.opened.items ≡ changed_at link.0 standing_state x.links.opened.items (at_key link_number link.0 x.links.opened.items) → y.ran ≡ min (x.ran + 1) (2 ^ 64 - 1) → Does x.core y.core (λ state. step state (Stands link.0)) → DoesWhole None x.core y.core (λ state. step state (Stands link.0)) → TakesHappening x y (Happened (Connected link))
TakesHappening-stands x y link going connecting turns used listening refused unlisted clock closed opened ran does whole = record {
  turns = turns;
  closed = ap (λ v. v.items) closed;
  used = used;
  listening = listening;
  refused = ap (λ r. r.items) refused;
  numbers = rw opened (numbers-changed link.0 standing_state keeps-standing states);
  undrained = λ k. rw opened (flag-stands is_undrained (λ state. refl) k);
  blocked = λ k. rw opened (flag-stands is_blocked (λ state. refl) k);
  there = λ k. rw opened (flag-stands is_there (λ state. refl) k);
  clients = (does (plain_beside x.core)).keeps.links;
  servers = (does (plain_beside x.core)).keeps.servers;
  ended = λ once h. rw opened (ended-keeps (changed_at link.0 standing_state states (at_key link_number link.0 states)) x.core y.core (does (plain_beside x.core)).keeps (λ k e. h k (sym (flag-stands is_ended (λ state. refl) k) ∙ e)));
  idle = λ none. absurd (omega arith);
  told = λ taken unknown on s. rw (opened, clock, used, refused, unlisted) (For-stands x.clock states x.used x.ran y.ran x.refused.items x.unlisted taken link (within unknown (nat_le link.0 x.used) refl) ran s);
  hears = λ taken history spells unknown on s. rw (opened, used) (Hears-states states (changed_at link.0 standing_state states (at_key link_number link.0 states)) x.used y.ran (taken ++ Connected link ∷ []) (history ++ Happened (Connected link) ∷ []) (SameTails-changed link.0 standing_state keeps-standing states) readings
      (Hears-quiet states x.used x.used x.ran y.ran taken history (Happened (Connected link)) spells (quiet-happened (Connected link) (λ k. refl) (λ k. refl)) (omega arith) ran s));
  sockets = λ taken history spells s k e. socket-stays k taken (Connected link ∷ []) (socket-heard states x.used x.ran taken history s k (sym (flag-stands is_socket_at (λ state. refl) k) ∙ rw opened at e));
  ends = λ taken history spells s. tt;
  takes = λ taken history spells s. record { events = Stands link.0 ∷ []; reaches = ReachesEvents-all x.core.quits y.core.quits x.ran y.ran (Stands link.0 ∷ []) going (λ fits. omega arith); takes = MayRun-one x.core y.core (Stands link.0) does whole };
} where
  states : List LinkState
  states = x.links.opened.items

  flag-by : (f : Option LinkState → Bool) → ((state : LinkState) → f (Some (standing_state state)) ≡ f (Some state)) → (t : Bool) (o : Option LinkState) → f (changed t standing_state o) ≡ f o
  flag-by f same true None = refl
  flag-by f same true (Some state) = same state
  flag-by f same false o = refl

  flag-stands : (f : Option LinkState → Bool) → ((state : LinkState) → f (Some (standing_state state)) ≡ f (Some state)) → (k : ℕ) → f (at_key link_number k (changed_at link.0 standing_state states (at_key link_number link.0 states))) ≡ f (at_key link_number k states)
  flag-stands f same k = ap f (at_key-changed link.0 k standing_state keeps-standing states) ∙ flag-by f same (eqb k link.0) (at_key link_number k states)

  readings : SameReadings states (changed_at link.0 standing_state states (at_key link_number link.0 states))
  readings = λ k. inr (ap reading_of (at_key-changed link.0 k standing_state keeps-standing states) ∙ reading-by (eqb k link.0) (at_key link_number k states))
    where
      reading-by : (t : Bool) (o : Option LinkState) → reading_of (changed t standing_state o) ≡ reading_of o
      reading-by true None = refl
      reading-by true (Some state) = refl
      reading-by false o = refl

  -- a link that is kept has a used number
  within : ((k : ℕ) → x.used < k → at_key link_number k states ≡ None) → (t : Bool) → nat_le link.0 x.used ≡ t → link.0 ≤ x.used
  within unknown true e = grind (arith, nat_tests)
  within unknown false e =
      let above : x.used < link.0 = grind (arith, nat_tests) in
      absurd (false≢true (sym (ap is_connecting (unknown link.0 above)) ∙ connecting))

-- and no longer as one that does not stand
stood-by : (o : Option LinkState) → is_connecting (changed true standing_state o) ≡ false
stood-by None = refl
stood-by (Some state) = refl

pub stood-at : (link : ℕ) (states now : List LinkState) → now ≡ changed_at link standing_state states (at_key link_number link states) → is_connecting (at_key link_number link now) ≡ false
stood-at link states now e =
    let same : eqb link link ≡ true = grind (arith, nat_tests) in
    ap (λ ls. is_connecting (at_key link_number link ls)) e ∙ ap is_connecting (at_key-changed link link standing_state keeps-standing states) ∙ ap (λ t. is_connecting (changed t standing_state (at_key link_number link states))) same ∙ stood-by (at_key link_number link states)

pub some-events : (state : State) (events : List Event) → has_end (run state events).acts ≡ true → 0 < length events
some-events state [] e = absurd (false≢true e)
some-events state (event ∷ events) e = omega arith

pub end-by : (before after end : Bool) → before ≡ false → after ≡ (before || end) → after ≡ true → end ≡ true
end-by before after end going e over = sym (ap (λ b. b || end) going) ∙ sym e ∙ over

-- ---- what events of one link close

later-cause : (a b : Option Cause) → or_other a b ≡ None → b ≡ None
later-cause None b e = e
later-cause (Some cause) b e = absurd (let q : Some cause ≡ None = e in cc)

-- from no one that is leaving, events of one link close who is leaving after them, in order
closes-taken : (link : LinkId) (told : Beside) (a b : CoreView) (events : List Event) → IsCalm a → map connection_link b.connections ≡ map connection_link a.connections → Distinct (links_of a) → AreAlone b → AreSeats b.servers → a.servers.used ≤ 2 ^ 62 → AreInOrder a.servers
    → All (IsOf link.0) events → Follows told a b (run (state_of a told) events) → closings (run (state_of a told) events).acts ≡ closes_asked b
closes-taken link told a b events calm links distinct alone seats few order all did =
    let one = run-one link.0 (state_of a told) events all (apart (is_some (at_key connection_link link.0 a.connections)) refl) in
    one.one ∙ ap (λ cs. cs ++ closed_by link (close_of link.0 acts)) servers ∙ ap (λ cs. seat_closes b.servers.seats ++ cs) (clients one.others)
  where
    acts : List Act
    acts = (run (state_of a told) events).acts

    servers : parted acts ≡ seat_closes b.servers.seats
    servers = sym (ap (map close_of_parting) (did.parts few order ∙ ap (λ ps. ps ++ parts_in (outs_of acts)) (calm-partings a.servers.seats (calm-seats a calm))))

    now : (k : ℕ) → leaving_on k b.connections ≡ close_of k acts
    now k = did.leaving k ∙ ap (λ o. or_else o (close_of k acts)) (calm-leaving k a.connections (calm-clients a calm))

    clients : ((k : ℕ) → k ≢ link.0 → close_of k acts ≡ None) → closed_by link (close_of link.0 acts) ≡ leaving_closes b.connections
    clients others = ap (closed_by link) (sym (now link.0)) ∙ sym (one-closes link b.connections (subst Distinct (sym links) distinct) (λ k n. now k ∙ others k n))

    apart : (t : Bool) → is_some (at_key connection_link link.0 a.connections) ≡ t → IsApart link.0 (state_of a told) events
    apart false e = inl (client-missing link.0 a.connections (none_of (at_key connection_link link.0 a.connections) e))
    apart true e =
        let none : at_key seat_link link.0 b.servers.seats ≡ None = alone link.0 (same-keys connection_link link.0 b.connections a.connections links ∙ e) in
        inr (
          ap (λ (s : State). at_key server_link link.0 s.servers) did.means.same ∙ open-none link.0 b.servers.seats seats.apart (ap server_is_open_at none),
          later-cause (server_leaving_on link.0 a.servers.seats) (part_of link.0 (outs_of acts)) (sym (did.servers.leaving link.0) ∙ ap server_leaving_in none),
        )

-- where its events are those of a link that came, it is no arrival
pub none-arrives : (link : LinkId) (k : ℕ) (h : Happening) → All (IsOf link.0) (happening_events [] h) → has_come k (h ∷ []) ≡ false
none-arrives link k (Accepted other nonce) of = absurd (All-head (IsOf link.0) (Arrives other.0 nonce) [] of)
none-arrives link k (Woke moment) of = refl
none-arrives link k (Read other bytes) of = refl
none-arrives link k (Ended other) of = refl
none-arrives link k (Failed other) of = refl
none-arrives link k (Connected other) of = refl
none-arrives link k (Refused other) of = refl
none-arrives link k ListenFailed of = refl

-- The sockets gave a happening of a link, at which its client or servers may begin to leave, and
-- others for want of memory. What its events close, in order, is what is then to be closed.
pub LoopStep-takes : (x y : Headless) (link : LinkId) (a b : Seen) (h : Heard) (n : ℕ) → wake_count (happened h) ≡ 0 → listen_faults (happened h) ≡ n → Call a b (happened h) → (IsTrue b.tells → (k : ℕ) → b.sent k ≡ a.sent k) → (IsTrue b.tells → (k : ℕ) → b.choked k ≡ a.choked k) → (IsTrue b.tells → b.asked ≡ a.asked)
    → SameSets a b → IsCalm x.core → x.core.quits ≡ false → TakesHappening x y h → x.core.starved ≤ y.core.starved → ((history : List Heard) → All (IsOf link.0) (events_of history h)) → ((k : ℕ) → has_come k (happened h) ≡ false)
    → (AgreesWithSockets x a → All (HasCause x y a b) (closes_asked y.core)) → KeepsSaved x.core y.core
    → LoopStep true 0 n x y a b
LoopStep-takes x y link a b h n wake faults call sent choked asked same calm going takes rises of nobody causes saves =
    let grows : closed_so_far y ≡ closed_so_far x ++ closes_asked y.core = ap (λ xs. xs ++ closes_asked y.core) (takes.closed ∙ sym (ap (λ cs. x.links.closed.items ++ cs) calm.parted ∙ append-nil x.links.closed.items)) in
    LoopStep-step true 0 n x y a b (happened h) (h ∷ []) (closes_asked y.core) (append-nil (happened h)) call (λ below. (let e = takes.turns in omega arith)) wake faults
    rises (λ t s unstarved below. grows) (λ s. reasons-more x y a b (closes_asked y.core) grows (causes s)) (λ s. sides-kept x.core y.core takes.servers) (λ s. Onward-none x.core y.core (happened h) (let r = takes.servers.reached in omega arith) nobody)
    (λ over. absurd (false≢true (sym going ∙ over))) (λ t s. saves)
    (λ s. rw (takes.used, takes.listening, takes.refused) (among s))
    (λ t s on. takes.told a.taken s.among.unknown on (s.told (call.told t) going))
    (λ t s on. takes.hears a.taken s.history (s.spells (call.told t)) s.among.unknown on (s.hears (call.told t) going))
    (λ t s. takes.sockets a.taken s.history (s.spells (call.told t)) (s.hears (call.told t) going))
    (λ s none. takes.idle none ∙ calm.asked)
    (λ t s.
    let m = takes.takes a.taken s.history (s.spells (call.told t)) (s.hears (call.told t) going) in
    let later = among s.among in
    let one : All (IsOf link.0) m.events = all-front (IsOf link.0) m.events m.reaches.rest (subst (All (IsOf link.0)) m.reaches.front (of s.history)) in
    record {
      events = m.events;
      reaches = rw (append-nil (events_of s.history h)) m.reaches;
      rises = m.takes.keeps.rises;
      verdicts = m.takes.keeps.verdicts;
      goes = m.takes.goes;
      advances = λ fed below rows were agrees.
          let did = m.takes.does fed below s.among.once rows were agrees in
          let acts = (run (state_of x.core rows) m.events).acts in
          MomentAdvances-takes rows (moment x a) (moment y b) (closes_asked y.core) m.events did takes.clients takes.used takes.servers later.seats (clients-above x.links.opened.items x.core x.used x.listening x.refused.items a s.among)
          (λ k used. party-used k x.links.opened.items y.links.opened.items x.core y.core x.used x.listening x.refused.items a used takes.clients takes.servers s.among) s.among.alone later.alone (sent t) (choked t)
          (rw (asked t, did.servers.wanted) (ap (λ xs. a.asked ++ xs) (asks_of-append x.core.servers.wanted (wanted_in (outs_of acts))) ∙ sym (append_assoc a.asked (asks_of x.core.servers.wanted) (asks_in acts))))
          (happened h) (call.taken t) (closes-taken link rows x.core y.core m.events calm takes.clients s.among.once later.alone later.seats s.among.limited s.among.order one did) (m.takes.stops fed below s.among.once rows were agrees);
      silent = λ over. absurd (false≢true (sym going ∙ over));
      ends = (takes.ends a.taken s.history (s.spells (call.told t)) (s.hears (call.told t) going), tt);
      last = λ fed below rows were agrees on over.
          let did = m.takes.does fed below s.among.once rows were agrees in
          record {
            front = [];
            heard = h;
            back = [];
            same = refl;
            within = some-events (state_of x.core rows) m.events (end-by x.core.quits y.core.quits (has_end (run (state_of x.core rows) m.events).acts) going did.quits over);
            silent = refl;
          };
    })
  where
    among : AgreesOnLinks x.links.opened.items x.core x.used x.listening x.refused.items a → AgreesOnLinks y.links.opened.items y.core x.used x.listening x.refused.items b
    among s = among-come x.links.opened.items y.links.opened.items x.core y.core x.used x.listening x.refused.items a b takes.numbers takes.undrained takes.blocked takes.there takes.clients takes.servers (takes.ended s.once) same s

-- ---- causes

-- bytes were read of a link, which is a WebSocket where they are said to be
read-caused : (socket : Bool) (link : LinkId) (other : ℕ) (bytes : List ℕ) (why : Cause) (a b : Seen) → IsOfRead socket link.0 other why → (IsTrue b.tells → b.taken ≡ a.taken ++ Read link bytes ∷ []) → (socket ≡ true → IsTrue b.tells → socket_on link.0 b.taken ≡ true) → CausedBy why other a b
read-caused socket link other bytes LoginFailed a b p e is = rw p (λ t. (bytes, record { front = []; rest = []; taken = e t }))
read-caused socket link other bytes Quit a b p e is = rw p (λ t. (bytes, record { front = []; rest = []; taken = e t }))
read-caused socket link other bytes NoMemory a b p e is = tt
read-caused socket link other bytes Surplus a b p e is = absurd p
read-caused socket link other bytes CauseEnded a b p e is = rw p.0 (λ t. inr (record { bytes = bytes; gained = record { front = []; rest = []; taken = e t }; socket = is p.1 t }))
read-caused socket link other bytes BadSocket a b p e is = rw p.0 (λ t. is p.1 t)
read-caused socket link other bytes CauseFailed a b p e is = absurd p
read-caused socket link other bytes Disconnected a b p e is = absurd p
read-caused socket link other bytes NickTaken a b p e is = absurd p

began : (socket : Bool) (link other : ℕ) (before after : Option Cause) (why : Cause) → before ≡ None → after ≡ Some why → LeavesForRead socket link other before after → IsOfRead socket link other why
began socket link other None None why e f h = absurd (let q : None ≡ Some why = f in cc)
began socket link other None (Some c) why e f h = let same : c ≡ why = (let q : Some c ≡ Some why = f in cc) in subst (IsOfRead socket link other) same h
began socket link other (Some c) after why e f h = absurd (let q : Some c ≡ None = e in cc)

there-leaving : (o : Option SeatView) (why : Cause) → server_leaving_in o ≡ Some why → is_some o ≡ true
there-leaving None why e = absurd (let q : None ≡ Some why = e in cc)
there-leaving (Some seat) why e = refl

-- the number of a server that is leaving is drawn
pub leaving-drawn : (core : CoreView) (k : ℕ) (why : Cause) → AreSeats core.servers → server_leaving_on k core.servers.seats ≡ Some why → k ≤ core.servers.used
leaving-drawn core k why seats leaves = drawn-by (nat_le k core.servers.used) refl
  where
    drawn-by : (t : Bool) → nat_le k core.servers.used ≡ t → k ≤ core.servers.used
    drawn-by true e = grind (arith, nat_tests)
    drawn-by false e =
        let above : core.servers.used < k = grind (arith, nat_tests) in
        absurd (let missing : None ≡ Some why = sym (ap server_leaving_in (seats-above core k seats above)) ∙ leaves in cc)

-- a server that is leaving after a happening that is no arrival
pub is-of-server : (x y : Headless) (a b : Seen) (k : ℕ) (why : Cause) (given : List Happening) → AreSeats y.core.servers → KeepsSides x.core y.core → (IsTrue b.tells → b.taken ≡ a.taken ++ given) → has_come k given ≡ false → server_leaving_on k y.core.servers.seats ≡ Some why
    → IsOfServer x y a b (record { link = record { 0 = k }; cause = why })
is-of-server x y a b k why given seats sides taken none leaves = record {
  side = sides k (inl (there-leaving (at_key seat_link k y.core.servers.seats) why leaves));
  drawn = leaving-drawn y.core k why seats leaves;
  uncome = uncome-as k a b given taken none;
}

-- what is to be closed of clients has its cause
pub causes-all : (x y : Headless) (a b : Seen) (given : List Happening) → Distinct (links_of y.core) → AreSeats y.core.servers → KeepsSides x.core y.core → (IsTrue b.tells → b.taken ≡ a.taken ++ given) → ((k : ℕ) → has_come k given ≡ false) → ((k : ℕ) (why : Cause) → leaving_on k y.core.connections ≡ Some why → CausedBy why k a b)
    → All (HasCause x y a b) (closes_asked y.core)
causes-all x y a b given distinct seats sides taken none clients =
    All-append (HasCause x y a b) (seat_closes y.core.servers.seats) (leaving_closes y.core.connections)
    (seats-all (λ k why. HasCause x y a b (record { link = record { 0 = k }; cause = why })) y.core.servers.seats seats.apart (λ k why leaves. inr (is-of-server x y a b k why given seats sides taken (none k) leaves)))
    (closes-all (λ k why. HasCause x y a b (record { link = record { 0 = k }; cause = why })) y.core.connections distinct (λ k why leaves. inl (clients k why leaves)))

-- what is to be closed after a read has its cause in it
pub causes-read : (socket : Bool) (link : LinkId) (bytes : List ℕ) (x y : Headless) (a b : Seen) → IsCalm x.core → LeavesAtRead socket link.0 x.core y.core → (IsTrue b.tells → b.taken ≡ a.taken ++ Read link bytes ∷ []) → (socket ≡ true → IsTrue b.tells → socket_on link.0 b.taken ≡ true) → Distinct (links_of x.core) → AreSeats y.core.servers → KeepsSides x.core y.core
    → All (HasCause x y a b) (closes_asked y.core)
causes-read socket link bytes x y a b calm h e is distinct seats sides =
    causes-all x y a b (Read link bytes ∷ []) (subst Distinct (sym h.links) distinct) seats sides e (λ k. refl)
    (λ k why leaves. read-caused socket link k bytes why a b (began socket link.0 k (leaving_on k x.core.connections) (leaving_on k y.core.connections) why (calm-leaving k x.core.connections (calm-clients x.core calm)) leaves (h.leaving distinct k)) e is)

no-memory : (a b : Seen) (k : ℕ) (before after : Option Cause) (why : Cause) → before ≡ None → after ≡ Some why → StaysOrStarves before after → CausedBy why k a b
no-memory a b k before after why none some (inl e) = absurd (let q : None ≡ Some why = sym none ∙ sym e ∙ some in cc)
no-memory a b k before after why none some (inr e) = let same : NoMemory ≡ why = (let q : Some NoMemory ≡ Some why = sym e ∙ some in cc) in subst (λ c. CausedBy c k a b) same tt

-- where clients leave for want of memory alone
pub causes-stands : (x y : Headless) (a b : Seen) (given : List Happening) → IsCalm x.core → links_of y.core ≡ links_of x.core → Distinct (links_of x.core) → AreSeats y.core.servers → KeepsSides x.core y.core → (IsTrue b.tells → b.taken ≡ a.taken ++ given) → ((k : ℕ) → has_come k given ≡ false)
    → ((k : ℕ) → StaysOrStarves (leaving_on k x.core.connections) (leaving_on k y.core.connections)) → All (HasCause x y a b) (closes_asked y.core)
causes-stands x y a b given calm links distinct seats sides taken none stays =
    causes-all x y a b given (subst Distinct (sym links) distinct) seats sides taken none
    (λ k why leaves. no-memory a b k (leaving_on k x.core.connections) (leaving_on k y.core.connections) why (calm-leaving k x.core.connections (calm-clients x.core calm)) leaves (stays k))

same-cause : (o : Option Cause) (cause why : Cause) → o ≡ Some cause → o ≡ Some why → cause ≡ why
same-cause o cause why e f = let q : Some cause ≡ Some why = sym e ∙ f in cc

-- what is to be closed after a link was lost
pub causes-lost : (link : LinkId) (cause : Cause) (x y : Headless) (a b : Seen) (given : List Happening) → IsCalm x.core → LosesLink link.0 cause x.core y.core → Distinct (links_of x.core) → AreSeats y.core.servers → KeepsSides x.core y.core → (IsTrue b.tells → b.taken ≡ a.taken ++ given) → ((k : ℕ) → has_come k given ≡ false) → CausedBy cause link.0 a b
    → All (HasCause x y a b) (closes_asked y.core)
causes-lost link cause x y a b given calm h distinct seats sides taken none caused =
    causes-all x y a b given (subst Distinct (sym h.keeps.links) distinct) seats sides taken none (λ k why leaves. client-by k why leaves (eqb k link.0) refl)
  where
    before : (k : ℕ) → leaving_on k x.core.connections ≡ None
    before k = calm-leaving k x.core.connections (calm-clients x.core calm)

    own-by : (why : Cause) → leaving_on link.0 y.core.connections ≡ Some why → (leaving_on link.0 y.core.connections ≡ None) ⊎ ((leaving_on link.0 y.core.connections ≡ Some cause) ⊎ (leaving_on link.0 y.core.connections ≡ Some NoMemory)) → CausedBy why link.0 a b
    own-by why leaves (inl none) = absurd (let q : None ≡ Some why = sym none ∙ leaves in cc)
    own-by why leaves (inr (inl left)) = subst (λ c. CausedBy c link.0 a b) (same-cause (leaving_on link.0 y.core.connections) cause why left leaves) caused
    own-by why leaves (inr (inr starves)) = subst (λ c. CausedBy c link.0 a b) (same-cause (leaving_on link.0 y.core.connections) NoMemory why starves leaves) tt

    client-by : (k : ℕ) (why : Cause) → leaving_on k y.core.connections ≡ Some why → (t : Bool) → eqb k link.0 ≡ t → CausedBy why k a b
    client-by k why leaves true e =
        let same : k ≡ link.0 = grind (arith, nat_tests) in
        subst (λ n. CausedBy why n a b) (sym same) (own-by why (ap (λ n. leaving_on n y.core.connections) (sym same) ∙ leaves) (h.leaves distinct (before link.0)))
    client-by k why leaves false e =
        let other : k ≢ link.0 = λ q. grind (arith, nat_tests) in
        no-memory a b k (leaving_on k x.core.connections) (leaving_on k y.core.connections) why (before k) leaves (h.causes distinct k other)

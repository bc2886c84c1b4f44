-- What a whole run hands to its clients and its servers.
use Rattle.std.proofs.Common.{◌≡◌, ℕ, ◌≤◌, List, [], ◌∷◌, ◌++◌, IsTrue, Bool, true, false, cond, eqb, nat_le, not, ◌&&◌, ◌||◌, inl, refl, sym, ap, ◌∙◌, subst, arith, Option, Some, None, IfSome, is_some, is_none, option_map}
use Rattle.std.proofs.lemmas.Bool.{false≢true}
use Rattle.std.proofs.lemmas.Bool.Decides.{nat_tests}
use Rattle.std.proofs.lemmas.List.{append-nil}
use Rattle.wc_text.specs.declared.names.LinkId.{LinkId}
use Rattle.wc_text.specs.declared.names.Cause.{Cause}
use Rattle.wc_outside.specs.Seen.{Seen, IsNew}
use Rattle.wc_outside.specs.Keyed.{at_key}
use Rattle.wc_outside.specs.declared.happening.Asked.{Asked}
use Rattle.wc_outside.specs.declared.happening.Asked.TheVariants.{Listen}
use Rattle.wc_session.specs.declared.client.Client.{Client}
use Rattle.wc_board.specs.declared.connection.Connection.{Connection}
use Rattle.wc_core.specs.CoreView.{CoreView}
use Rattle.wc_core.specs.Events.{Event}
use Rattle.wc_core.specs.State.{State, Act, Sends, Closes, Serves, Quits, first_state, has_end}
use Rattle.wc_core.specs.Limits.{most_lines}
use Rattle.wc_options.specs.Options.{OptionsValue}
use Rattle.wc_core.specs.Step.{client_link, run}
use Rattle.wc_core.specs.State.{Beside, beside}
use Rattle.wc_board.specs.Connections.{connection_link, unsent_on as client_unsent_on, unsent_in as client_unsent_in}
use Rattle.wc_servers.specs.declared.wanted.Wanted.{Wanted}
use Rattle.wc_servers.specs.Outs.{lines_by, lines_to}
use Rattle.wc_servers.specs.Seats.{SeatView, ServersView, server_link, seat_link, seat_of, open_of, open_if, open_in, leaving_in, unsent_in, unsent_on as server_unsent_on, links_of, AreApart}
use Rattle.wc_servers.proofs.OutLemmas.{open-at}
use Rattle.wc_core.specs.ServersKept.{is_wanted}
use Rattle.wc_core.specs.Served.{clients_of, state_of, Means, WereTold, sent_by, sent_to, outs_of}
use Rattle.wc_turns.specs.declared.headless.Headless.{Headless}
use Rattle.wc_turns.specs.declared.links.Closed.{Closed}
use Rattle.wc_loop.specs.Endings.{kept_of}
use Rattle.wc_framing.specs.Opening.{begins}
use Rattle.std.specs.List.{flat_map}
use Rattle.wc_turns.specs.Events.{bytes_on, has_come, socket_on, events_from}
use Rattle.wc_turns.specs.Heard.{Heard}
use Rattle.wc_turns.specs.Hands.{IsFrontOf}
use Rattle.wc_turns.specs.Links.{link_number}
use Rattle.wc_turns.specs.Parties.{has_party, unsent_on, owed_to, asks_of, asks_in, seat_closes, IsCalm}
use Rattle.wc_loop.specs.Headline.{state_before, held_if, HandsOut, Headline, IsConfigured, IsFirst, NothingTaken, has_party_in, TakesEach}
use Rattle.wc_loop.specs.Words.{Opening}
use Rattle.wc_turns.specs.Served.{ReachesEvents, NobodyLeaving, closed_by, leaving_closes}
use Rattle.wc_turns.proofs.RunLemmas.{up_to_quit-front}
use Rattle.wc_turns.proofs.SeatCloses.{calm-seat}
use Rattle.wc_turns.specs.Turns.{AgreesWithSockets, LoopStep, moment, point, QuitsWithin, EndsEach}
use Rattle.wc_eval.specs.Verdicts.{Oracle, Agrees}

pub AgreesWithSockets-first : (first : Headless) (seen : Seen) → IsFirst first → NothingTaken seen → AgreesWithSockets first seen
AgreesWithSockets-first first seen f new = record {
  history = [];
  spells = λ t. sym (new.taken t);
  among = rw (f.connections, f.links, f.used, f.listening, f.refused, f.servers) (record {
    counted = sym new.used;
    there = new.there;
    undrained = new.undrained;
    blocked = new.blocked;
    listens = new.listening;
    parties = λ k. refl;
    ended = λ k over. refl;
    alone = λ k there. refl;
    once = tt;
    seats = record { apart = tt; used = tt };
    order = record { ranked = tt; counted = omega arith };
    apart = tt;
    unknown = λ k below. refl;
    clients = λ k below. refl;
    unrefused = λ k below. refl;
    spared = λ k refused. refl;
    next = tt;
    reached = refl;
    limited = omega arith;
  });
  told = λ t on. rw (f.clock, f.links, f.used, f.ran, f.refused, f.unlisted, new.taken t) (record {
    clock = refl;
    fresh = λ k below. refl;
    unmade = λ k below. refl;
    stood = λ k. tt;
    unread = λ k connecting. refl;
    since = tt;
    counted = refl;
    within = omega arith;
    silent = λ none. refl;
    empty = λ none k. refl;
  });
  hears = λ t on. rw (f.links, f.used, f.ran, new.taken t) (record { tails = λ k. tt; framed = λ k. tt; came = λ k. tt; uncome = λ k below. refl; unframed = λ k below. refl; events = refl });
  sockets = λ t k e. absurd (false≢true (rw f.links at e));
  idle = λ none. ap (λ (s : ServersView). s.wanted) f.servers;
}

-- nobody is there, so nobody is leaving
pub calm-first : (first : Headless) → IsFirst first → IsCalm first.core
calm-first first f = record {
  parted = ap (λ l. seat_closes first.core.servers.seats ++ leaving_closes l) f.connections ∙ ap (λ (s : ServersView). seat_closes s.seats ++ []) f.servers;
  asked = ap (λ (s : ServersView). s.wanted) f.servers;
}

-- ---- servers that are held back

pub first-held : (holds : Bool) (h : Headless) → IsFirst h → IsFirst (held_if holds h)
first-held true h f = record {
  connections = f.connections;
  starved = f.starved;
  quits = f.quits;
  links = f.links;
  clock = f.clock;
  used = f.used;
  listening = f.listening;
  turns = f.turns;
  ran = f.ran;
  closed = f.closed;
  saved = f.saved;
  unwritten = f.unwritten;
  refused = f.refused;
  unlisted = f.unlisted;
  servers = f.servers;
}
first-held false h f = f

pub means-held : (oracle : Oracle) (holds : Bool) (h : Headless) (options : OptionsValue) (commands : List (List ℕ)) → Means h.core (first_state oracle options (most_lines options) commands) → Means (held_if holds h).core (state_before oracle options (record { commands = commands; holds = holds }))
means-held oracle true h options commands m = record { same = ap (λ (s : State). record s { connects = false }) m.same; told = m.told }
means-held oracle false h options commands m = m

-- ---- the clients of connections of which none is leaving, and the servers of seats

empty_parts : {X : Type 0} (a b : List X) → a ++ b ≡ [] → (a ≡ []) × (b ≡ [])
empty_parts [] b e = (refl, e)
empty_parts (x ∷ a) b e = absurd (let q : x ∷ (a ++ b) ≡ [] = e in cc)

calm-parts : (link : LinkId) (why : Option Cause) (others : List Closed) → closed_by link why ++ others ≡ [] → (why ≡ None) × (others ≡ [])
calm-parts link None others e = (refl, e)
calm-parts link (Some cause) others e = absurd (let q : record { link = link; cause = cause } ∷ others ≡ [] = e in cc)

client-at : (connection : Connection) (t : Bool) (o : Option Client) (o' : Option Connection) → o ≡ option_map (λ s. s.session.client) o' → cond t (Some connection.session.client) o ≡ option_map (λ s. s.session.client) (cond t (Some connection) o')
client-at connection true o o' e = refl
client-at connection false o o' e = e

at_key-clients : (k : ℕ) (connections : List Connection) → NobodyLeaving connections → at_key client_link k (clients_of connections) ≡ option_map (λ s. s.session.client) (at_key connection_link k connections)
at_key-clients k [] calm = refl
at_key-clients k (connection ∷ connections) calm =
    let parts = calm-parts connection.session.client.link connection.leaving (leaving_closes connections) calm in
    ap (λ why. at_key client_link k (cond (is_none why) (connection.session.client ∷ clients_of connections) (clients_of connections))) parts.0 ∙ client-at connection (eqb (connection_link connection) k) (at_key client_link k (clients_of connections)) (at_key connection_link k connections) (at_key-clients k connections parts.1)

open-calm : (o : Option SeatView) → leaving_in o ≡ None → open_in o ≡ option_map seat_of o
open-calm None calm = refl
open-calm (Some seat) calm = ap (λ why. open_if (is_none why) seat) calm

at_key-servers : (k : ℕ) (seats : List SeatView) → AreApart (links_of seats) → seat_closes seats ≡ [] → at_key server_link k (open_of seats) ≡ option_map seat_of (at_key seat_link k seats)
at_key-servers k seats apart calm = open-at k seats apart ∙ open-calm (at_key seat_link k seats) (calm-seat k seats calm)

some-same : {X Y : Type 0} (f : X → Y) (o : Option X) → is_some (option_map f o) ≡ is_some o
some-same f None = refl
some-same f (Some s) = refl

some-there : {X Y : Type 0} (f : X → Y) (o : Option X) (y : Y) → option_map f o ≡ Some y → is_some o ≡ true
some-there f None y e = cc
some-there f (Some s) y e = refl

-- who is at a link of the core is at that link of the state
party-seen : (k : ℕ) (core : CoreView) (told : Beside) → AreApart (links_of core.servers.seats) → IsCalm core → has_party k core ≡ has_party_in k (state_of core told)
party-seen k core told apart calm =
    let parts = empty_parts (seat_closes core.servers.seats) (leaving_closes core.connections) calm.parted in
    let clients : is_some (at_key client_link k (clients_of core.connections)) ≡ is_some (at_key connection_link k core.connections) = ap is_some (at_key-clients k core.connections parts.1) ∙ some-same _ _ in
    let servers : is_some (at_key server_link k (open_of core.servers.seats)) ≡ is_some (at_key seat_link k core.servers.seats) = ap is_some (at_key-servers k core.servers.seats apart parts.0) ∙ some-same _ _ in
    sym (ap (λ b. b || is_some (at_key server_link k (open_of core.servers.seats))) clients ∙ ap (λ b. is_some (at_key connection_link k core.connections) || b) servers)

-- ---- what is owed is for the client of a link, or for its server

owed-clients : (k : ℕ) (acts : List Act) → lines_to k (outs_of acts) ≡ [] → owed_to k acts ≡ sent_to k acts
owed-clients k [] none = refl
owed-clients k (Sends to m ∷ acts) none = ap (λ t. sent_by k (Sends to m) ++ t) (owed-clients k acts none)
owed-clients k (Closes to cause ∷ acts) none = owed-clients k acts none
owed-clients k (Serves out ∷ acts) none =
    let parts = empty_parts (lines_by k out) (lines_to k (outs_of acts)) none in
    ap (λ t. t ++ owed_to k acts) parts.0 ∙ owed-clients k acts parts.1
owed-clients k (Quits ∷ acts) none = owed-clients k acts none

owed-servers : (k : ℕ) (acts : List Act) → sent_to k acts ≡ [] → owed_to k acts ≡ lines_to k (outs_of acts)
owed-servers k [] none = refl
owed-servers k (Sends to m ∷ acts) none =
    let parts = empty_parts (sent_by k (Sends to m)) (sent_to k acts) none in
    ap (λ t. t ++ owed_to k acts) parts.0 ∙ owed-servers k acts parts.1
owed-servers k (Closes to cause ∷ acts) none = owed-servers k acts none
owed-servers k (Serves out ∷ acts) none = ap (λ t. lines_by k out ++ t) (owed-servers k acts none)
owed-servers k (Quits ∷ acts) none = owed-servers k acts none

-- no link has both
no-client : (k : ℕ) (core : CoreView) → (is_some (at_key connection_link k core.connections) ≡ true → at_key seat_link k core.servers.seats ≡ None) → is_some (at_key seat_link k core.servers.seats) ≡ true → at_key connection_link k core.connections ≡ None
no-client k core alone some = by (at_key connection_link k core.connections) refl where
  by : (o : Option Connection) → at_key connection_link k core.connections ≡ o → o ≡ None
  by None at = refl
  by (Some c) at = absurd (false≢true (sym (ap is_some (alone (ap is_some at))) ∙ some))

-- ---- numbers of links

zero-below : (k : ℕ) → 1 ≤ k → nat_le k 0 ≡ false
zero-below k one = grind (arith, nat_tests)

or-no : (b : Bool) → (b || false) ≡ b
or-no true = refl
or-no false = refl

or-yes : (b : Bool) → (b || true) ≡ true
or-yes true = refl
or-yes false = refl

and-no : (b : Bool) → (b && false) ≡ false
and-no true = refl
and-no false = refl

first-gone : (k used : ℕ) (b : Bool) → used ≡ 0 → 1 ≤ k → (nat_le k used && b) ≡ false
first-gone k used b none one = rw (none, zero-below k one) refl

not-gone : (k used : ℕ) (b : Bool) → b ≡ true → (nat_le k used && not b) ≡ false
not-gone k used b there = ap (λ b. nat_le k used && not b) there ∙ and-no _

reaches-from : (q q' : Bool) (n m : ℕ) (past heard all : List Heard) (events : List Event) → q ≡ false → n ≡ 0 → past ≡ [] → heard ≡ all → ReachesEvents q q' n m (events_from past heard) events → ReachesEvents false q' 0 m (events_from [] all) events
reaches-from q q' n m past heard all events quits none nothing same h = rw (quits, none, nothing, same) at h

-- no client came on the link of a server
no-come : (t : Bool) → (t ≡ true → ⊥) → t ≡ false
no-come true f = absurd (f refl)
no-come false f = refl

-- a loop that began with nothing, after the listener was asked for
pub HandsOut-run : {n f : ℕ} (first last : Headless) (a b : Seen) (port : ℕ) → LoopStep false n f first last a b → IsFirst first → NothingTaken a → (IsTrue a.tells → a.asked ≡ Listen port ∷ []) → IsCalm last.core → IsTrue b.tells → last.core.starved ≡ 0 → (told : Beside) → WereTold first.core told → Agrees told.oracle last.core.verdicts
    → HandsOut (state_of first.core told) b last
unfolding AgreesWithSockets-first
HandsOut-run first last a b port h f new listened calm t fed rows were judged =
    let told = h.told t in
    let agrees = AgreesWithSockets-first first a f new in
    let after = h.agrees agrees in
    let gained : h.gained ≡ b.taken = sym (h.taken t ∙ ap (λ taken. taken ++ h.gained) (new.taken told)) in
    let start : agrees.history ≡ [] = refl in
    let all : h.heard ≡ after.history = sym (h.adds agrees ∙ ap (λ past. past ++ h.heard) start) in
    let goes = h.goes t agrees in
    let acts = (run (state_of first.core rows) goes.events).acts in
    let advances = goes.advances (fed ∙ sym f.starved) (omega (arith, f.starved)) rows were judged in
    let same = sym advances.means.same in
    let rows' = (beside (run (state_of first.core rows) goes.events).state) in
    let parts = empty_parts (seat_closes last.core.servers.seats) (leaving_closes last.core.connections) calm.parted in
    let none : (k : ℕ) → a.sent k ++ unsent_on k first.core ≡ [] = λ k. ap (λ s. s ++ unsent_on k first.core) (new.sent told k) ∙ ap (λ l. client_unsent_on k l ++ server_unsent_on k first.core.servers.seats) f.connections ∙ ap (λ (s : ServersView). server_unsent_on k s.seats) f.servers in
    let reaches = reaches-from _ _ _ _ agrees.history h.heard after.history _ f.quits f.ran start all goes.reaches in
    let quits : last.core.quits ≡ has_end acts = advances.quits ∙ ap (λ q. q || has_end acts) f.quits in
    record {
      history = after.history;
      spells = after.spells t;
      sockets = subst (λ past. EndsEach past after.history) start (subst (λ more. EndsEach agrees.history more) all goes.ends);
      events = goes.events;
      reaches = reaches;
      ends = up_to_quit-front (state_of first.core rows) (events_from [] after.history) goes.events reaches.rest reaches.front advances.stops (λ none. reaches.whole (quits ∙ none));
      silent = λ over.
          let within = goes.last (fed ∙ sym f.starved) (omega (arith, f.starved)) rows were judged f.quits over in
          subst (λ past. QuitsWithin past after.history goes.events) start (subst (λ more. QuitsWithin agrees.history more goes.events) all within);
      means = advances.means;
      quits = quits;
      links = λ k.
          sym (or-no _) ∙ sym (ap (λ (w : List Wanted). is_some (at_key link_number k last.links.opened.items) || is_wanted k w) calm.asked) ∙ sym (after.among.parties k)
          ∙ party-seen k last.core rows' after.among.seats.apart calm ∙ ap (has_party_in k) same;
      opened = λ k client one plain there.
          let here : option_map (λ s. s.session.client) (at_key connection_link k last.core.connections) ≡ Some client = sym (at_key-clients k last.core.connections parts.1) ∙ ap (λ (s : State). at_key client_link k s.clients) same ∙ there in
          let some : is_some (at_key connection_link k last.core.connections) ≡ true = some-there _ _ client here in
          let stays : (point k (moment last b)).gone ≡ false = not-gone k last.used _ (ap (λ q. q || is_some (at_key seat_link k last.core.servers.seats)) some) in
          let bare : unsent_on k last.core ≡ client_unsent_on k last.core.connections = ap (λ o. client_unsent_on k last.core.connections ++ unsent_in o) (after.among.alone k some) ∙ append-nil _ in
          sym (ap (λ u. b.sent k ++ u) bare) ∙ (advances.hands k plain).stays stays ∙ ap (λ bytes. bytes ++ owed_to k acts) (none k) ∙ owed-clients k acts (advances.sides.clients k (inl some)).1;
      served = λ k seat one there.
          let here : option_map seat_of (at_key seat_link k last.core.servers.seats) ≡ Some seat = sym (at_key-servers k last.core.servers.seats after.among.seats.apart parts.0) ∙ ap (λ (s : State). at_key server_link k s.servers) same ∙ there in
          let some : is_some (at_key seat_link k last.core.servers.seats) ≡ true = some-there _ _ seat here in
          let stays : (point k (moment last b)).gone ≡ false = not-gone k last.used _ (ap (λ q. is_some (at_key connection_link k last.core.connections) || q) some ∙ or-yes _) in
          let nobody : has_come k b.taken ≡ false = ap (has_come k) (sym gained) ∙ no-come (has_come k h.gained) (λ came. (h.comes agrees k came).1 (inl some)) in
          let plain : socket_on k b.taken ≡ false = ap (λ t. t && begins (flat_map (bytes_on k) b.taken)) nobody in
          let bare : unsent_on k last.core ≡ server_unsent_on k last.core.servers.seats = ap (λ o. client_unsent_in o ++ server_unsent_on k last.core.servers.seats) (no-client k last.core (after.among.alone k) some) in
          sym (ap (λ u. b.sent k ++ u) bare) ∙ (advances.hands k plain).stays stays ∙ ap (λ bytes. bytes ++ owed_to k acts) (none k) ∙ owed-servers k acts (advances.sides.servers k (inl some)).1;
      closed = λ k one used plain missing.
          let gone' : has_party k last.core ≡ false = party-seen k last.core rows' after.among.seats.apart calm ∙ ap (has_party_in k) same ∙ missing in
          let low : nat_le k last.used ≡ true = (let c = after.among.counted in grind (arith, nat_tests)) in
          let gone : (point k (moment last b)).gone ≡ true = ap (λ q. nat_le k last.used && not q) gone' ∙ ap (λ q. q && true) low in
          subst (λ bytes. IsFrontOf bytes (point k (moment last b))) (ap (λ bytes. bytes ++ owed_to k acts) (none k)) ((advances.hands k plain).closes (first-gone k first.used _ f.used one) gone);
      port = port;
      asked =
          sym (append-nil b.asked) ∙ sym (ap (λ (w : List Wanted). b.asked ++ asks_of w) calm.asked) ∙ advances.asks ∙ ap (λ (s : ServersView). (a.asked ++ asks_of s.wanted) ++ asks_in acts) f.servers
          ∙ ap (λ (xs : List Asked). (xs ++ []) ++ asks_in acts) (listened told);
    }

-- what the core came to by it
pub TakesEach-run : {n f : ℕ} (opening : Opening) (contents : Option (List ℕ)) (first last : Headless) (a b : Seen) (port : ℕ) → IfSome contents (IsConfigured opening first port) → LoopStep false n f first last a b → IsFirst first → NothingTaken a → TakesEach opening contents b last
unfolding AgreesWithSockets-first
TakesEach-run opening None first last a b port known h f new = tt
TakesEach-run opening (Some kept) first last a b port known h f new = rw known.set (λ t.
    let told = h.told t in
    let agrees = AgreesWithSockets-first first a f new in
    let after = h.agrees agrees in
    let start : agrees.history ≡ [] = refl in
    let all : h.heard ≡ after.history = sym (h.adds agrees ∙ ap (λ past. past ++ h.heard) start) in
    let goes = h.goes t agrees in
    record {
      first = first.core;
      means = known.means;
      history = after.history;
      spells = after.spells t;
      events = goes.events;
      reaches = reaches-from _ _ _ _ agrees.history h.heard after.history _ f.quits f.ran start all goes.reaches;
      goes = goes.goes;
    })

-- the listener was opened at new sockets
pub Fresh-listening : (a b : Seen) → IsNew a → (IsTrue b.tells → IsTrue a.tells) → (IsTrue b.tells → b.taken ≡ a.taken ++ []) → (IsTrue b.tells → (k : ℕ) → b.sent k ≡ a.sent k)
    → b.used ≡ a.used → ((k : ℕ) → b.there k ≡ a.there k) → ((k : ℕ) → b.undrained k ≡ a.undrained k) → b.listening ≡ a.listening → ((k : ℕ) → b.blocked k ≡ a.blocked k) → NothingTaken b
Fresh-listening a b new told taken sent used there undrained listening blocked = record {
  used = used ∙ new.used;
  there = λ k. there k ∙ new.there k;
  undrained = λ k. undrained k ∙ new.undrained k;
  listening = listening ∙ new.listening;
  blocked = λ k. blocked k ∙ new.blocked k;
  taken = λ t. taken t ∙ append-nil a.taken ∙ new.taken (told t);
  sent = λ t k. sent t k ∙ new.sent (told t) k;
}

pub Headline-known : (opening : Opening) (contents : Option (List ℕ)) (first : Headless) (port : ℕ) (seen : Seen) (last : Headless) → IfSome contents (IsConfigured opening first port) → (IsTrue seen.tells → last.core.starved ≡ 0 → (told : Beside) → WereTold first.core told → Agrees told.oracle last.core.verdicts → HandsOut (state_of first.core told) seen last) → Headline opening contents seen last
Headline-known opening None first port seen last known hands = tt
Headline-known opening (Some kept) first port seen last known hands = rw known.set (λ t fed oracle judged. subst (λ state. HandsOut state seen last) (sym (known.means oracle).same) (hands t fed _ (known.means oracle).told judged))

pub IfSome-last : (o : Option Headless) (h : Headless) (P : Headless → Type 0) → o ≡ kept_of h → (1 ≤ h.turns → P h) → IfSome o P
IfSome-last o h P e p = rw e (go (eqb h.turns 0) refl)
  where
    go : (b : Bool) → eqb h.turns 0 ≡ b → IfSome (cond b None (Some h)) P
    go true q = tt
    go false q = p (grind (arith, nat_tests))

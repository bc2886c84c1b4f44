-- A read of a link is taken.
use Rattle.std.proofs.Common.{◌≡◌, ◌≢◌, ℕ, ◌<◌, Bool, true, false, cond, eqb, ◌&&◌, List, [], ◌∷◌, ◌++◌, map, ◌⊎◌, inl, inr, Option, Some, None, IfSome, is_none, refl, sym, ap, ◌∙◌, subst, arith, get_or, set}
use Rattle.std.specs.List.{flat_map}
use Rattle.std.proofs.lemmas.Bool.Decides.{nat_tests}
use Rattle.std.proofs.lemmas.List.{append-nil}
use Rattle.std.proofs.lemmas.List.Folds.{list_any-append}
use Rattle.wc_text.specs.declared.names.LinkId.{LinkId}
use Rattle.wc_outside.specs.declared.happening.Happening.{Happening}
use Rattle.wc_outside.specs.declared.happening.Happening.TheVariants.{Read}
use Rattle.wc_outside.specs.Keyed.{at_key, put_at, IsKeyPlace}
use Rattle.wc_board.specs.Connections.{connection_link, is_open_at, leaving_on}
use Rattle.wc_framing.specs.Framing.{is_socket}
use Rattle.wc_framing.specs.Opening.{begins}
use Rattle.wc_turns.specs.declared.links.LinkState.{LinkState}
use Rattle.wc_turns.specs.declared.headless.Headless.{Headless}
use Rattle.wc_turns.specs.Events.{bytes_on, comes_on, has_come, socket_on, text_in, tail_as, tail_on, text_of_read, read_events, end_events, text_events, came_events, events_of}
use Rattle.wc_turns.specs.Heard.{Heard, Happened, Unframed, SocketEnd, GoesOn, happened, happenings}
use Rattle.wc_turns.specs.Lines.{rest}
use Rattle.wc_turns.specs.Links.{link_number, is_undrained, is_blocked, is_there, is_ended, is_socket_at}
use Rattle.wc_core.specs.CoreView.{CoreView}
use Rattle.wc_core.specs.Served.{Distinct}
use Rattle.wc_turns.specs.Served.{MayTake, LeavesAtRead}
use Rattle.wc_turns.specs.Sockets.{ReadServed, ServesBytes}
use Rattle.wc_turns.specs.Tails.{IsTail}
use Rattle.wc_turns.specs.Turns.{AgreesWithHeard, IsFramed, frames_text, EndsAs, EndsFor, LeavesWhereEnded, TakesRead}
use Rattle.wc_turns.proofs.AgreesLemmas.{For-read, text-push, bytes_on-read}
use Rattle.wc_turns.proofs.EndedLemmas.{ended-clients, read-stays}
use Rattle.wc_turns.proofs.HeardAgrees.{heard-more, bytes-quiet, come-quiet, socket-heard, framed-at}
use Rattle.wc_turns.proofs.HeardLemmas.{IsQuiet, happenings-push, socket-stays, tail_as-is, tail-quiet, frames-push, frames-quiet, other-test, quiet-read}
use Rattle.wc_turns.proofs.KeyedLemmas.{at_key-key, at_key-put_other, at_key-put_same, map-put_at, or-false}
use Rattle.wc_turns.proofs.TakesLemmas.{flag-put, reached}

-- ---- what is heard of a read

abbrev heard-read : Bool → LinkId → (bytes text : List ℕ) → SocketEnd → Heard
heard-read false link bytes text end = Happened (Read link bytes)
heard-read true link bytes text end = Unframed link bytes text end

happened-read : (socket : Bool) (link : LinkId) (bytes text : List ℕ) (end : SocketEnd) → happened (heard-read socket link bytes text end) ≡ Read link bytes ∷ []
happened-read false link bytes text end = refl
happened-read true link bytes text end = refl

abbrev IsPlainRead : Bool → List ℕ → SocketEnd → Type 0
IsPlainRead socket text end = socket ≡ false → (text ≡ []) × (end ≡ GoesOn)

events-read : (socket : Bool) (link : LinkId) (bytes text : List ℕ) (end : SocketEnd) (history : List Heard) → IsPlainRead socket text end → events_of history (heard-read socket link bytes text end) ≡ came_events link history bytes text ++ end_events link.0 end
events-read true link bytes text end history plain = refl
events-read false link bytes text end history plain = let p = plain refl in rw (p.0, p.1) (sym (append-nil (came_events link history bytes [])))

-- it ends as all bytes of the link do
ends-read : (socket : Bool) (link : LinkId) (bytes text : List ℕ) (end : SocketEnd) (history : List Heard) → socket_on link.0 (happenings history ++ Read link bytes ∷ []) ≡ socket → EndsAs end (flat_map (bytes_on link.0) (happenings history) ++ bytes) (frames_text link.0 history ++ text) → EndsFor history (heard-read socket link bytes text end)
ends-read true link bytes text end history is h = (is, h)
ends-read false link bytes text end history is h = tt

here-test : (link : LinkId) → eqb link.0 link.0 ≡ true
here-test link = grind (arith, nat_tests)

text-here : (socket : Bool) (link : LinkId) (bytes text : List ℕ) (end : SocketEnd) → IsPlainRead socket text end → text_in link.0 true (heard-read socket link bytes text end) ≡ text
text-here true link bytes text end plain = ap (λ t. cond t text []) (here-test link)
text-here false link bytes text end plain = sym (plain refl).0

quiet-heard : (socket : Bool) (link : LinkId) (bytes text : List ℕ) (end : SocketEnd) (k : ℕ) → k ≢ link.0 → IsQuiet k (heard-read socket link bytes text end)
quiet-heard false link bytes text end k n = quiet-read link bytes k n
quiet-heard true link bytes text end k n = record { bytes = ap (λ t. cond t bytes [] ++ []) (other-test link k n); text = ap (λ t. cond t text []) (other-test link k n); nobody = refl }

-- whether a link is a WebSocket by a read of it
socket-read : (link : LinkId) (bytes : List ℕ) (taken : List Happening) (server : Option (List ℕ)) → has_come link.0 taken ≡ is_none server → socket_on link.0 (taken ++ Read link bytes ∷ []) ≡ (is_none server && begins (flat_map (bytes_on link.0) taken ++ bytes))
socket-read link bytes taken server came =
    ap (λ t. t && begins (flat_map (bytes_on link.0) (taken ++ Read link bytes ∷ []))) (list_any-append (comes_on link.0) taken (Read link bytes ∷ []) ∙ or-false (has_come link.0 taken) ∙ came)
    ∙ ap (λ bs. is_none server && begins bs) (text-push link.0 taken (Read link bytes) ∙ ap (λ bs. flat_map (bytes_on link.0) taken ++ bs) (bytes_on-read link bytes))

-- the lines of a read, by all bytes and by the text of the frames so far
came-as : (link : LinkId) (bytes text : List ℕ) (taken : List Happening) (history : List Heard) (socket : Bool) → happenings history ≡ taken → socket_on link.0 (taken ++ Read link bytes ∷ []) ≡ socket
    → came_events link history bytes text ≡ read_events link.0 (rest [] (text_of_read socket (flat_map (bytes_on link.0) taken) (frames_text link.0 history))) (text_of_read socket bytes text)
came-as link bytes text taken history socket spells is =
    ap (λ t. text_events t link.0 history bytes text) (ap (λ hs. socket_on link.0 (hs ++ Read link bytes ∷ [])) spells ∙ is)
    ∙ ap (λ line. read_events link.0 line (text_of_read socket bytes text)) (tail_as-is socket link.0 taken history spells)

-- of a link that takes the place of one, and of the others
at-put : (P : LinkState → Type 0) (states : List LinkState) (old new : LinkState) (j k : ℕ) → at_key link_number j states ≡ Some old → link_number new ≡ j → (k ≡ j → P new) → (k ≢ j → IfSome (at_key link_number k states) P) → IfSome (at_key link_number k (put_at link_number j new states)) P
at-put P states old new j k found key here there = by (eqb k j) refl
  where
    by : (t : Bool) → eqb k j ≡ t → IfSome (at_key link_number k (put_at link_number j new states)) P
    by true e =
        let same : k ≡ j = grind (arith, nat_tests) in
        let after : at_key link_number k (put_at link_number j new states) ≡ Some new = subst (λ i. at_key link_number i (put_at link_number j new states) ≡ Some new) (sym same) (at_key-put_same link_number j old new states key found) in
        rw after (here same)
    by false e =
        let other : k ≢ j = λ q. grind (arith, nat_tests) in
        rw (at_key-put_other link_number j k new states key other) (there other)

-- ---- what the loop keeps

-- what was read of a link, as what was heard before makes of it
served-read : (states : List LinkState) (used ran : ℕ) (taken : List Happening) (history : List Heard) (link : LinkId) (old new : LinkState) (bytes : List ℕ) (x y : Headless) → happenings history ≡ taken → at_key link_number link.0 states ≡ Some old → (b : ServesBytes bytes old new x.core y.core x.ran y.ran)
    → AgreesWithHeard states used ran taken history → ReadServed (is_none old.server && begins (flat_map (bytes_on link.0) taken ++ bytes)) (flat_map (bytes_on link.0) taken) (frames_text link.0 history) bytes b.text b.end new x.core y.core x.ran y.ran
served-read states used ran taken history link old new bytes x y spells found b s =
    let all = flat_map (bytes_on link.0) taken in
    let read = frames_text link.0 history in
    let came : has_come link.0 taken ≡ is_none old.server = rw found at (s.came link.0) in
    let framed : IsFramed all read old = rw found at (s.framed link.0) in
    let line : tail_on link.0 history ≡ rest [] (text_of_read (is_socket old.framing) all read) = ap (λ t. tail_as t link.0 history) (ap (socket_on link.0) spells ∙ framed-at link.0 taken read old came framed) ∙ tail_as-is (is_socket old.framing) link.0 taken history spells in
    let tail : IsTail (tail_on link.0 history) old.tail = rw found at (s.tails link.0) in
    b.serves all read framed (subst (λ l. IsTail l old.tail) line tail)

pub TakesRead-serves : (x y : Headless) (link : LinkId) (place : ℕ) (old new : LinkState) (bytes : List ℕ) → IsKeyPlace link_number link.0 x.links.opened.items place → old ≡ get_or x.links.opened.items place old → old.connecting ≡ false
    → y.turns ≡ x.turns → y.used ≡ x.used → y.listening ≡ x.listening → y.refused ≡ x.refused → y.unlisted ≡ x.unlisted → y.clock ≡ x.clock → y.links.closed.items ≡ x.links.closed.items → y.links.opened.items ≡ set x.links.opened.items place new
    → ServesBytes bytes old new x.core y.core x.ran y.ran → TakesRead x y link bytes
TakesRead-serves x y link place old new bytes p at stands turns used listening refused unlisted clock closed opened b = record {
  heard = h;
  read = is-read;
  takes = record {
    turns = turns;
    closed = closed;
    used = used;
    listening = listening;
    refused = ap (λ r. r.items) refused;
    numbers = rw (opened, p.put new) (map-put_at link_number link.0 new states number);
    undrained = λ k. rw (opened, p.put new) (flag-put is_undrained link.0 k (eqb k link.0) refl old new states found number (ap (λ (l : LinkState). l.undrained) b.state));
    blocked = λ k. rw (opened, p.put new) (flag-put is_blocked link.0 k (eqb k link.0) refl old new states found number (ap (λ (l : LinkState). l.blocked) b.state));
    there = λ k. rw (opened, p.put new) (flag-put is_there link.0 k (eqb k link.0) refl old new states found number (ap (λ l. is_there (Some l)) b.state));
    clients = b.causes.links;
    servers = b.causes.servers;
    ended = λ once before. rw (opened, p.put new) (ends once before);
    idle = λ none. (b.idle none).1;
    told = λ taken unknown on s. rw (opened, clock, used, refused, unlisted, is-read) (For-read x.clock states x.used x.ran y.ran x.refused.items x.unlisted taken link place old new bytes p at key (unknown link.0) stands (ap (λ (l : LinkState). l.connecting) b.state, ap (λ (l : LinkState). l.server) b.state) (λ none. (b.idle none).0) s);
    hears = λ taken history spells unknown on s. rw (opened, p.put new, used) (hears taken history spells unknown on s);
    takes = λ taken history spells s. takes taken history spells s;
    ends = λ taken history spells s. ends-read socket link bytes b.text b.end history (ap (λ hs. socket_on link.0 (hs ++ Read link bytes ∷ [])) spells ∙ index taken history s ∙ sym (served taken history spells s).is) (subst (λ hs. EndsAs b.end (flat_map (bytes_on link.0) hs ++ bytes) (frames_text link.0 history ++ b.text)) (sym spells) (served taken history spells s).ends);
    sockets = λ taken history spells s k e. sockets taken history spells s k (eqb k link.0) refl (rw (opened, p.put new) at e);
  };
} where
  states : List LinkState
  states = x.links.opened.items

  socket : Bool
  socket = is_socket new.framing

  h : Heard
  h = heard-read socket link bytes b.text b.end

  is-read : happened h ≡ Read link bytes ∷ []
  is-read = happened-read socket link bytes b.text b.end

  found : at_key link_number link.0 states ≡ Some old
  found = p.found old ∙ ap Some (sym at)

  -- the link of the place
  own : old.link ≡ link
  own = ap (λ n. record { 0 = n }) (at_key-key link_number link.0 states old found)

  key : new.link ≡ old.link
  key = ap (λ (l : LinkState). l.link) b.state

  number : link_number new ≡ link.0
  number = ap (λ (l : LinkId). l.0) (key ∙ own)

  served : (taken : List Happening) (history : List Heard) → happenings history ≡ taken → AgreesWithHeard states x.used x.ran taken history → ReadServed (is_none old.server && begins (flat_map (bytes_on link.0) taken ++ bytes)) (flat_map (bytes_on link.0) taken) (frames_text link.0 history) bytes b.text b.end new x.core y.core x.ran y.ran
  served taken history spells s = served-read states x.used x.ran taken history link old new bytes x y spells found b s

  -- nothing more is read of it, or of another one, only as its client leaves
  ends : Distinct (map connection_link x.core.connections) → LeavesWhereEnded states x.core → LeavesWhereEnded (put_at link_number link.0 new states) y.core
  ends once before = λ k e. by k (eqb k link.0) refl e
    where
      stays : (k : ℕ) → is_ended (at_key link_number k states) ≡ true → is_open_at (at_key connection_link k y.core.connections) ≡ false
      stays k e = ended-clients states x.core y.core b.causes.links (λ j leaves. read-stays socket old.link.0 j (leaving_on j x.core.connections) (leaving_on j y.core.connections) (b.causes.leaving once j) leaves) before k e

      here : (old.ended ≡ true) ⊎ (is_open_at (at_key connection_link old.link.0 y.core.connections) ≡ false) → is_open_at (at_key connection_link link.0 y.core.connections) ≡ false
      here (inl over) = stays link.0 (ap is_ended found ∙ over)
      here (inr shut) = subst (λ (l : LinkId). is_open_at (at_key connection_link l.0 y.core.connections) ≡ false) own shut

      by : (k : ℕ) (t : Bool) → eqb k link.0 ≡ t → is_ended (at_key link_number k (put_at link_number link.0 new states)) ≡ true → is_open_at (at_key connection_link k y.core.connections) ≡ false
      by k true e q =
          let same : link.0 ≡ k = grind (arith, nat_tests) in
          let after : at_key link_number link.0 (put_at link_number link.0 new states) ≡ Some new = at_key-put_same link_number link.0 old new states number found in
          let over : new.ended ≡ true = sym (ap is_ended after) ∙ subst (λ i. is_ended (at_key link_number i (put_at link_number link.0 new states)) ≡ true) (sym same) q in
          subst (λ i. is_open_at (at_key connection_link i y.core.connections) ≡ false) same (here (b.leaves over))
      by k false e q =
          let other : k ≢ link.0 = λ r. grind (arith, nat_tests) in
          stays k (sym (ap is_ended (at_key-put_other link_number link.0 k new states number other)) ∙ q)

  -- whether it is a WebSocket by now
  index : (taken : List Happening) (history : List Heard) → AgreesWithHeard states x.used x.ran taken history → socket_on link.0 (taken ++ Read link bytes ∷ []) ≡ (is_none old.server && begins (flat_map (bytes_on link.0) taken ++ bytes))
  index taken history s = socket-read link bytes taken old.server (rw found at (s.came link.0))

  takes : (taken : List Happening) (history : List Heard) → happenings history ≡ taken → AgreesWithHeard states x.used x.ran taken history → MayTake x.core y.core x.ran y.ran (events_of history h)
  takes taken history spells s =
      let t = is_none old.server && begins (flat_map (bytes_on link.0) taken ++ bytes) in
      let same : read_events new.link.0 (rest [] (text_of_read t (flat_map (bytes_on link.0) taken) (frames_text link.0 history))) (text_of_read t bytes b.text) ++ end_events new.link.0 b.end ≡ events_of history h =
      ap (λ n. read_events n (rest [] (text_of_read t (flat_map (bytes_on link.0) taken) (frames_text link.0 history))) (text_of_read t bytes b.text) ++ end_events n b.end) number
      ∙ ap (λ es. es ++ end_events link.0 b.end) (sym (came-as link bytes b.text taken history t spells (index taken history s)))
      ∙ sym (events-read socket link bytes b.text b.end history b.plain) in
      subst (MayTake x.core y.core x.ran y.ran) same (served taken history spells s).takes

  hears : (taken : List Happening) (history : List Heard) → happenings history ≡ taken → ((k : ℕ) → x.used < k → at_key link_number k states ≡ None) → y.core.quits ≡ false → AgreesWithHeard states x.used x.ran taken history
      → AgreesWithHeard (put_at link_number link.0 new states) x.used y.ran (taken ++ happened h) (history ++ h ∷ [])
  hears taken history spells unknown on s =
      let r = served taken history spells s in
      let m = takes taken history spells s in
      let quiet : (k : ℕ) → k ≢ link.0 → IsQuiet k h = λ k n. quiet-heard socket link bytes b.text b.end k n in
      let above : (k : ℕ) → x.used < k → k ≢ link.0 = λ k l q. (let none : at_key link_number link.0 states ≡ None = unknown link.0 (subst (λ n. x.used < n) q l) in let z : None ≡ Some old = sym none ∙ found in cc) in
      let all : flat_map (bytes_on link.0) (taken ++ happened h) ≡ flat_map (bytes_on link.0) taken ++ bytes = ap (λ hs. flat_map (bytes_on link.0) (taken ++ hs)) is-read ∙ text-push link.0 taken (Read link bytes) ∙ ap (λ bs. flat_map (bytes_on link.0) taken ++ bs) (bytes_on-read link bytes) in
      let text : frames_text link.0 (history ++ h ∷ []) ≡ frames_text link.0 history ++ b.text = frames-push link.0 history h ∙ ap (λ bs. frames_text link.0 history ++ bs) (text-here socket link bytes b.text b.end b.plain) in
      let spelt : happenings (history ++ h ∷ []) ≡ taken ++ happened h = happenings-push history h ∙ ap (λ hs. hs ++ happened h) spells in
      let is : socket_on link.0 (happenings (history ++ h ∷ [])) ≡ (is_none old.server && begins (flat_map (bytes_on link.0) taken ++ bytes)) = ap (socket_on link.0) spelt ∙ ap (λ hs. socket_on link.0 (taken ++ hs)) is-read ∙ index taken history s in
      let line : tail_on link.0 (history ++ h ∷ []) ≡ rest [] (text_of_read (is_none old.server && begins (flat_map (bytes_on link.0) taken ++ bytes)) (flat_map (bytes_on link.0) taken ++ bytes) (frames_text link.0 history ++ b.text)) =
      ap (λ t. tail_as t link.0 (history ++ h ∷ [])) is ∙ tail_as-is (is_none old.server && begins (flat_map (bytes_on link.0) taken ++ bytes)) link.0 (taken ++ happened h) (history ++ h ∷ []) spelt
      ∙ ap (λ bs. rest [] (text_of_read (is_none old.server && begins (flat_map (bytes_on link.0) taken ++ bytes)) bs (frames_text link.0 (history ++ h ∷ [])))) all
      ∙ ap (λ bs. rest [] (text_of_read (is_none old.server && begins (flat_map (bytes_on link.0) taken ++ bytes)) (flat_map (bytes_on link.0) taken ++ bytes) bs)) text in
      let came : has_come link.0 (taken ++ happened h) ≡ is_none new.server = ap (λ hs. has_come link.0 (taken ++ hs)) is-read ∙ list_any-append (comes_on link.0) taken (Read link bytes ∷ []) ∙ or-false (has_come link.0 taken) ∙ (rw found at (s.came link.0)) ∙ ap is_none (sym (ap (λ (l : LinkState). l.server) b.state)) in
      record {
        tails = λ k. at-put (λ u. IsTail (tail_on k (history ++ h ∷ [])) u.tail) states old new link.0 k found number (λ q. rw (q, line) (r.tails on)) (λ n. rw (tail-quiet k taken history h spells (quiet k n)) (s.tails k));
        framed = λ k. at-put (IsFramed (flat_map (bytes_on k) (taken ++ happened h)) (frames_text k (history ++ h ∷ []))) states old new link.0 k found number (λ q. rw (q, all, text) (r.framed on)) (λ n. rw (bytes-quiet k taken h (quiet k n), frames-quiet k history h (quiet k n)) (s.framed k));
        came = λ k. at-put (λ u. has_come k (taken ++ happened h) ≡ is_none u.server) states old new link.0 k found number (λ q. rw q came) (λ n. rw (come-quiet k taken h (quiet k n)) (s.came k));
        uncome = λ k l. come-quiet k taken h (quiet k (above k l)) ∙ s.uncome k l;
        unframed = λ k l. frames-quiet k history h (quiet k (above k l)) ∙ s.unframed k l;
        events = heard-more x.ran y.ran history h s.events (reached x.ran y.ran (events_of history h) m.events m.reaches.rest (m.reaches.whole on) m.reaches.front (m.reaches.counts (let e = s.events in omega arith)));
      }

  sockets : (taken : List Happening) (history : List Heard) → happenings history ≡ taken → AgreesWithHeard states x.used x.ran taken history → (k : ℕ) (t : Bool) → eqb k link.0 ≡ t → is_socket_at (at_key link_number k (put_at link_number link.0 new states)) ≡ true → socket_on k (taken ++ happened h) ≡ true
  sockets taken history spells s k true e is =
      let same : link.0 ≡ k = grind (arith, nat_tests) in
      let after : at_key link_number link.0 (put_at link_number link.0 new states) ≡ Some new = at_key-put_same link_number link.0 old new states number found in
      let here : is_socket new.framing ≡ true = sym (ap is_socket_at after) ∙ subst (λ i. is_socket_at (at_key link_number i (put_at link_number link.0 new states)) ≡ true) (sym same) is in
      subst (λ i. socket_on i (taken ++ happened h) ≡ true) same (ap (λ hs. socket_on link.0 (taken ++ hs)) is-read ∙ index taken history s ∙ sym (served taken history spells s).is ∙ here)
  sockets taken history spells s k false e is =
      let other : k ≢ link.0 = λ q. grind (arith, nat_tests) in
      socket-stays k taken (happened h) (socket-heard states x.used x.ran taken history s k (sym (ap is_socket_at (at_key-put_other link_number link.0 k new states number other)) ∙ is))

-- for what a client may leave at it
pub read-causes : (states : List LinkState) (link place : ℕ) (old new : LinkState) (bytes : List ℕ) (a b : CoreView) (ran ran' : ℕ) → IsKeyPlace link_number link states place → old ≡ get_or states place old → ServesBytes bytes old new a b ran ran' → LeavesAtRead (is_socket_at (at_key link_number link (set states place new))) link a b
read-causes states link place old new bytes a b ran ran' p at s =
    let found : at_key link_number link states ≡ Some old = p.found old ∙ ap Some (sym at) in
    let own : old.link.0 ≡ link = at_key-key link_number link states old found in
    let number : link_number new ≡ link = ap (λ (l : LinkState). l.link.0) s.state ∙ own in
    let after : at_key link_number link (set states place new) ≡ Some new = ap (at_key link_number link) (p.put new) ∙ at_key-put_same link_number link old new states number found in
    subst (λ t. LeavesAtRead t link a b) (sym (ap is_socket_at after)) (subst (λ n. LeavesAtRead (is_socket new.framing) n a b) own s.causes)

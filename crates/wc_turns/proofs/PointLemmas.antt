-- What is seen of one link from moment to moment.
use Rattle.std.proofs.Common.{◌≡◌, ◌≢◌, ◌⊎◌, inl, inr, ℕ, ◌+◌, ◌<◌, nat_le, Bool, true, false, cond, eqb, not, ◌&&◌, ◌||◌, List, [], ◌∷◌, ◌++◌, map, Option, Some, None, is_some, refl, sym, ap, ◌∙◌, subst, arith, append_assoc}
use Rattle.std.proofs.lemmas.Bool.{false≢true}
use Rattle.std.proofs.lemmas.Bool.Decides.{nat_tests}
use Rattle.std.proofs.lemmas.List.{append-nil}
use Rattle.std.proofs.lemmas.List.Folds.{list_any-append}
use Rattle.wc_outside.specs.declared.happening.Happening.{Happening}
use Rattle.wc_board.specs.declared.connection.Connection.{Connection}
use Rattle.wc_core.specs.Events.{Event}
use Rattle.wc_core.specs.CoreView.{CoreView}
use Rattle.wc_core.specs.State.{State, Stepped, Act, Sends, Closes, Serves, Quits, has_end}
use Rattle.wc_core.specs.ServersKept.{is_wanted, AreNext, ServersKeep}
use Rattle.wc_core.proofs.DidLemmas.{outs_of-append, sent_to-append}
use Rattle.wc_servers.proofs.OutLemmas.{lines_to-append, wanted_in-append}
use Rattle.wc_servers.specs.declared.wanted.Wanted.{Wanted}
use Rattle.wc_core.specs.Step.{run, no_step}
use Rattle.wc_board.specs.Connections.{connection_link, unsent_in as client_unsent_in, unsent_on as client_unsent_on}
use Rattle.wc_core.specs.Served.{state_of, WereTold, Means, sent_to, outs_of, Follows}
use Rattle.wc_servers.specs.Outs.{lines_by, lines_to, wanted_in}
use Rattle.wc_servers.specs.Seats.{SeatView, AreSeats, AreUsed, links_of as seat_links, seat_link, unsent_in as server_unsent_in, unsent_on as server_unsent_on}
use Rattle.wc_core.specs.State.{Beside}
use Rattle.wc_outside.specs.Keyed.{at_key}
use Rattle.wc_turns.specs.declared.links.Closed.{Closed}
use Rattle.wc_turns.specs.Events.{socket_on}
use Rattle.wc_turns.specs.Hands.{Delivers}
use Rattle.wc_turns.specs.Parties.{has_party, unsent_on, owed_by, owed_to, connect_of, asks_of, asks_in}
use Rattle.wc_turns.specs.Run.{closings, EndsAtQuit}
use Rattle.wc_turns.specs.Turns.{Moment, point, IsClients, IsServers, OnOneSide, MomentAdvances, is_failure, has_failed}
use Rattle.wc_turns.proofs.KeyedLemmas.{or-false, none_of, same-keys}
use Rattle.wc_turns.proofs.HandsLemmas.{Delivers-stays}

pub or_left : (a b : Bool) → (a || b) ≡ false → a ≡ false
or_left true b e = e
or_left false b e = refl

pub or_right : (a b : Bool) → (a || b) ≡ false → b ≡ false
or_right true b e = absurd (false≢true (sym e))
or_right false b e = e

-- a link that is not spoiled later was not spoiled before
pub spoils-more : (k : ℕ) (c c' : Bool) (taken more : List Happening) → (c' ≡ false → c ≡ false) → (c' || has_failed k (taken ++ more)) ≡ false → (c || has_failed k taken) ≡ false
spoils-more k c c' taken more keep e =
    let first = or_left c' (has_failed k (taken ++ more)) e in
    let second = or_right c' (has_failed k (taken ++ more)) e in
    rw (keep first) (or_left (has_failed k taken) (has_failed k more) (sym (list_any-append (is_failure k) taken more) ∙ second))

and_left : (a b : Bool) → (a && b) ≡ true → a ≡ true
and_left true b e = refl
and_left false b e = absurd (false≢true e)

and_right : (a b : Bool) → (a && b) ≡ true → b ≡ true
and_right true b e = e
and_right false b e = absurd (false≢true e)

not-false : (b : Bool) → not b ≡ true → b ≡ false
not-false true e = sym e
not-false false e = refl

pub none-if : {X : Type 0} (o : Option X) → is_some o ≡ false → o ≡ None
none-if None e = refl
none-if (Some x) e = absurd (false≢true (sym e))

-- a link that is gone has no client and no server
pub gone-nobody : (k used : ℕ) (core : CoreView) → (nat_le k used && not (has_party k core)) ≡ true → has_party k core ≡ false
gone-nobody k used core e = not-false (has_party k core) (and_right (nat_le k used) (not (has_party k core)) e)

pub no-client : (k : ℕ) (core : CoreView) → has_party k core ≡ false → at_key connection_link k core.connections ≡ None
no-client k core e = none-if (at_key connection_link k core.connections) (or_left (is_some (at_key connection_link k core.connections)) (is_some (at_key seat_link k core.servers.seats)) e)

pub no-server : (k : ℕ) (core : CoreView) → has_party k core ≡ false → at_key seat_link k core.servers.seats ≡ None
no-server k core e = none-if (at_key seat_link k core.servers.seats) (or_right (is_some (at_key connection_link k core.connections)) (is_some (at_key seat_link k core.servers.seats)) e)

owed_nothing : (xs ys : List ℕ) → [] ≡ xs ++ ys → ys ≡ []
owed_nothing [] ys e = sym e
owed_nothing (x ∷ xs) ys e = cc

-- nothing is owed where nothing is unsent before and after
pub owed-nothing : (xs ys more : List ℕ) → xs ≡ [] → ys ≡ [] → ys ≡ xs ++ more → more ≡ []
owed-nothing xs ys more none after e = owed_nothing xs more (sym after ∙ e)

-- ---- what acts owe to a link

front-nothing : (xs ys : List ℕ) → xs ++ ys ≡ [] → xs ≡ []
front-nothing [] ys e = refl
front-nothing (x ∷ xs) ys e = cc

back-nothing : (xs ys : List ℕ) → xs ++ ys ≡ [] → ys ≡ []
back-nothing [] ys e = e
back-nothing (x ∷ xs) ys e = cc

pub owed_to-append : (k : ℕ) (a b : List Act) → owed_to k (a ++ b) ≡ owed_to k a ++ owed_to k b
owed_to-append k [] b = refl
owed_to-append k (x ∷ a) b = ap (λ t. owed_by k x ++ t) (owed_to-append k a b) ∙ sym (append_assoc (owed_by k x) (owed_to k a) (owed_to k b))

-- what is owed is for a client, where there are no lines for a server
pub owed-sent : (k : ℕ) (acts : List Act) → lines_to k (outs_of acts) ≡ [] → owed_to k acts ≡ sent_to k acts
owed-sent k [] e = refl
owed-sent k (Sends to m ∷ acts) e = ap (λ t. owed_by k (Sends to m) ++ t) (owed-sent k acts e)
owed-sent k (Closes to cause ∷ acts) e = owed-sent k acts e
owed-sent k (Serves out ∷ acts) e = rw (front-nothing (lines_by k out) (lines_to k (outs_of acts)) e) (owed-sent k acts (back-nothing (lines_by k out) (lines_to k (outs_of acts)) e))
owed-sent k (Quits ∷ acts) e = owed-sent k acts e

-- and it is lines, where there is nothing for a client
pub owed-lines : (k : ℕ) (acts : List Act) → sent_to k acts ≡ [] → owed_to k acts ≡ lines_to k (outs_of acts)
owed-lines k [] e = refl
owed-lines k (Sends to m ∷ acts) e = rw (front-nothing (owed_by k (Sends to m)) (sent_to k acts) e) (owed-lines k acts (back-nothing (owed_by k (Sends to m)) (sent_to k acts) e))
owed-lines k (Closes to cause ∷ acts) e = owed-lines k acts e
owed-lines k (Serves out ∷ acts) e = ap (λ t. lines_by k out ++ t) (owed-lines k acts e)
owed-lines k (Quits ∷ acts) e = owed-lines k acts e

pub asks_of-append : (a b : List Wanted) → asks_of (a ++ b) ≡ asks_of a ++ asks_of b
asks_of-append [] b = refl
asks_of-append (w ∷ a) b = ap (λ t. connect_of w ∷ t) (asks_of-append a b)

pub asks_in-append : (a b : List Act) → asks_in (a ++ b) ≡ asks_in a ++ asks_in b
asks_in-append a b = ap (λ outs. asks_of (wanted_in outs)) (outs_of-append a b) ∙ ap asks_of (wanted_in-append (outs_of a) (outs_of b)) ∙ asks_of-append (wanted_in (outs_of a)) (wanted_in (outs_of b))

-- ---- a link has a client or a server, and what is unsent is that of the one

-- of a link, one kind has nothing unsent before and after
pub record OfOneKind (c c' s s' : List ℕ) : Type 0 where
  pub kind : ((c ≡ []) × (c' ≡ [])) ⊎ ((s ≡ []) × (s' ≡ []))

pub both-owed : (k : ℕ) (acts : List Act) (c c' s s' : List ℕ) → c' ≡ c ++ sent_to k acts → s' ≡ s ++ lines_to k (outs_of acts) → OfOneKind c c' s s' → c' ++ s' ≡ (c ++ s) ++ owed_to k acts
both-owed k acts c c' s s' clients servers one = both-by one.kind
  where
    both-by : ((c ≡ []) × (c' ≡ [])) ⊎ ((s ≡ []) × (s' ≡ [])) → c' ++ s' ≡ (c ++ s) ++ owed_to k acts
    both-by (inl none) =
        let owed = owed-lines k acts (owed-nothing c c' (sent_to k acts) none.0 none.1 clients) in
        rw (none.0, none.1, owed) servers
    both-by (inr none) =
        let owed = owed-sent k acts (owed-nothing s s' (lines_to k (outs_of acts)) none.0 none.1 servers) in
        rw (none.0, none.1, owed, append-nil c', append-nil c) clients

one-by : (k : ℕ) (a b : CoreView) (o : Option Connection) → at_key connection_link k a.connections ≡ o
    → is_some (at_key connection_link k b.connections) ≡ is_some (at_key connection_link k a.connections)
    → (is_some (at_key connection_link k a.connections) ≡ true → at_key seat_link k a.servers.seats ≡ None)
    → (is_some (at_key connection_link k b.connections) ≡ true → at_key seat_link k b.servers.seats ≡ None)
    → OfOneKind (client_unsent_on k a.connections) (client_unsent_on k b.connections) (server_unsent_on k a.servers.seats) (server_unsent_on k b.servers.seats)
one-by k a b None e keeps before after = record { kind = inl (ap client_unsent_in e, ap client_unsent_in (none_of _ (keeps ∙ ap is_some e))) }
one-by k a b (Some c) e keeps before after =
    let there : is_some (at_key connection_link k a.connections) ≡ true = ap is_some e in
    record { kind = inr (ap server_unsent_in (before there), ap server_unsent_in (after (keeps ∙ there))) }

-- no link has a client and a server
abbrev pub AreAlone : CoreView → Type 0
AreAlone core = (k : ℕ) → is_some (at_key connection_link k core.connections) ≡ true → at_key seat_link k core.servers.seats ≡ None

pub one-kind : (k : ℕ) (a b : CoreView) → is_some (at_key connection_link k b.connections) ≡ is_some (at_key connection_link k a.connections) → AreAlone a → AreAlone b
    → OfOneKind (client_unsent_on k a.connections) (client_unsent_on k b.connections) (server_unsent_on k a.servers.seats) (server_unsent_on k b.servers.seats)
one-kind k a b keeps before after = one-by k a b (at_key connection_link k a.connections) refl keeps (before k) (after k)

-- ---- what is owed where nobody is

pub unsent-nobody : (k : ℕ) (core : CoreView) → has_party k core ≡ false → unsent_on k core ≡ []
unsent-nobody k core e = rw (ap client_unsent_in (no-client k core e), ap server_unsent_in (no-server k core e)) refl

-- what is owed to a link without a client or a server is nothing
pub nothing_owed : (k : ℕ) (a b : CoreView) (acts : List Act) → has_party k b ≡ has_party k a → has_party k a ≡ false → client_unsent_on k b.connections ≡ client_unsent_on k a.connections ++ sent_to k acts
    → server_unsent_on k b.servers.seats ≡ server_unsent_on k a.servers.seats ++ lines_to k (outs_of acts) → owed_to k acts ≡ []
nothing_owed k a b acts keeps none clients servers =
    let after = keeps ∙ none in
    owed-lines k acts (owed-nothing (client_unsent_on k a.connections) (client_unsent_on k b.connections) (sent_to k acts) (ap client_unsent_in (no-client k a none)) (ap client_unsent_in (no-client k b after)) clients)
    ∙ (owed-nothing (server_unsent_on k a.servers.seats) (server_unsent_on k b.servers.seats) (lines_to k (outs_of acts)) (ap server_unsent_in (no-server k a none)) (ap server_unsent_in (no-server k b after)) servers)

-- ---- what is owed is for a client or for a server

-- what is wanted next has higher numbers
pub next-above : (used k : ℕ) (wanted : List Wanted) → AreNext used wanted → is_wanted k wanted ≡ true → used < k
next-above used k [] next w = absurd (false≢true w)
next-above used k (one ∷ wanted) next w = above-by (eqb one.link.0 k) refl w (next-above (used + 1) k wanted next.1)
  where
    above-by : (t : Bool) → eqb one.link.0 k ≡ t → (t || is_wanted k wanted) ≡ true → (is_wanted k wanted ≡ true → used + 1 < k) → used < k
    above-by true e q further =
        let same : one.link.0 ≡ k = grind (arith, nat_tests) in
        let first = next.0 in
        omega arith
    above-by false e q further = let more = further q in omega arith

seat-above : (used k : ℕ) (seats : List SeatView) → AreUsed used (seat_links seats) → used < k → at_key seat_link k seats ≡ None
seat-above used k [] u above = refl
seat-above used k (x ∷ seats) u above = above-by (eqb x.link k) refl (seat-above used k seats u.1 above)
  where
    above-by : (t : Bool) → eqb x.link k ≡ t → at_key seat_link k seats ≡ None → cond t (Some x) (at_key seat_link k seats) ≡ None
    above-by true e none =
        let same : x.link ≡ k = grind (arith, nat_tests) in
        let first = u.0 in
        absurd (omega arith)
    above-by false e none = none

-- no server has a number above those that are used
pub seats-above : (core : CoreView) (k : ℕ) → AreSeats core.servers → core.servers.used < k → at_key seat_link k core.servers.seats ≡ None
seats-above core k seats above = seat-above core.servers.used k core.servers.seats seats.used above

-- nothing is owed
pub OnOneSide-none : (a b : CoreView) → b.servers.used ≡ a.servers.used → ((k : ℕ) → is_some (at_key connection_link k b.connections) ≡ true → is_some (at_key connection_link k a.connections) ≡ true)
    → ((k : ℕ) → is_some (at_key seat_link k b.servers.seats) ≡ true → is_some (at_key seat_link k a.servers.seats) ≡ true) → OnOneSide a b []
OnOneSide-none a b used clients servers = record { clients = λ k h. (client k h, refl); servers = λ k h. (server k h, refl) }
  where
    client : (k : ℕ) → IsClients k b → IsClients k a
    client k (inl there) = inl (clients k there)
    client k (inr above) = inr (omega arith)

    server : (k : ℕ) → IsServers k b → IsServers k a
    server k (inl there) = inl (servers k there)
    server k (inr above) = inr (omega arith)

pub OnOneSide-trans : (a b c : CoreView) (xs ys : List Act) → OnOneSide a b xs → OnOneSide b c ys → OnOneSide a c (xs ++ ys)
OnOneSide-trans a b c xs ys f g = record {
  clients = λ k h.
      let second = g.clients k h in
      let first = f.clients k second.0 in (
        first.0,
        ap (lines_to k) (outs_of-append xs ys) ∙ lines_to-append k (outs_of xs) (outs_of ys) ∙ rw (first.1, second.1) refl,
      );
  servers = λ k h.
      let second = g.servers k h in
      let first = f.servers k second.0 in (first.0, sent_to-append k xs ys ∙ rw (first.1, second.1) refl);
}

-- a server that comes has a new number
pub sides-kept : (a b : CoreView) → ServersKeep a.servers b.servers → (k : ℕ) → IsServers k b → IsServers k a
sides-kept a b keep k (inr higher) = inr (let r = keep.reached in omega arith)
sides-kept a b keep k (inl there) = before (sym (keep.links k) ∙ there) (is_some (at_key seat_link k a.servers.seats)) refl
  where
    before : (is_some (at_key seat_link k a.servers.seats) || is_wanted k keep.more) ≡ true → (t : Bool) → is_some (at_key seat_link k a.servers.seats) ≡ t → IsServers k a
    before h true e = inl e
    before h false e = inr (next-above a.servers.used k keep.more keep.next (rw e at h))

-- nobody goes, and who comes has a new number
pub OnOneSide-takes : (told : Beside) (a b : CoreView) (events : List Event) → Follows told a b (run (state_of a told) events) → map connection_link b.connections ≡ map connection_link a.connections → ServersKeep a.servers b.servers → AreSeats b.servers → AreAlone b
    → ((k : ℕ) → a.servers.used < k → at_key connection_link k a.connections ≡ None) → OnOneSide a b (run (state_of a told) events).acts
OnOneSide-takes told a b events did links keep seats alone above = record { clients = λ k h. client k h; servers = λ k h. server k h }
  where
    keeps : (k : ℕ) → is_some (at_key connection_link k b.connections) ≡ is_some (at_key connection_link k a.connections)
    keeps k = same-keys connection_link k b.connections a.connections links

    acts : List Act
    acts = (run (state_of a told) events).acts

    no-lines : (k : ℕ) → at_key seat_link k b.servers.seats ≡ None → lines_to k (outs_of acts) ≡ []
    no-lines k none = owed_nothing (server_unsent_on k a.servers.seats) (lines_to k (outs_of acts)) (sym (ap server_unsent_in none) ∙ did.servers.lines k)

    no-bytes : (k : ℕ) → at_key connection_link k b.connections ≡ None → sent_to k acts ≡ []
    no-bytes k none = owed_nothing (client_unsent_on k a.connections) (sent_to k acts) (sym (ap client_unsent_in none) ∙ did.bytes k)

    client : (k : ℕ) → IsClients k b → IsClients k a × (lines_to k (outs_of acts) ≡ [])
    client k (inl there) = (inl (sym (keeps k) ∙ there), no-lines k (alone k there))
    client k (inr higher) = (inr (let r = keep.reached in omega arith), no-lines k (seats-above b k seats higher))

    no-client : (k : ℕ) → is_some (at_key seat_link k b.servers.seats) ≡ true → (t : Bool) → is_some (at_key connection_link k b.connections) ≡ t → at_key connection_link k b.connections ≡ None
    no-client k there true e = absurd (false≢true (sym (ap is_some (alone k e)) ∙ there))
    no-client k there false e = none-if (at_key connection_link k b.connections) e

    server : (k : ℕ) → IsServers k b → IsServers k a × (sent_to k acts ≡ [])
    server k (inl there) = (sides-kept a b keep k (inl there), no-bytes k (no-client k there (is_some (at_key connection_link k b.connections)) refl))
    server k (inr higher) =
        let lower : a.servers.used < k = (let r = keep.reached in omega arith) in
        (inr lower, no-bytes k (none-if (at_key connection_link k b.connections) (keeps k ∙ ap is_some (above k lower))))

-- ---- moments

-- a happening is taken, at which clients and servers may begin to leave
pub MomentAdvances-takes : (told : Beside) (a b : Moment) (closed : List Closed) (events : List Event) → Follows told a.core b.core (run (state_of a.core told) events) → map connection_link b.core.connections ≡ map connection_link a.core.connections → b.used ≡ a.used
    → ServersKeep a.core.servers b.core.servers → AreSeats b.core.servers → ((k : ℕ) → a.core.servers.used < k → at_key connection_link k a.core.connections ≡ None)
    → ((k : ℕ) → nat_le k a.used ≡ true → has_party k b.core ≡ has_party k a.core) → AreAlone a.core → AreAlone b.core
    → ((k : ℕ) → b.sent k ≡ a.sent k) → ((k : ℕ) → b.choked k ≡ a.choked k) → b.asked ≡ a.asked ++ asks_in (run (state_of a.core told) events).acts → (more : List Happening) → b.taken ≡ a.taken ++ more → closings (run (state_of a.core told) events).acts ≡ closed → EndsAtQuit (state_of a.core told) events
    → MomentAdvances told a b closed events
MomentAdvances-takes told a b closed events did links used keep seats above parties alone alone' sent choked asked more taken closes stops = record {
  means = did.means;
  oracle = did.oracle;
  stops = stops;
  sides = OnOneSide-takes told a.core b.core events did links keep seats alone' above;
  hands = λ k plain.
      let keeps = same-keys connection_link k b.core.connections a.core.connections links in
      let acts = (run (state_of a.core told) events).acts in
      let bytes : unsent_on k b.core ≡ unsent_on k a.core ++ owed_to k acts =
      both-owed k acts (client_unsent_on k a.core.connections) (client_unsent_on k b.core.connections) (server_unsent_on k a.core.servers.seats) (server_unsent_on k b.core.servers.seats) (did.bytes k) (did.servers.lines k)
      (one-kind k a.core b.core keeps alone alone') in
      Delivers-stays (point k a) (point k b) (owed_to k acts)
      (rw used (gone-same k (nat_le k a.used) refl (parties k)))
      (rw taken (spoils-more k (a.choked k) (b.choked k) a.taken more (λ e. sym (choked k) ∙ e)))
      (ap (λ x. x ++ unsent_on k b.core) (sent k) ∙ ap (λ x. a.sent k ++ x) bytes ∙ sym (append_assoc (a.sent k) _ _))
      (λ e. sent k)
      (λ e. nothing_owed k a.core b.core acts (parties k (and_left (nat_le k a.used) (not (has_party k a.core)) e)) (gone-nobody k a.used a.core e) (did.bytes k) (did.servers.lines k));
  asks = asked;
  closes = closes;
  quits = did.quits;
} where
  gone-same : (k : ℕ) (t : Bool) → nat_le k a.used ≡ t → (nat_le k a.used ≡ true → has_party k b.core ≡ has_party k a.core) → (t && not (has_party k b.core)) ≡ (t && not (has_party k a.core))
  gone-same k true e same = ap not (same e)
  gone-same k false e same = refl

pub fresh_by : (k came used : ℕ) (t : Bool) → eqb came k ≡ t → came ≡ used + 1 → (p p' : Bool) → p' ≡ (p || t) → (nat_le k (used + 1) && not p') ≡ (nat_le k used && not p)
fresh_by k came used true e next p p' h =
    let same : came ≡ k = grind (arith, nat_tests) in
    let above : nat_le k used ≡ false = grind (arith, nat_tests) in
    rw above (ap (λ x. nat_le k (used + 1) && not x) (h ∙ or_always p) ∙ and-false (nat_le k (used + 1)))
  where
    or_always : (b : Bool) → (b || true) ≡ true
    or_always true = refl
    or_always false = refl

    and-false : (b : Bool) → (b && false) ≡ false
    and-false true = refl
    and-false false = refl
fresh_by k came used false e next p p' h =
    let other : came ≢ k = λ q. grind (arith, nat_tests) in
    let same : nat_le k (used + 1) ≡ nat_le k used = grind (arith, nat_tests) in
    rw same (ap (λ x. nat_le k used && not x) (h ∙ or-false p))

-- a client comes, or its link is refused
pub MomentAdvances-comes : (told : Beside) (a b : Moment) (closed : List Closed) (events : List Event) → b.used ≡ a.used + 1 → Means b.core (run (state_of a.core told) events).state → (run (state_of a.core told) events).state.oracle ≡ told.oracle → ((k : ℕ) → owed_to k (run (state_of a.core told) events).acts ≡ []) → OnOneSide a.core b.core (run (state_of a.core told) events).acts
    → ((k : ℕ) → unsent_on k b.core ≡ unsent_on k a.core) → ((k : ℕ) → (nat_le k (a.used + 1) && not (has_party k b.core)) ≡ (nat_le k a.used && not (has_party k a.core))) → b.core.quits ≡ a.core.quits → has_end (run (state_of a.core told) events).acts ≡ false
    → ((k : ℕ) → b.sent k ≡ a.sent k) → ((k : ℕ) → b.choked k ≡ a.choked k) → b.asked ≡ a.asked ++ asks_in (run (state_of a.core told) events).acts → (more : List Happening) → b.taken ≡ a.taken ++ more → closings (run (state_of a.core told) events).acts ≡ closed → EndsAtQuit (state_of a.core told) events
    → MomentAdvances told a b closed events
MomentAdvances-comes told a b closed events used means oracle owed sides bytes gone quits ends sent choked asked more taken closes stops = record {
  means = means;
  oracle = oracle;
  sides = sides;
  stops = stops;
  hands = λ k plain. rw (owed k)
      (Delivers-stays (point k a) (point k b) []
      (rw used (gone k))
      (rw taken (spoils-more k (a.choked k) (b.choked k) a.taken more (λ e. sym (choked k) ∙ e)))
      (ap (λ x. x ++ unsent_on k b.core) (sent k) ∙ ap (λ x. a.sent k ++ x) (bytes k) ∙ sym (append-nil _))
      (λ e. sent k)
      (λ e. refl));
  asks = asked;
  closes = closes;
  quits = quits ∙ sym (or-false a.core.quits) ∙ ap (λ x. a.core.quits || x) (sym ends);
}

-- nothing is owed, and what is handed to each link stays the same
pub MomentAdvances-none : (told : Beside) (a b : Moment) → Means b.core (state_of a.core told) → b.core.quits ≡ a.core.quits → ((k : ℕ) → (point k b).gone ≡ (point k a).gone) → ((k : ℕ) → (point k b).spoiled ≡ false → (point k a).spoiled ≡ false)
    → ((k : ℕ) → socket_on k b.taken ≡ false → (point k b).sent ++ (point k b).unsent ≡ (point k a).sent ++ (point k a).unsent) → ((k : ℕ) → socket_on k b.taken ≡ false → (point k a).gone ≡ true → b.sent k ≡ a.sent k) → OnOneSide a.core b.core [] → b.asked ≡ a.asked → MomentAdvances told a b [] []
MomentAdvances-none told a b means quits gone spoils bytes sent sides asked = record {
  means = means;
  oracle = refl;
  sides = sides;
  stops = tt;
  hands = λ k plain. Delivers-stays (point k a) (point k b) [] (gone k) (spoils k) (bytes k plain ∙ sym (append-nil _)) (sent k plain) (λ e. refl);
  asks = asked ∙ sym (append-nil a.asked);
  closes = refl;
  quits = quits ∙ sym (or-false a.core.quits);
}

means-stays : (told : Beside) (old new : CoreView) (stepped : Stepped) → new ≡ old → stepped ≡ no_step (state_of old told) → WereTold old told → Means new stepped.state
means-stays told old new stepped same none were =
    let P : CoreView → Type 0 = λ core. Means core stepped.state in
    let Q : State → Type 0 = λ state. Means old state in
    subst P (sym same) (subst Q (sym (ap (λ s. s.state) none)) (record { same = refl; told = were }))

-- the core stays
pub MomentAdvances-same : (told : Beside) (a b : Moment) → b.core ≡ a.core → b.used ≡ a.used → ((k : ℕ) → b.sent k ≡ a.sent k) → ((k : ℕ) → b.choked k ≡ a.choked k) → b.asked ≡ a.asked → (more : List Happening) → b.taken ≡ a.taken ++ more
    → (events : List Event) → run (state_of a.core told) events ≡ no_step (state_of a.core told) → WereTold a.core told → EndsAtQuit (state_of a.core told) events → MomentAdvances told a b [] events
MomentAdvances-same told a b core used sent choked asked more taken events none were stops =
    let acts : (run (state_of a.core told) events).acts ≡ [] = ap (λ s. s.acts) none in
    let quits : b.core.quits ≡ a.core.quits = ap (λ (c : CoreView). c.quits) core in
    record {
      means = means-stays told a.core b.core (run (state_of a.core told) events) core none were;
      oracle = ap (λ s. s.state.oracle) none;
      stops = stops;
      hands = λ k plain. subst (λ done. Delivers (point k a) (point k b) (owed_to k done)) (sym acts)
          (Delivers-stays (point k a) (point k b) [] (rw (used, core) refl) (rw taken (spoils-more k (a.choked k) (b.choked k) a.taken more (λ e. sym (choked k) ∙ e)))
          (rw (core, sent k) (sym (append-nil _))) (λ e. sent k) (λ e. refl));
      sides = subst (λ done. OnOneSide a.core b.core done) (sym acts) (rw core (OnOneSide-none a.core a.core refl (λ k e. e) (λ k e. e)));
      asks = subst (λ done. b.asked ≡ a.asked ++ asks_in done) (sym acts) (asked ∙ sym (append-nil a.asked));
      closes = ap closings acts;
      quits = quits ∙ sym (or-false a.core.quits) ∙ ap (λ done. a.core.quits || has_end done) (sym acts);
    }

-- Who is leaving is forgotten: servers before clients, the first one first.
use Rattle.std.proofs.Common.{◌≡◌, ◌≢◌, ℕ, ◌<◌, ◌⊎◌, inl, inr, Bool, true, false, not, eqb, ◌&&◌, ◌||◌, List, [], ◌∷◌, ◌++◌, map, All, Option, Some, None, IsSome, is_some, refl, sym, ap, ◌∙◌, subst, arith}
use Rattle.std.proofs.lemmas.Bool.{false≢true}
use Rattle.std.proofs.lemmas.Bool.Decides.{nat_tests}
use Rattle.std.proofs.lemmas.List.Elements.{All-head, All-append}
use Rattle.wc_text.specs.declared.names.LinkId.{LinkId}
use Rattle.wc_text.specs.declared.names.Cause.{Cause}
use Rattle.wc_outside.specs.Keyed.{at_key, without}
use Rattle.wc_board.specs.declared.connection.Connection.{Connection}
use Rattle.wc_board.specs.declared.connection.Departure.{Departure}
use Rattle.wc_board.specs.Connections.{connection_link, leaving_on, departure_of, departure_by}
use Rattle.wc_core.specs.State.{Beside}
use Rattle.wc_servers.specs.Seats.{SeatView, AreApart, AreSeats, seat_link, is_open, is_open_at, open_of, first_leaving, forgotten, leaving_on as server_leaving_on}
use Rattle.wc_core.specs.CoreView.{CoreView}
use Rattle.wc_core.specs.LinksSeen.{departure_in, departure_of_seat, departure_or, departure_by as server_departure_by}
use Rattle.wc_core.specs.Served.{links_of, clients_of, state_of, or_else, Distinct}
use Rattle.wc_turns.specs.declared.links.Closed.{Closed}
use Rattle.wc_turns.specs.Parties.{has_party, party_count, seat_closes, closes_asked}
use Rattle.wc_turns.specs.Parts.{leaving_of, SameParty}
use Rattle.wc_turns.specs.Served.{closed_by, leaving_closes}
use Rattle.wc_turns.specs.Turns.{OnOneSide, IsClients, IsServers}
use Rattle.wc_core.specs.ServersKept.{AreInOrder}
use Rattle.wc_servers.proofs.SeatLemmas.{seats_without}
use Rattle.wc_turns.proofs.KeyedLemmas.{at_key-filter_same, at_key-filter_other, without-missing, length-without, length-without_le, some_of, or-true}
use Rattle.wc_turns.proofs.PointLemmas.{AreAlone, none-if}
use Rattle.wc_turns.proofs.ConnectionLemmas.{departed-there, departed-first, departed-leaving, leaving-without, all-without, clients-forget}
use Rattle.wc_turns.proofs.SeatCloses.{close_of_seat, All-front, All-back, seats-without, leaves-first, none-leaves, open-forget, fewer-open, ranked-without}

-- ---- the first close that is asked for

abbrev pub first_close : List Closed → Option Departure
first_close [] = None
first_close (c ∷ cs) = Some (record { link = c.link; cause = c.cause })

first-client : (connections : List Connection) → departure_of connections ≡ first_close (leaving_closes connections)
first-client [] = refl
first-client (connection ∷ connections) = close-by connection.leaving (first-client connections)
  where
    close-by : (why : Option Cause) → departure_of connections ≡ first_close (leaving_closes connections) → departure_by connection.session.client.link why (departure_of connections) ≡ first_close (closed_by connection.session.client.link why ++ leaving_closes connections)
    close-by None ih = ih
    close-by (Some cause) ih = refl

-- a departure is the first close that is asked for
pub departure-close : (core : CoreView) → departure_in core ≡ first_close (closes_asked core)
departure-close core = first-by (first_leaving core.servers.seats) refl
  where
    why-by : (seat : SeatView) (why : Option Cause) → seat.leaving ≡ why → is_open seat ≡ false → (others : List Closed)
        → departure_or (server_departure_by seat.link why) (departure_of core.connections) ≡ first_close ((closed_by (record { 0 = seat.link }) why ++ others) ++ leaving_closes core.connections)
    why-by seat None e shut others = absurd (false≢true (sym (rw e at shut)))
    why-by seat (Some cause) e shut others = refl

    first-by : (o : Option SeatView) → first_leaving core.servers.seats ≡ o → departure_or (departure_of_seat o) (departure_of core.connections) ≡ first_close (seat_closes core.servers.seats ++ leaving_closes core.connections)
    first-by None e = first-client core.connections ∙ ap (λ cs. first_close (cs ++ leaving_closes core.connections)) (sym (none-leaves core.servers.seats e))
    first-by (Some seat) e =
        let first = leaves-first core.servers.seats seat e in
        why-by seat seat.leaving refl first.shut first.others ∙ ap (λ cs. first_close (cs ++ leaving_closes core.connections)) (sym first.front)

-- who is leaving first goes by the closes
pub departure-same : (old new : CoreView) (d : Departure) → closes_asked new ≡ closes_asked old → departure_in old ≡ Some d → departure_in new ≡ Some d
departure-same old new d e h = departure-close new ∙ ap first_close e ∙ sym (departure-close old) ∙ h

-- what holds of each close that is asked for holds of the first one
pub departed-all : (P : Closed → Type 0) (core : CoreView) (d : Departure) → departure_in core ≡ Some d → All P (closes_asked core) → P (record { link = d.link; cause = d.cause })
departed-all P core d e h = all-by (closes_asked core) (sym (departure-close core) ∙ e) h
  where
    all-by : (cs : List Closed) → first_close cs ≡ Some d → All P cs → P (record { link = d.link; cause = d.cause })
    all-by [] q g = absurd (let p : None ≡ Some d = q in cc)
    all-by (c ∷ cs) q g =
        let same : record { link = c.link; cause = c.cause } ≡ d = (let p : Some (record { link = c.link; cause = c.cause }) ≡ Some d = q in cc) in
        subst (λ (x : Departure). P (record { link = x.link; cause = x.cause })) same (All-head P c cs g)

-- where none is first, none is asked for
pub departed-calm : (core : CoreView) → departure_in core ≡ None → closes_asked core ≡ []
departed-calm core e = calm-by (closes_asked core) (sym (departure-close core) ∙ e)
  where
    calm-by : (cs : List Closed) → first_close cs ≡ None → cs ≡ []
    calm-by [] q = refl
    calm-by (c ∷ cs) q = absurd (let p : Some (record { link = c.link; cause = c.cause }) ≡ None = q in cc)

-- ---- who departs

pub record DepartsServer (core : CoreView) (d : Departure) : Type 0 where
  pub seat : SeatView
  pub first : first_leaving core.servers.seats ≡ Some seat
  pub link : d.link ≡ record { 0 = seat.link }
  pub why : seat.leaving ≡ Some d.cause

pub record DepartsClient (core : CoreView) (d : Departure) : Type 0 where
  pub none : first_leaving core.servers.seats ≡ None
  pub first : departure_of core.connections ≡ Some d

pub departs : (core : CoreView) (d : Departure) → departure_in core ≡ Some d → DepartsServer core d ⊎ DepartsClient core d
departs core d e = departs-by (first_leaving core.servers.seats) refl e
  where
    why-by : (seat : SeatView) → first_leaving core.servers.seats ≡ Some seat → (why : Option Cause) → seat.leaving ≡ why → departure_or (server_departure_by seat.link why) (departure_of core.connections) ≡ Some d → DepartsServer core d ⊎ DepartsClient core d
    why-by seat f None g q = absurd (let shut = (leaves-first core.servers.seats seat f).shut in false≢true (sym (rw g at shut)))
    why-by seat f (Some cause) g q =
        let same : record { link = record { 0 = seat.link }; cause = cause } ≡ d = (let p : Some (record { link = record { 0 = seat.link }; cause = cause }) ≡ Some d = q in cc) in
        inl (record { seat = seat; first = f; link = ap (λ (x : Departure). x.link) (sym same); why = g ∙ ap (λ (x : Departure). Some x.cause) same })

    departs-by : (o : Option SeatView) → first_leaving core.servers.seats ≡ o → departure_or (departure_of_seat o) (departure_of core.connections) ≡ Some d → DepartsServer core d ⊎ DepartsClient core d
    departs-by None f q = inr (record { none = f; first = q })
    departs-by (Some seat) f q = why-by seat f seat.leaving refl q

pub departed-party : (core : CoreView) (d : Departure) → departure_in core ≡ Some d → has_party d.link.0 core ≡ true
departed-party core d e = party-by (departs core d e)
  where
    party-by : DepartsServer core d ⊎ DepartsClient core d → has_party d.link.0 core ≡ true
    party-by (inl s) =
        let there = (leaves-first core.servers.seats s.seat s.first).there in
        let here : is_some (at_key seat_link d.link.0 core.servers.seats) ≡ true = ap (λ (l : LinkId). is_some (at_key seat_link l.0 core.servers.seats)) s.link ∙ there in
        ap (λ t. is_some (at_key connection_link d.link.0 core.connections) || t) here ∙ or-true (is_some (at_key connection_link d.link.0 core.connections))
    party-by (inr c) = ap (λ t. t || is_some (at_key seat_link d.link.0 core.servers.seats)) (departed-there core.connections d c.first)

some-second : (a b : Option Cause) → IsSome b → IsSome (or_else a b)
some-second None b h = h
some-second (Some cause) b h = refl

pub departed-why : (core : CoreView) (d : Departure) → departure_in core ≡ Some d → Distinct (links_of core) → AreApart (map seat_link core.servers.seats) → IsSome (leaving_of d.link.0 core)
departed-why core d e distinct apart = why-by (departs core d e)
  where
    why-by : DepartsServer core d ⊎ DepartsClient core d → IsSome (leaving_of d.link.0 core)
    why-by (inl s) =
        let found = (leaves-first core.servers.seats s.seat s.first).found apart in
        let leaves : server_leaving_on s.seat.link core.servers.seats ≡ Some d.cause = rw found s.why in
        rw (s.link, leaves) refl
    why-by (inr c) = some-second (server_leaving_on d.link.0 core.servers.seats) (leaving_on d.link.0 core.connections) (rw (departed-leaving core.connections d c.first distinct) refl)

-- ---- it is forgotten

abbrev pub forgot : ℕ → CoreView → CoreView
forgot link core = record core { connections = without connection_link link core.connections; servers = forgotten link core.servers }

-- a link of a server is none of a client
pub no-client-at : (core : CoreView) (k : ℕ) → AreAlone core → is_some (at_key seat_link k core.servers.seats) ≡ true → at_key connection_link k core.connections ≡ None
no-client-at core k alone there = none-by (is_some (at_key connection_link k core.connections)) refl
  where
    none-by : (t : Bool) → is_some (at_key connection_link k core.connections) ≡ t → at_key connection_link k core.connections ≡ None
    none-by true e = absurd (false≢true (sym (ap is_some (alone k e)) ∙ there))
    none-by false e = none-if (at_key connection_link k core.connections) e

pub departed-closes : (core : CoreView) (d : Departure) → departure_in core ≡ Some d → Distinct (links_of core) → AreSeats core.servers → AreAlone core → closes_asked core ≡ record { link = d.link; cause = d.cause } ∷ closes_asked (forgot d.link.0 core)
departed-closes core d e distinct seats alone = closes-by (departs core d e)
  where
    server-by : (s : DepartsServer core d) → closes_asked core ≡ record { link = record { 0 = s.seat.link }; cause = d.cause } ∷ closes_asked (forgot s.seat.link core)
    server-by s =
        let first = leaves-first core.servers.seats s.seat s.first in
        let one : close_of_seat s.seat ≡ record { link = record { 0 = s.seat.link }; cause = d.cause } ∷ [] = ap (closed_by (record { 0 = s.seat.link })) s.why in
        let rest = seat_closes (without seat_link s.seat.link core.servers.seats) in
        ap (λ cs. cs ++ leaving_closes core.connections) (first.closes seats.apart ∙ ap (λ cs. cs ++ rest) one)
        ∙ ap (λ xs. record { link = record { 0 = s.seat.link }; cause = d.cause } ∷ (rest ++ leaving_closes xs)) (sym (without-missing connection_link s.seat.link core.connections (no-client-at core s.seat.link alone first.there)))

    closes-by : DepartsServer core d ⊎ DepartsClient core d → closes_asked core ≡ record { link = d.link; cause = d.cause } ∷ closes_asked (forgot d.link.0 core)
    closes-by (inl s) = rw s.link (server-by s)
    closes-by (inr c) =
        let none = none-leaves core.servers.seats c.none in
        let absent : at_key seat_link d.link.0 core.servers.seats ≡ None = alone d.link.0 (departed-there core.connections d c.first) in
        let still : seat_closes (without seat_link d.link.0 core.servers.seats) ≡ [] = ap seat_closes (without-missing seat_link d.link.0 core.servers.seats absent) ∙ none in
        ap (λ cs. cs ++ leaving_closes core.connections) none ∙ departed-first core.connections d c.first distinct
        ∙ ap (λ cs. record { link = d.link; cause = d.cause } ∷ (cs ++ leaving_closes (without connection_link d.link.0 core.connections))) (sym still)

-- the state that the core means has none who is leaving
pub forgot-state : (core : CoreView) (d : Departure) → departure_in core ≡ Some d → Distinct (links_of core) → AreSeats core.servers → AreAlone core → (told : Beside) → state_of (forgot d.link.0 core) told ≡ state_of core told
forgot-state core d e distinct seats alone told = state-by (departs core d e)
  where
    both : (k : ℕ) → clients_of (without connection_link k core.connections) ≡ clients_of core.connections → open_of (without seat_link k core.servers.seats) ≡ open_of core.servers.seats → state_of (forgot k core) told ≡ state_of core told
    both k clients servers = ap (λ cs. record (state_of core told) { clients = cs; servers = open_of (without seat_link k core.servers.seats) }) clients ∙ ap (λ ss. record (state_of core told) { servers = ss }) servers

    state-by : DepartsServer core d ⊎ DepartsClient core d → state_of (forgot d.link.0 core) told ≡ state_of core told
    state-by (inl s) =
        let first = leaves-first core.servers.seats s.seat s.first in
        let k = s.seat.link in
        rw s.link (both k (ap clients_of (without-missing connection_link k core.connections (no-client-at core k alone first.there)))
        (open-forget k core.servers.seats seats.apart (ap is_open_at (first.found seats.apart) ∙ first.shut)))
    state-by (inr c) =
        let k = d.link.0 in
        both k (clients-forget k d.cause core.connections distinct (departed-leaving core.connections d c.first distinct))
        (ap open_of (without-missing seat_link k core.servers.seats (alone k (departed-there core.connections d c.first))))

-- ---- who is left

pub and-not-true : (b : Bool) → (b && not true) ≡ false
and-not-true true = refl
and-not-true false = refl

pub and-not-false : (b : Bool) → (b && not false) ≡ b
and-not-false true = refl
and-not-false false = refl

-- what has a key is taken out
pub closed-seen : {X : Type 0} (f : Option X → Bool) → f None ≡ false → (key : X → ℕ) (k link : ℕ) (t : Bool) → eqb k link ≡ t → (xs : List X) → (f (at_key key k xs) && not t) ≡ f (at_key key k (without key link xs))
closed-seen f none key k link true e xs =
    let same : k ≡ link = grind (arith, nat_tests) in
    and-not-true _ ∙ sym (ap f (ap (λ i. at_key key i (without key link xs)) same ∙ at_key-filter_same key link xs) ∙ none)
closed-seen f none key k link false e xs =
    let other : k ≢ link = λ q. grind (arith, nat_tests) in
    and-not-false _ ∙ ap f (sym (at_key-filter_other key link k xs other))

or-and : (a b t : Bool) → ((a && not t) || (b && not t)) ≡ ((a || b) && not t)
or-and true b true = and-not-true b
or-and true b false = refl
or-and false b t = refl

pub forgot-party : (k j : ℕ) (core : CoreView) → has_party k (forgot j core) ≡ (has_party k core && not (eqb k j))
forgot-party k j core =
    ap (λ t. t || is_some (at_key seat_link k (without seat_link j core.servers.seats))) (sym (closed-seen is_some refl connection_link k j (eqb k j) refl core.connections))
    ∙ ap (λ t. (is_some (at_key connection_link k core.connections) && not (eqb k j)) || t) (sym (closed-seen is_some refl seat_link k j (eqb k j) refl core.servers.seats))
    ∙ or-and (is_some (at_key connection_link k core.connections)) (is_some (at_key seat_link k core.servers.seats)) (eqb k j)

pub forgot-other : (k j : ℕ) (core : CoreView) → k ≢ j → SameParty k core (forgot j core)
forgot-other k j core n = record { client = at_key-filter_other connection_link j k core.connections n; server = at_key-filter_other seat_link j k core.servers.seats n }

pub forgot-here : (j : ℕ) (core : CoreView) → has_party j (forgot j core) ≡ false
forgot-here j core = let here : eqb j j ≡ true = grind (arith, nat_tests) in forgot-party j j core ∙ ap (λ t. has_party j core && not t) here ∙ and-not-true (has_party j core)

pub forgot-alone : (j : ℕ) (core : CoreView) → AreAlone core → AreAlone (forgot j core)
forgot-alone j core alone k there = alone-by (eqb k j) refl
  where
    alone-by : (t : Bool) → eqb k j ≡ t → at_key seat_link k (without seat_link j core.servers.seats) ≡ None
    alone-by true e = let same : k ≡ j = grind (arith, nat_tests) in ap (λ i. at_key seat_link i (without seat_link j core.servers.seats)) same ∙ at_key-filter_same seat_link j core.servers.seats
    alone-by false e =
        let other : k ≢ j = λ q. grind (arith, nat_tests) in
        at_key-filter_other seat_link j k core.servers.seats other ∙ alone k (sym (ap is_some (at_key-filter_other connection_link j k core.connections other)) ∙ there)

pub forgot-fewer : (j : ℕ) (core : CoreView) → has_party j core ≡ true → party_count (forgot j core) < party_count core
forgot-fewer j core there = fewer-by (is_some (at_key connection_link j core.connections)) refl there
  where
    fewer-by : (t : Bool) → is_some (at_key connection_link j core.connections) ≡ t → (t || is_some (at_key seat_link j core.servers.seats)) ≡ true → party_count (forgot j core) < party_count core
    fewer-by true e h =
        let less = length-without connection_link j core.connections (some_of _ e) in
        let most = length-without_le seat_link j core.servers.seats in
        omega arith
    fewer-by false e h =
        let less = length-without seat_link j core.servers.seats (some_of _ h) in
        let most = length-without_le connection_link j core.connections in
        omega arith

-- what holds of each close holds of those that are left
pub forgot-spares : (P : Closed → Type 0) (j : ℕ) (core : CoreView) → All P (closes_asked core) → All P (closes_asked (forgot j core))
forgot-spares P j core h =
    let seats = core.servers.seats in
    All-append P (seat_closes (without seat_link j seats)) (leaving_closes (without connection_link j core.connections))
    (seats-without P j seats (All-front P (seat_closes seats) (leaving_closes core.connections) h))
    (subst (All P) (sym (leaving-without j core.connections)) (all-without P j (leaving_closes core.connections) (All-back P (seat_closes seats) (leaving_closes core.connections) h)))

-- ---- what is kept of servers

pub forgot-seats : (j : ℕ) (core : CoreView) → AreSeats core.servers → AreSeats (forgot j core).servers
forgot-seats j core h = seats_without core.servers (forgotten j core.servers) j h refl refl

pub forgot-order : (j : ℕ) (core : CoreView) → AreInOrder core.servers → AreInOrder (forgot j core).servers
forgot-order j core h = record {
  ranked = ranked-without j core.servers.left core.servers.seats h.ranked;
  counted = (let c = h.counted in let l = fewer-open j core.servers.seats in omega arith);
}

was-there : {X : Type 0} (key : X → ℕ) (k j : ℕ) (xs : List X) → is_some (at_key key k (without key j xs)) ≡ true → is_some (at_key key k xs) ≡ true
was-there key k j xs h = there-by (is_some (at_key key k xs)) (closed-seen is_some refl key k j (eqb k j) refl xs ∙ h)
  where
    there-by : (t : Bool) → (t && not (eqb k j)) ≡ true → t ≡ true
    there-by true e = refl
    there-by false e = e

-- nothing is owed to anybody
pub forgot-sides : (j : ℕ) (core : CoreView) → OnOneSide core (forgot j core) []
forgot-sides j core = record {
  clients = λ k h. (clients-by k h, refl);
  servers = λ k h. (servers-by k h, refl);
} where
  clients-by : (k : ℕ) → IsClients k (forgot j core) → IsClients k core
  clients-by k (inl there) = inl (was-there connection_link k j core.connections there)
  clients-by k (inr above) = inr above

  servers-by : (k : ℕ) → IsServers k (forgot j core) → IsServers k core
  servers-by k (inl there) = inl (was-there seat_link k j core.servers.seats there)
  servers-by k (inr above) = inr above

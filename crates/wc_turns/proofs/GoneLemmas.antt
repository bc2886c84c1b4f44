-- Unsent bytes of a client or a server are gone.
use Rattle.std.proofs.Common.{◌≡◌, ◌≢◌, ℕ, ◌<◌, ◌≤◌, inl, inr, Bool, true, false, cond, eqb, ◌||◌, zero, suc, List, [], ◌∷◌, ◌++◌, length, map, take, drop, Option, Some, None, is_some, refl, sym, ap, ◌∙◌, subst, arith, append_assoc}
use Rattle.std.proofs.lemmas.Bool.{false≢true}
use Rattle.std.proofs.lemmas.Bool.Decides.{nat_tests}
use Rattle.std.proofs.lemmas.List.{append-nil, take-append-drop, length-append, length-drop}
use Rattle.wc_outside.specs.Keyed.{at_key, put_at}
use Rattle.wc_board.specs.declared.connection.Connection.{Connection}
use Rattle.wc_board.specs.Connections.{connection_link, is_open_at, leaving_in, leaving_on, unsent_in, unsent_on as client_unsent_on, unsent_at, gone_at}
use Rattle.wc_core.specs.State.{Beside}
use Rattle.wc_servers.specs.Seats.{SeatView, AreSeats, seat_link, leaving_on as server_leaving_on, unsent_in as server_unsent_in, unsent_on as server_unsent_on, unsent_at as server_unsent_at, gone_at as server_gone_at}
use Rattle.wc_core.specs.CoreView.{CoreView}
use Rattle.wc_core.specs.LinksSeen.{bytes_or, unsent_in_core, gone_in}
use Rattle.wc_core.specs.Served.{state_of, or_else}
use Rattle.wc_turns.specs.Parties.{has_party, seat_closes, closes_asked, unsent_on, IsCalm}
use Rattle.wc_turns.specs.Parts.{leaving_of, SameParty}
use Rattle.wc_turns.specs.Served.{leaving_closes}
use Rattle.wc_turns.specs.Turns.{OnOneSide, IsClients, IsServers}
use Rattle.wc_core.specs.ServersKept.{AreInOrder}
use Rattle.wc_servers.proofs.SeatLemmas.{seats_same}
use Rattle.wc_turns.proofs.KeyedLemmas.{at_key-key, at_key-put_same, at_key-put_other, same-keys, none_of}
use Rattle.wc_turns.proofs.PointLemmas.{AreAlone}
use Rattle.wc_turns.proofs.ConnectionLemmas.{leaving-gone, clients-gone, links-gone}
use Rattle.wc_turns.proofs.SeatCloses.{seats-gone-links, seats-gone-closes, seats-gone-open, seats-gone-why, ranked-gone}

-- ---- what is unsent of a link

none-by : (o : Option Connection) (p : Option SeatView) → None ≡ bytes_or (unsent_at o) (server_unsent_at p) → unsent_in o ++ server_unsent_in p ≡ []
none-by None None e = refl
none-by None (Some seat) e = absurd (let q : None ≡ Some seat.unsent = e in cc)
none-by (Some s) p e = absurd (let q : None ≡ Some s.session.unsent = e in cc)

pub none-given : (link : ℕ) (core : CoreView) → None ≡ unsent_in_core link core → unsent_on link core ≡ []
none-given link core e = none-by (at_key connection_link link core.connections) (at_key seat_link link core.servers.seats) e

some-by : (o : Option Connection) (p : Option SeatView) (bytes : List ℕ) → (is_some o ≡ true → p ≡ None) → Some bytes ≡ bytes_or (unsent_at o) (server_unsent_at p) → unsent_in o ++ server_unsent_in p ≡ bytes
some-by None None bytes alone e = absurd (let q : Some bytes ≡ None = e in cc)
some-by None (Some seat) bytes alone e = let q : Some bytes ≡ Some seat.unsent = e in cc
some-by (Some s) p bytes alone e =
    let same : s.session.unsent ≡ bytes = (let q : Some bytes ≡ Some s.session.unsent = e in cc) in
    ap (λ o. s.session.unsent ++ server_unsent_in o) (alone refl) ∙ append-nil s.session.unsent ∙ same

-- where no link has a client and a server, what is given is all that is unsent
pub some-given : (link : ℕ) (core : CoreView) (bytes : List ℕ) → AreAlone core → Some bytes ≡ unsent_in_core link core → unsent_on link core ≡ bytes
some-given link core bytes alone e = some-by (at_key connection_link link core.connections) (at_key seat_link link core.servers.seats) bytes (alone link) e

-- ---- what stays

pub gone-links : (link count : ℕ) (core : CoreView) (o : Option Connection) → at_key connection_link link core.connections ≡ o → map connection_link (gone_in link count core o).connections ≡ map connection_link core.connections
gone-links link count core None e = refl
gone-links link count core (Some s) e = links-gone link count core.connections (Some s) e

pub gone-seats : (link count : ℕ) (core : CoreView) (o : Option Connection) → at_key connection_link link core.connections ≡ o → map seat_link (gone_in link count core o).servers.seats ≡ map seat_link core.servers.seats
gone-seats link count core None e = seats-gone-links link count core.servers.seats (at_key seat_link link core.servers.seats) refl
gone-seats link count core (Some s) e = refl

pub gone-closes : (link count : ℕ) (core : CoreView) (o : Option Connection) → at_key connection_link link core.connections ≡ o → closes_asked (gone_in link count core o) ≡ closes_asked core
gone-closes link count core None e = ap (λ cs. cs ++ leaving_closes core.connections) (seats-gone-closes link count core.servers.seats (at_key seat_link link core.servers.seats) refl)
gone-closes link count core (Some s) e = ap (λ cs. seat_closes core.servers.seats ++ cs) (leaving-gone link count core.connections (Some s) e)

pub gone-wanted : (link count : ℕ) (core : CoreView) (o : Option Connection) → (gone_in link count core o).servers.wanted ≡ core.servers.wanted
gone-wanted link count core None = refl
gone-wanted link count core (Some s) = refl

pub gone-used : (link count : ℕ) (core : CoreView) (o : Option Connection) → (gone_in link count core o).servers.used ≡ core.servers.used
gone-used link count core None = refl
gone-used link count core (Some s) = refl

pub gone-quits : (link count : ℕ) (core : CoreView) (o : Option Connection) → (gone_in link count core o).quits ≡ core.quits
gone-quits link count core None = refl
gone-quits link count core (Some s) = refl

pub gone-starved : (link count : ℕ) (core : CoreView) (o : Option Connection) → (gone_in link count core o).starved ≡ core.starved
gone-starved link count core None = refl
gone-starved link count core (Some s) = refl

pub gone-verdicts : (link count : ℕ) (core : CoreView) (o : Option Connection) → (gone_in link count core o).verdicts ≡ core.verdicts
gone-verdicts link count core None = refl
gone-verdicts link count core (Some s) = refl

pub gone-saved : (link count : ℕ) (core : CoreView) (o : Option Connection) → (gone_in link count core o).saved ≡ core.saved
gone-saved link count core None = refl
gone-saved link count core (Some s) = refl

pub gone-unwritten : (link count : ℕ) (core : CoreView) (o : Option Connection) → (gone_in link count core o).unwritten ≡ core.unwritten
gone-unwritten link count core None = refl
gone-unwritten link count core (Some s) = refl

pub gone-calm : (link count : ℕ) (core : CoreView) (o : Option Connection) → at_key connection_link link core.connections ≡ o → IsCalm core → IsCalm (gone_in link count core o)
gone-calm link count core o e calm = record { parted = gone-closes link count core o e ∙ calm.parted; asked = gone-wanted link count core o ∙ calm.asked }

why-client : (link count : ℕ) (connections : List Connection) (s : Connection) → at_key connection_link link connections ≡ Some s → leaving_on link (gone_at link count connections (Some s)) ≡ leaving_on link connections
why-client link count connections s e =
    ap leaving_in (at_key-put_same connection_link link s (record s { session = record s.session { unsent = drop count s.session.unsent } }) connections (at_key-key connection_link link connections s e) e) ∙ ap leaving_in (sym e)

pub gone-why : (link count : ℕ) (core : CoreView) (o : Option Connection) → at_key connection_link link core.connections ≡ o → leaving_of link (gone_in link count core o) ≡ leaving_of link core
gone-why link count core None e = ap (λ w. or_else w (leaving_on link core.connections)) (seats-gone-why link count link core.servers.seats (at_key seat_link link core.servers.seats) refl)
gone-why link count core (Some s) e = ap (or_else (server_leaving_on link core.servers.seats)) (why-client link count core.connections s e)

seat-other : (link count k : ℕ) (seats : List SeatView) (o : Option SeatView) → at_key seat_link link seats ≡ o → k ≢ link → at_key seat_link k (server_gone_at link count seats o) ≡ at_key seat_link k seats
seat-other link count k seats None e n = refl
seat-other link count k seats (Some s) e n = at_key-put_other seat_link link k (record s { unsent = drop count s.unsent }) seats (at_key-key seat_link link seats s e) n

pub gone-other : (link count k : ℕ) (core : CoreView) (o : Option Connection) → at_key connection_link link core.connections ≡ o → k ≢ link → SameParty k core (gone_in link count core o)
gone-other link count k core None e n = record { client = refl; server = seat-other link count k core.servers.seats (at_key seat_link link core.servers.seats) refl n }
gone-other link count k core (Some s) e n = record {
  client = at_key-put_other connection_link link k (record s { session = record s.session { unsent = drop count s.session.unsent } }) core.connections (at_key-key connection_link link core.connections s e) n;
  server = refl;
}

pub same-unsent : (k : ℕ) (x y : CoreView) → SameParty k x y → unsent_on k y ≡ unsent_on k x
same-unsent k x y same = ap (λ o. unsent_in o ++ server_unsent_on k y.servers.seats) same.client ∙ ap (λ p. client_unsent_on k x.connections ++ server_unsent_in p) same.server

pub gone-has : (link count k : ℕ) (core : CoreView) (o : Option Connection) → at_key connection_link link core.connections ≡ o → has_party k (gone_in link count core o) ≡ has_party k core
gone-has link count k core o e =
    ap (λ t. t || is_some (at_key seat_link k (gone_in link count core o).servers.seats)) (same-keys connection_link k (gone_in link count core o).connections core.connections (gone-links link count core o e))
    ∙ ap (λ t. is_some (at_key connection_link k core.connections) || t) (same-keys seat_link k (gone_in link count core o).servers.seats core.servers.seats (gone-seats link count core o e))

-- whoever is open was so
pub gone-opens : (link count : ℕ) (core : CoreView) (o : Option Connection) → at_key connection_link link core.connections ≡ o → (k : ℕ) → is_open_at (at_key connection_link k (gone_in link count core o).connections) ≡ is_open_at (at_key connection_link k core.connections)
gone-opens link count core None e k = refl
gone-opens link count core (Some s) e k = by (eqb k link) refl
  where
    gone : Connection
    gone = record s { session = record s.session { unsent = drop count s.session.unsent } }

    by : (t : Bool) → eqb k link ≡ t → is_open_at (at_key connection_link k (put_at connection_link link gone core.connections)) ≡ is_open_at (at_key connection_link k core.connections)
    by true f =
        let same : link ≡ k = grind (arith, nat_tests) in
        let after : at_key connection_link link (put_at connection_link link gone core.connections) ≡ Some gone = at_key-put_same connection_link link s gone core.connections (at_key-key connection_link link core.connections s e) e in
        subst (λ i. is_open_at (at_key connection_link i (put_at connection_link link gone core.connections)) ≡ is_open_at (at_key connection_link i core.connections)) same (ap is_open_at after ∙ sym (ap is_open_at e))
    by false f =
        let other : k ≢ link = λ q. grind (arith, nat_tests) in
        ap is_open_at (at_key-put_other connection_link link k gone core.connections (at_key-key connection_link link core.connections s e) other)

pub gone-state : (link count : ℕ) (core : CoreView) (o : Option Connection) → at_key connection_link link core.connections ≡ o → (told : Beside) → state_of (gone_in link count core o) told ≡ state_of core told
gone-state link count core None e told = ap (λ ss. record (state_of core told) { servers = ss }) (seats-gone-open link count core.servers.seats (at_key seat_link link core.servers.seats) refl)
gone-state link count core (Some s) e told = ap (λ cs. record (state_of core told) { clients = cs }) (clients-gone link count core.connections (Some s) e)

-- ---- what is left of the link

seat-left : (link count : ℕ) (seats : List SeatView) (o : Option SeatView) → at_key seat_link link seats ≡ o → server_unsent_on link (server_gone_at link count seats o) ≡ drop count (server_unsent_in o)
seat-left link count seats None e = ap server_unsent_in e ∙ sym (drop_none count (server_unsent_in None) refl)
  where
    drop_none : (n : ℕ) (xs : List ℕ) → xs ≡ [] → drop n xs ≡ xs
    drop_none zero xs q = refl
    drop_none (suc n) [] q = refl
    drop_none (suc n) (x ∷ xs) q = cc
seat-left link count seats (Some s) e = ap server_unsent_in (at_key-put_same seat_link link s (record s { unsent = drop count s.unsent }) seats (at_key-key seat_link link seats s e) e)

pub left-by : (link count : ℕ) (core : CoreView) (o : Option Connection) (bytes : List ℕ) → at_key connection_link link core.connections ≡ o → AreAlone core → unsent_on link core ≡ bytes → unsent_on link (gone_in link count core o) ≡ drop count bytes
left-by link count core None bytes e alone u =
    let same : server_unsent_on link core.servers.seats ≡ bytes = ap (λ o. unsent_in o ++ server_unsent_on link core.servers.seats) (sym e) ∙ u in
    ap (λ o. unsent_in o ++ server_unsent_on link (server_gone_at link count core.servers.seats (at_key seat_link link core.servers.seats))) e
    ∙ seat-left link count core.servers.seats (at_key seat_link link core.servers.seats) refl ∙ ap (drop count) same
left-by link count core (Some s) bytes e alone u =
    let none : at_key seat_link link core.servers.seats ≡ None = alone link (ap is_some e) in
    let same : s.session.unsent ≡ bytes = sym (append-nil s.session.unsent) ∙ ap (λ p. s.session.unsent ++ server_unsent_in p) (sym none) ∙ ap (λ o. unsent_in o ++ server_unsent_on link core.servers.seats) (sym e) ∙ u in
    let gone = record s { session = record s.session { unsent = drop count s.session.unsent } } in
    let after : at_key connection_link link (put_at connection_link link gone core.connections) ≡ Some gone = at_key-put_same connection_link link s gone core.connections (at_key-key connection_link link core.connections s e) e in
    ap (λ o. unsent_in o ++ server_unsent_on link core.servers.seats) after ∙ ap (λ p. drop count s.session.unsent ++ server_unsent_in p) none ∙ append-nil (drop count s.session.unsent) ∙ ap (drop count) same

-- what was given of the unsent bytes of a link, and is sent
pub gone-handed : (k link count : ℕ) (core : CoreView) (o : Option Connection) (bytes sent sent' : List ℕ) → at_key connection_link link core.connections ≡ o → AreAlone core → unsent_on link core ≡ bytes → sent' ≡ sent ++ cond (eqb k link) (take count bytes) []
    → sent' ++ unsent_on k (gone_in link count core o) ≡ sent ++ unsent_on k core
gone-handed k link count core o bytes sent sent' e alone u h = handed-by (eqb k link) refl h
  where
    handed-by : (t : Bool) → eqb k link ≡ t → sent' ≡ sent ++ cond t (take count bytes) [] → sent' ++ unsent_on k (gone_in link count core o) ≡ sent ++ unsent_on k core
    handed-by true f g =
        let same : link ≡ k = grind (arith, nat_tests) in
        let left : unsent_on k (gone_in link count core o) ≡ drop count bytes = subst (λ i. unsent_on i (gone_in link count core o) ≡ drop count bytes) same (left-by link count core o bytes e alone u) in
        let before : bytes ≡ unsent_on k core = subst (λ i. bytes ≡ unsent_on i core) same (sym u) in
        ap (λ xs. xs ++ unsent_on k (gone_in link count core o)) g ∙ ap (λ xs. (sent ++ take count bytes) ++ xs) left ∙ append_assoc sent (take count bytes) (drop count bytes) ∙ ap (λ xs. sent ++ xs) (take-append-drop count bytes ∙ before)
    handed-by false f g =
        let other : k ≢ link = λ q. grind (arith, nat_tests) in
        ap (λ xs. xs ++ unsent_on k (gone_in link count core o)) (g ∙ append-nil sent) ∙ ap (λ xs. sent ++ xs) (same-unsent k core (gone_in link count core o) (gone-other link count k core o e other))

-- fewer bytes are left
less-client : (o : Option Connection) (p : Option SeatView) (bytes : List ℕ) → Some bytes ≡ bytes_or (unsent_at o) (server_unsent_at p) → 1 ≤ length bytes → 1 ≤ length (unsent_in o ++ server_unsent_in p)
less-client None None bytes e one = absurd (let q : Some bytes ≡ None = e in cc)
less-client None (Some seat) bytes e one = let same : bytes ≡ seat.unsent = (let q : Some bytes ≡ Some seat.unsent = e in cc) in let l = ap length same in omega arith
less-client (Some s) p bytes e one =
    let same : bytes ≡ s.session.unsent = (let q : Some bytes ≡ Some s.session.unsent = e in cc) in
    let l = ap length same in
    let both = length-append s.session.unsent (server_unsent_in p) in
    omega arith

pub gone-less : (link count : ℕ) (core : CoreView) (o : Option Connection) (bytes : List ℕ) → at_key connection_link link core.connections ≡ o → Some bytes ≡ unsent_in_core link core → 1 ≤ count → count ≤ length bytes → length (unsent_on link (gone_in link count core o)) < length (unsent_on link core)
gone-less link count core o bytes e u one within = less-by o e
  where
    given : (q : Option Connection) → at_key connection_link link core.connections ≡ q → Some bytes ≡ bytes_or (unsent_at q) (server_unsent_at (at_key seat_link link core.servers.seats))
    given q f = u ∙ ap (λ o'. bytes_or (unsent_at o') (server_unsent_at (at_key seat_link link core.servers.seats))) f

    seat-by : (p : Option SeatView) → at_key seat_link link core.servers.seats ≡ p → Some bytes ≡ server_unsent_at p → length (server_unsent_on link (server_gone_at link count core.servers.seats p)) < length (server_unsent_in p)
    seat-by None f g = absurd (let q : Some bytes ≡ None = g in cc)
    seat-by (Some seat) f g =
        let same : bytes ≡ seat.unsent = (let q : Some bytes ≡ Some seat.unsent = g in cc) in
        let l = ap length same in
        let after = ap length (seat-left link count core.servers.seats (Some seat) f) in
        let dropped = length-drop count seat.unsent in
        omega arith

    less-by : (q : Option Connection) → at_key connection_link link core.connections ≡ q → length (unsent_on link (gone_in link count core q)) < length (unsent_on link core)
    less-by None f =
        let now = ap (λ o'. length (unsent_in o' ++ server_unsent_on link (server_gone_at link count core.servers.seats (at_key seat_link link core.servers.seats)))) f in
        let before = ap (λ o'. length (unsent_in o' ++ server_unsent_on link core.servers.seats)) f in
        let less = seat-by (at_key seat_link link core.servers.seats) refl (given None f) in
        omega arith
    less-by (Some s) f =
        let same : bytes ≡ s.session.unsent = (let q : Some bytes ≡ Some s.session.unsent = given (Some s) f in cc) in
        let l = ap length same in
        let gone = record s { session = record s.session { unsent = drop count s.session.unsent } } in
        let after : at_key connection_link link (put_at connection_link link gone core.connections) ≡ Some gone = at_key-put_same connection_link link s gone core.connections (at_key-key connection_link link core.connections s f) f in
        let now = ap (λ o'. length (unsent_in o' ++ server_unsent_on link core.servers.seats)) after in
        let before = ap (λ o'. length (unsent_in o' ++ server_unsent_on link core.servers.seats)) f in
        let parts = length-append s.session.unsent (server_unsent_on link core.servers.seats) in
        let parts' = length-append (drop count s.session.unsent) (server_unsent_on link core.servers.seats) in
        let dropped = length-drop count s.session.unsent in
        omega arith

-- nothing is sent on a link where nobody is
pub gone-nothing : (k link count : ℕ) (core : CoreView) (bytes sent sent' : List ℕ) → Some bytes ≡ unsent_in_core link core → has_party k core ≡ false → sent' ≡ sent ++ cond (eqb k link) (take count bytes) [] → sent' ≡ sent
gone-nothing k link count core bytes sent sent' u nobody h = nothing-by (eqb k link) refl h
  where
    there-by : (o : Option Connection) (p : Option SeatView) → Some bytes ≡ bytes_or (unsent_at o) (server_unsent_at p) → (is_some o || is_some p) ≡ true
    there-by None None e = absurd (let q : Some bytes ≡ None = e in cc)
    there-by None (Some seat) e = refl
    there-by (Some s) p e = refl

    nothing-by : (t : Bool) → eqb k link ≡ t → sent' ≡ sent ++ cond t (take count bytes) [] → sent' ≡ sent
    nothing-by true f g =
        let same : link ≡ k = grind (arith, nat_tests) in
        let there : has_party k core ≡ true = subst (λ i. has_party i core ≡ true) same (there-by (at_key connection_link link core.connections) (at_key seat_link link core.servers.seats) u) in
        absurd (false≢true (sym nobody ∙ there))
    nothing-by false f g = g ∙ append-nil sent

-- ---- what is kept of servers

pub gone-seated : (link count : ℕ) (core : CoreView) (o : Option Connection) → at_key connection_link link core.connections ≡ o → AreSeats core.servers → AreSeats (gone_in link count core o).servers
gone-seated link count core o e h = seats_same core.servers (gone_in link count core o).servers (gone-seats link count core o e) (let u = gone-used link count core o in omega arith) h

pub gone-order : (link count : ℕ) (core : CoreView) (o : Option Connection) → AreInOrder core.servers → AreInOrder (gone_in link count core o).servers
gone-order link count core None h = record {
  ranked = ranked-gone link count core.servers.left core.servers.seats (at_key seat_link link core.servers.seats) refl h.ranked;
  counted = (let c = h.counted in let l = ap length (seats-gone-open link count core.servers.seats (at_key seat_link link core.servers.seats) refl) in omega arith);
}
gone-order link count core (Some s) h = h

pub gone-alone : (link count : ℕ) (core : CoreView) (o : Option Connection) → at_key connection_link link core.connections ≡ o → AreAlone core → AreAlone (gone_in link count core o)
gone-alone link count core o e alone k there =
    let before : is_some (at_key connection_link k core.connections) ≡ true = sym (same-keys connection_link k (gone_in link count core o).connections core.connections (gone-links link count core o e)) ∙ there in
    none_of _ (same-keys seat_link k (gone_in link count core o).servers.seats core.servers.seats (gone-seats link count core o e) ∙ ap is_some (alone k before))

-- nothing is owed to anybody
pub gone-sides : (link count : ℕ) (core : CoreView) (o : Option Connection) → at_key connection_link link core.connections ≡ o → OnOneSide core (gone_in link count core o) []
gone-sides link count core o e = record {
  clients = λ k h. (clients-by k h, refl);
  servers = λ k h. (servers-by k h, refl);
} where
  clients-by : (k : ℕ) → IsClients k (gone_in link count core o) → IsClients k core
  clients-by k (inl there) = inl (sym (same-keys connection_link k (gone_in link count core o).connections core.connections (gone-links link count core o e)) ∙ there)
  clients-by k (inr above) = inr (let u = gone-used link count core o in omega arith)

  servers-by : (k : ℕ) → IsServers k (gone_in link count core o) → IsServers k core
  servers-by k (inl there) = inl (sym (same-keys seat_link k (gone_in link count core o).servers.seats core.servers.seats (gone-seats link count core o e)) ∙ there)
  servers-by k (inr above) = inr (let u = gone-used link count core o in omega arith)

pub gone-world : (link count : ℕ) (core : CoreView) (o : Option Connection) → (gone_in link count core o).world ≡ core.world
gone-world link count core None = refl
gone-world link count core (Some s) = refl

pub gone-pending : (link count : ℕ) (core : CoreView) (o : Option Connection) → (gone_in link count core o).pending ≡ core.pending
gone-pending link count core None = refl
gone-pending link count core (Some s) = refl

-- What the core asks for after an event is done.
use Rattle.wc_core.specs.CoreView.{CoreView}
use Rattle.wc_turns.specs.Heard.{Heard, Happened, happenings}
use Rattle.wc_turns.specs.Turns.{AgreesWithHeard}
use Rattle.wc_turns.proofs.HeardLemmas.{quiet-happened}
use Rattle.wc_turns.proofs.HeardAgrees.{Hears-quiet, Hears-used}
use Rattle.wc_turns.proofs.AskLemmas.{with_wanted, positive, begun}
use Rattle.wc_turns.specs.declared.headless.Headless.{Headless}
use Rattle.wc_outside.specs.Seen.{Seen}
use Rattle.wc_turns.specs.Parts.{AsksWanted, leaving_of, ClosesLeaving, Settles}
use Rattle.wc_turns.proofs.SourceLemmas.{NothingBecameReady-refl, TakesNothing-refl, NothingBecameReady-trans, TakesNothing-trans}
use Rattle.wc_turns.proofs.ContainedLemmas.{KeepsLinks-refl, KeepsLinks-trans}
use Rattle.std.proofs.Common.{IsTrue, IsSome, append-nil, ◌≡◌, ◌∙◌, ◌⊎◌, ◌≢◌, ◌++◌, ◌∷◌, ◌+◌, ◌^◌, ◌≤◌, ◌<◌, ◌&&◌, ◌||◌, inl, inr, [], refl, sym, ap, subst, Bool, true, false, ℕ, List, Option, None, Some, not, eqb, length, arith, is_none, is_some, map}
use Rattle.wc_servers.specs.Seats.{SeatView, seat_link, leaving_in as seat_leaving_in, is_open_at as is_seat_open, unsent_at as server_unsent_at}
use Rattle.wc_turns.specs.Parties.{has_party, has_open, party_count, closes_asked, IsCalm}
use Rattle.wc_core.specs.Served.{or_else}
use Rattle.wc_board.specs.Connections.{leaving_in, leaving_on, is_open_at, unsent_at, connection_link}
use Rattle.wc_turns.proofs.SeatLemmas.{seats-still}
use Rattle.wc_turns.proofs.PartyLemmas.{calm-seats, calm-clients}
use Rattle.wc_turns.proofs.ConnectionLemmas.{calm-leaving}
use Rattle.wc_text.specs.declared.names.Cause.{Cause}
use Rattle.wc_turns.proofs.ForgetLemmas.{and-not-true, and-not-false}
use Rattle.wc_turns.proofs.KeyedLemmas.{or-false}
use Rattle.wc_text.specs.declared.names.LinkId.{LinkId}
use Rattle.wc_turns.specs.Steps.{DropsLink}
use Rattle.wc_turns.specs.Turns.{AgreesWithHappenings, AgreesWithSockets}
use Rattle.wc_outside.specs.declared.happening.Happening.{Happening}
use Rattle.wc_servers.specs.declared.wanted.Wanted.{Wanted}
use Rattle.wc_turns.specs.Events.{refused_since}
use Rattle.wc_turns.specs.Links.{link_number, IsUnkept, AreAllBut}
use Rattle.wc_turns.proofs.AgreesLemmas.{For-dropped, For-named}
use Rattle.wc_turns.proofs.ListedLemmas.{since-as, but-push, but-passed}
use Rattle.wc_outside.specs.declared.happening.Happening.TheVariants.{Refused}
use Rattle.std.proofs.lemmas.List.{length-append}
use Rattle.std.proofs.lemmas.Bool.{false≢true}
use Rattle.std.proofs.lemmas.Bool.Decides.{nat_tests}
use Rattle.wc_core.specs.LinksSeen.{unsent_in_core, bytes_or, gone_in}
use Rattle.wc_outside.specs.Keyed.{at_key}
use Rattle.wc_board.specs.declared.connection.Connection.{Connection}
use Rattle.wc_turns.proofs.GoneLemmas.{gone-links, gone-seats}

-- none is wanted any more
pub none-left : (x core : CoreView) → core ≡ with_wanted core.servers.wanted x → x.servers.wanted ≡ [] → core.servers.wanted ≡ [] → core ≡ x
none-left x core same before after = same ∙ ap (λ w. with_wanted w x) (after ∙ sym before)

pub AsksWanted-refl : (x : Headless) (a : Seen) → AsksWanted x x a a
AsksWanted-refl x a = record { falls = NothingBecameReady-refl a; nothing = TakesNothing-refl a; quits = refl; contained = KeepsLinks-refl x; fewer = omega arith; lost = λ k was gone. absurd (false≢true (sym gone ∙ was)); gone = λ k none. none; parted = λ k leaves. inr leaves; stands = λ k low h. h }

pub AsksWanted-trans : (x y z : Headless) (a b c : Seen) → (IsTrue c.tells → IsTrue b.tells) → AsksWanted x y a b → AsksWanted y z b c → AsksWanted x z a c
AsksWanted-trans x y z a b c told h g = record {
  falls = NothingBecameReady-trans a b c h.falls g.falls;
  nothing = TakesNothing-trans a b c told h.nothing g.nothing;
  quits = g.quits ∙ h.quits;
  contained = KeepsLinks-trans x y z h.contained g.contained;
  fewer = (let p = h.fewer in let q = g.fewer in omega arith);
  lost = λ k was gone. lost-by k was gone (has_party k y.core) refl;
  gone = λ k none. g.gone k (h.gone k none);
  parted = λ k leaves. parted-by k (h.parted k leaves);
  stands = λ k low s. g.stands k (let u = h.contained.used in omega arith) (h.stands k low s);
} where
  lost-by : (k : ℕ) → has_party k x.core ≡ true → has_party k z.core ≡ false → (t : Bool) → has_party k y.core ≡ t → party_count z.core < party_count x.core
  lost-by k was gone true e = (let p = h.fewer in let q = g.lost k e gone in omega arith)
  lost-by k was gone false e = (let p = h.lost k was e in let q = g.fewer in omega arith)

  parted-by : (k : ℕ) → (has_party k y.core ≡ false) ⊎ IsSome (leaving_of k y.core) → (has_party k z.core ≡ false) ⊎ IsSome (leaving_of k z.core)
  parted-by k (inl none) = inl (g.gone k none)
  parted-by k (inr leaves) = g.parted k leaves

-- where nobody is leaving, nobody at a link is
calm-why : (core : CoreView) → closes_asked core ≡ [] → (k : ℕ) → leaving_of k core ≡ None
calm-why core calm k =
    let asked : IsCalm (with_wanted [] core) = record { parted = calm; asked = refl } in
    ap (λ o. or_else o (leaving_on k core.connections)) (seats-still core.servers.seats (calm-seats (with_wanted [] core) asked) k)
    ∙ calm-leaving k core.connections (calm-clients (with_wanted [] core) asked)

-- and who is at a link is open
pub calm-open : (k : ℕ) (core : CoreView) → IsCalm core → has_party k core ≡ true → has_open k core ≡ true
calm-open k core calm there = by (at_key connection_link k core.connections) (at_key seat_link k core.servers.seats) (calm-leaving k core.connections (calm-clients core calm)) (seats-still core.servers.seats (calm-seats core calm) k) there
  where
    by : (o : Option Connection) (p : Option SeatView) → leaving_in o ≡ None → seat_leaving_in p ≡ None → (is_some o || is_some p) ≡ true → (is_open_at o || is_seat_open p) ≡ true
    by None None a b h = absurd (false≢true h)
    by None (Some seat) a b h = ap is_none b
    by (Some connection) p a b h = ap (λ o. is_none o || is_seat_open p) a

-- first the connections are asked for, and then the links are closed
pub Settles-both : (x y z : Headless) (a b c : Seen) → (IsTrue c.tells → IsTrue b.tells) → AsksWanted x y a b → y.core.servers.wanted ≡ [] → ClosesLeaving y z b c → closes_asked z.core ≡ [] → Settles x z a c
Settles-both x y z a b c told asks wanted closes calm = record {
  falls = NothingBecameReady-trans a b c asks.falls closes.falls;
  nothing = TakesNothing-trans a b c told asks.nothing closes.nothing;
  quits = closes.quits ∙ asks.quits;
  calm = record { parted = calm; asked = closes.wanted ∙ wanted };
  contained = KeepsLinks-trans x y z asks.contained closes.contained;
  fewer = (let p = asks.fewer in let q = closes.fewer in omega arith);
  lost = λ k was gone. lost-by k was gone (has_party k y.core) refl;
  parted = λ k leaves. parted-by k (asks.parted k leaves) (closes.parted k);
  stands = λ k low s. closes.stands k (asks.stands k low s);
} where
  lost-by : (k : ℕ) → has_party k x.core ≡ true → has_party k z.core ≡ false → (t : Bool) → has_party k y.core ≡ t → party_count z.core < party_count x.core
  lost-by k was gone true e = (let p = asks.fewer in let q = closes.lost k e gone in omega arith)
  lost-by k was gone false e = (let p = asks.lost k was e in let q = closes.fewer in omega arith)

  parted-by : (k : ℕ) → (has_party k y.core ≡ false) ⊎ IsSome (leaving_of k y.core) → (has_party k z.core ≡ false) ⊎ ((leaving_of k z.core ≡ leaving_of k y.core) × (has_party k z.core ≡ has_party k y.core)) → has_party k z.core ≡ false
  parted-by k h (inl none) = none
  parted-by k (inl none) (inr same) = same.1 ∙ none
  parted-by k (inr leaves) (inr same) = absurd (some-none (leaving_of k y.core) (sym same.0 ∙ calm-why z.core calm k) leaves)
    where
      some-none : (o : Option Cause) → o ≡ None → IsSome o → ⊥
      some-none None e h = false≢true h
      some-none (Some cause) e h = let q : Some cause ≡ None = e in cc

-- ---- a link that is closed as it was begun

pub shut-flag : (k link : ℕ) (t f : Bool) → (k ≡ link → f ≡ false) → t ≡ f → ((t || eqb link k) && not (eqb k link)) ≡ f
shut-flag k link t f none e = flag-by (eqb k link) refl (eqb link k) refl
  where
    flag-by : (u : Bool) → eqb k link ≡ u → (v : Bool) → eqb link k ≡ v → ((t || v) && not u) ≡ f
    flag-by true p v q = (let same : k ≡ link = grind (arith, nat_tests) in and-not-true (t || v) ∙ sym (none same))
    flag-by false p true q = absurd (let same : link ≡ k = grind (arith, nat_tests) in let n : k ≢ link = grind (arith, nat_tests) in n (sym same))
    flag-by false p false q = and-not-false (t || false) ∙ or-false t ∙ e

pub kept-flag : (k link : ℕ) (t f : Bool) → (k ≡ link → f ≡ false) → t ≡ f → (t && not (eqb k link)) ≡ f
kept-flag k link t f none e = flag-by (eqb k link) refl
  where
    flag-by : (u : Bool) → eqb k link ≡ u → (t && not u) ≡ f
    flag-by true p = (let same : k ≡ link = grind (arith, nat_tests) in and-not-true t ∙ sym (none same))
    flag-by false p = and-not-false t ∙ e

-- ---- what was taken where a connection has no record

none-listed : (listed : List LinkId) → (listed ≡ []) ⊎ (listed ≡ []) → listed ≡ []
none-listed listed (inl e) = e
none-listed listed (inr e) = e

-- it was begun
pub told-begun : (x x' y : Headless) (taken : List Happening) (wanted : Wanted) → DropsLink x' y wanted false → x'.used ≡ x.used → x'.refused ≡ x.refused → x'.unlisted ≡ x.unlisted → wanted.link.0 ≡ x.used + 1 → 1 ≤ x.ran → x.used < 2 ^ 62
    → AgreesWithHappenings x.clock x.links.opened.items x.used x.ran x.refused.items x.unlisted taken → AgreesWithHappenings x.clock x.links.opened.items y.used x.ran y.refused.items y.unlisted (taken ++ [])
told-begun x x' y taken wanted drops used refused unlisted next begun low s =
    let none : drops.listed ≡ [] = none-listed drops.listed drops.fits in
    let lists : y.refused.items ≡ x.refused.items = drops.lists ∙ ap (λ ls. x'.refused.items ++ ls) none ∙ append-nil _ ∙ ap (λ v. v.items) refused in
    let few = s.within in
    let size = ap length none in
    let count : y.unlisted ≡ x.unlisted = (let e = drops.counted (let q = unlisted in omega arith) in omega arith) in
    rw (append-nil taken, lists, count) (For-dropped x.clock x.links.opened.items x.used y.used x.ran x.refused.items x.unlisted taken (drops.used ∙ next) begun s)

-- it was refused
pub told-refused : (x x' y : Headless) (taken : List Happening) (wanted : Wanted) → DropsLink x' y wanted true → x'.used ≡ x.used → x'.refused ≡ x.refused → x'.unlisted ≡ x.unlisted → wanted.link.0 ≡ x.used + 1 → at_key link_number wanted.link.0 x.links.opened.items ≡ None → 1 ≤ x.ran → x.used < 2 ^ 62
    → AgreesWithHappenings x.clock x.links.opened.items x.used x.ran x.refused.items x.unlisted taken → AgreesWithHappenings x.clock x.links.opened.items y.used x.ran y.refused.items y.unlisted (taken ++ Refused wanted.link ∷ [])
told-refused x x' y taken wanted drops used refused unlisted next missing begun low s =
    let few = s.within in
    let size = ap length drops.lists in
    let more = length-append x'.refused.items drops.listed in
    let before = ap (λ v. length v.items) refused in
    let e = drops.counted (let q = unlisted in omega arith) in
    let now = drops.used in
    let count : length y.refused.items + y.unlisted ≡ length x.refused.items + x.unlisted + 1 = omega arith in
    For-named x.clock x.links.opened.items x.used y.used x.ran x.refused.items y.refused.items x.unlisted y.unlisted taken wanted.link (omega arith) (omega arith) begun (since drops.fits) count s
  where
    here : wanted.link.0 ≤ y.used
    here = let now = drops.used in omega arith

    before : AreAllBut (IsUnkept x.links.opened.items y.used) x.refused.items (refused_since taken)
    before = since-as x.links.opened.items x.links.opened.items x.used y.used x.refused.items (refused_since taken) (let now = drops.used in omega arith) (λ k below none. none) s.since

    lists : y.refused.items ≡ x.refused.items ++ drops.listed
    lists = drops.lists ∙ ap (λ v. v.items ++ drops.listed) refused

    since : (drops.listed ≡ wanted.link ∷ []) ⊎ (drops.listed ≡ []) → AreAllBut (IsUnkept x.links.opened.items y.used) y.refused.items (refused_since taken ++ wanted.link ∷ [])
    since (inl e) = subst (λ ls. AreAllBut (IsUnkept x.links.opened.items y.used) ls (refused_since taken ++ wanted.link ∷ [])) (sym (lists ∙ ap (λ ls. x.refused.items ++ ls) e)) (but-push (IsUnkept x.links.opened.items y.used) x.refused.items (refused_since taken) wanted.link before)
    since (inr e) = subst (λ ls. AreAllBut (IsUnkept x.links.opened.items y.used) ls (refused_since taken ++ wanted.link ∷ [])) (sym (lists ∙ ap (λ ls. x.refused.items ++ ls) e ∙ append-nil x.refused.items)) (but-passed (IsUnkept x.links.opened.items y.used) x.refused.items (refused_since taken) wanted.link (here, missing) before)

-- what was heard, where it was begun
pub hears-begun : (x x' y : Headless) (taken : List Happening) (history : List Heard) (wanted : Wanted) → DropsLink x' y wanted false → wanted.link.0 ≡ x.used + 1
    → AgreesWithHeard x.links.opened.items x.used x.ran taken history → AgreesWithHeard x.links.opened.items y.used x.ran (taken ++ []) (history ++ [])
hears-begun x x' y taken history wanted drops next h =
    rw (append-nil taken, append-nil history) (Hears-used x.links.opened.items x.used y.used x.ran taken history (let u = drops.used in omega arith) h)

-- and where it was refused
pub hears-refused : (x x' y : Headless) (taken : List Happening) (history : List Heard) (wanted : Wanted) → DropsLink x' y wanted true → wanted.link.0 ≡ x.used + 1 → happenings history ≡ taken
    → AgreesWithHeard x.links.opened.items x.used x.ran taken history → AgreesWithHeard x.links.opened.items y.used x.ran (taken ++ Refused wanted.link ∷ []) (history ++ Happened (Refused wanted.link) ∷ [])
hears-refused x x' y taken history wanted drops next spells h =
    Hears-quiet x.links.opened.items x.used y.used x.ran x.ran taken history (Happened (Refused wanted.link)) spells (quiet-happened (Refused wanted.link) (λ k. refl) (λ k. refl)) (let u = drops.used in omega arith) (let e = h.events in omega arith) h

-- ---- the connection that is next

pub wanted-begun : (x : Headless) (a : Seen) (wanted : Wanted) (others : List Wanted) → x.core.servers.wanted ≡ wanted ∷ others → AgreesWithSockets x a → 1 ≤ x.ran
wanted-begun x a wanted others first s = positive x.ran (begun x a wanted others s first)

pub connect-low : (x : Headless) (a : Seen) (wanted : Wanted) (others : List Wanted) → x.core.servers.wanted ≡ wanted ∷ others → AgreesWithSockets x a → x.used < 2 ^ 62
connect-low x a wanted others first s =
    let reached = s.among.reached in
    let limit = s.among.limited in
    let long = ap length first in
    omega arith

pub connect-room : (x : Headless) (a : Seen) (wanted : Wanted) (others : List Wanted) → x.core.servers.wanted ≡ wanted ∷ others → AgreesWithSockets x a → a.used < 2 ^ 62
connect-room x a wanted others first s = (let low = connect-low x a wanted others first s in let u = s.among.counted in omega arith)

-- what was taken of a connection that was refused names its link
pub refused-link : (used : ℕ) (link : LinkId) → link.0 ≡ used + 1 → (taken : List Happening) → (taken ++ Refused (record { 0 = used + 1 }) ∷ []) ≡ (taken ++ Refused link ∷ [])
refused-link used link e taken = ap (λ n. taken ++ Refused (record { 0 = n }) ∷ []) (sym e)

-- ---- who has unsent bytes

pub unsent-party : (link : ℕ) (core : CoreView) (bytes : List ℕ) → Some bytes ≡ unsent_in_core link core → has_party link core ≡ true
unsent-party link core bytes u = there-by (at_key connection_link link core.connections) (at_key seat_link link core.servers.seats) u
  where
    there-by : (o : Option Connection) (p : Option SeatView) → Some bytes ≡ bytes_or (unsent_at o) (server_unsent_at p) → (is_some o || is_some p) ≡ true
    there-by None None e = absurd (let q : Some bytes ≡ None = e in cc)
    there-by None (Some seat) e = refl
    there-by (Some s) p e = refl

map-size : {X : Type 0} (f : X → ℕ) (xs : List X) → length (map f xs) ≡ length xs
map-size f [] = refl
map-size f (x ∷ xs) = let ih = map-size f xs in omega arith

-- bytes that are gone leave as many there
pub gone-count : (link count : ℕ) (core : CoreView) (o : Option Connection) → at_key connection_link link core.connections ≡ o → party_count (gone_in link count core o) ≡ party_count core
gone-count link count core o e =
    let c = ap length (gone-links link count core o e) in
    let s = ap length (gone-seats link count core o e) in
    let c1 = map-size connection_link (gone_in link count core o).connections in
    let c2 = map-size connection_link core.connections in
    let s1 = map-size seat_link (gone_in link count core o).servers.seats in
    let s2 = map-size seat_link core.servers.seats in
    omega arith

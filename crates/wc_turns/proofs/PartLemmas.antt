-- Clients and servers that are leaving are parted with.
use Rattle.std.proofs.Common.{◌≡◌, ◌≢◌, ℕ, ◌<◌, ◌⊎◌, inl, inr, Bool, true, false, eqb, ◌||◌, IsTrue, List, [], ◌∷◌, ◌++◌, length, map, Option, Some, None, IsSome, is_some, refl, sym, ap, ◌∙◌, subst, arith}
use Rattle.std.specs.List.{list_any}
use Rattle.std.proofs.lemmas.Bool.{false≢true}
use Rattle.std.proofs.lemmas.Bool.Decides.{nat_tests}
use Rattle.std.proofs.lemmas.List.Folds.{list_any-append}
use Rattle.wc_text.specs.declared.names.LinkId.{LinkId}
use Rattle.wc_text.specs.declared.names.Cause.{Cause}
use Rattle.wc_outside.specs.Seen.{Seen}
use Rattle.wc_outside.specs.Faults.{NeverFall}
use Rattle.wc_outside.specs.declared.happening.Happening.TheVariants.{Failed}
use Rattle.wc_outside.specs.Keyed.{at_key, without}
use Rattle.wc_board.specs.declared.connection.Departure.{Departure}
use Rattle.wc_board.specs.Connections.{connection_link, leaving_in, leaving_on}
use Rattle.wc_servers.specs.Seats.{AreApart, seat_link, leaving_in as server_leaving_in, leaving_on as server_leaving_on}
use Rattle.wc_core.specs.CoreView.{CoreView}
use Rattle.wc_core.specs.LinksSeen.{departure_in}
use Rattle.wc_core.specs.Served.{links_of, or_else, Distinct}
use Rattle.wc_turns.specs.declared.links.Closed.{Closed}
use Rattle.wc_turns.specs.declared.links.LinkState.{LinkState}
use Rattle.wc_turns.specs.declared.headless.Headless.{Headless}
use Rattle.wc_turns.specs.Contained.{KeepsLinks}
use Rattle.wc_turns.specs.Links.{Kind, link_number, is_blocked, is_connecting, kind_of, frames_of, IsStanding, changed_at, written_link}
use Rattle.wc_turns.specs.Parties.{has_party, party_count, closes_asked}
use Rattle.wc_turns.specs.Parts.{leaving_of, FailureIgnored, SameParty, SendsOn, ClosesLeaving, SparesOthers, HasFailed}
use Rattle.wc_turns.specs.Served.{closed_number}
use Rattle.wc_turns.specs.Sources.{NothingBecameReady, IsSent, TakesNothing}
use Rattle.wc_turns.specs.Steps.{SameKinds}
use Rattle.wc_turns.specs.Turns.{AgreesWithSockets, HasGained, IsSettled, is_failure, has_failed}
use Rattle.wc_turns.proofs.KeyedLemmas.{at_key-filter_same, at_key-filter_other, same-keys}
use Rattle.wc_turns.proofs.CauseLemmas.{gained-following}
use Rattle.wc_turns.proofs.ChangedLemmas.{changed, at_key-changed, keeps-written, kind-written, numbers-changed, SameKinds-changed}
use Rattle.wc_turns.proofs.StepLemmas.{OnlyLinks}
use Rattle.wc_turns.proofs.ContainedLemmas.{KeepsLinks-refl, KeepsLinks-trans, KeepsLinks-same}
use Rattle.wc_turns.proofs.ForgetLemmas.{forgot, departed-party, departed-why, departed-all, forgot-here, forgot-other, forgot-fewer, forgot-spares}
use Rattle.wc_turns.proofs.SourceLemmas.{Later, NothingBecameReady-refl, NothingBecameReady-trans, TakesNothing-refl, TakesNothing-trans}

-- ---- who is at a link

pub SameParty-refl : (k : ℕ) (x : CoreView) → SameParty k x x
SameParty-refl k x = record { client = refl; server = refl }

pub SameParty-trans : (k : ℕ) (x y z : CoreView) → SameParty k x y → SameParty k y z → SameParty k x z
SameParty-trans k x y z h g = record { client = g.client ∙ h.client; server = g.server ∙ h.server }

pub SameParty-core : (k : ℕ) (x y : CoreView) → y ≡ x → SameParty k x y
SameParty-core k x y e = record { client = ap (λ (c : CoreView). at_key connection_link k c.connections) e; server = ap (λ (c : CoreView). at_key seat_link k c.servers.seats) e }

pub same-why : (k : ℕ) (x y : CoreView) → SameParty k x y → leaving_of k y ≡ leaving_of k x
same-why k x y same = ap (λ o. or_else (server_leaving_in o) (leaving_on k y.connections)) same.server ∙ ap (λ o. or_else (server_leaving_on k x.servers.seats) (leaving_in o)) same.client

pub same-has : (k : ℕ) (x y : CoreView) → SameParty k x y → has_party k y ≡ has_party k x
same-has k x y same = ap (λ o. is_some (at_key connection_link k y.connections) || is_some o) same.server ∙ ap (λ o. is_some o || is_some (at_key seat_link k x.servers.seats)) same.client

abbrev connects : Option Kind → Bool
connects None = false
connects (Some kind) = kind.connecting

connecting-as : (o : Option LinkState) → is_connecting o ≡ connects (kind_of o)
connecting-as None = refl
connecting-as (Some state) = refl

-- a link that stands goes on so where it leads to whom it led
pub kinds-stand : (old new : List LinkState) → SameKinds old new → (k : ℕ) → IsStanding k old → IsStanding k new
kinds-stand old new same k h = stand-by (same k)
  where
    kind-by : (o p : Option LinkState) → kind_of o ≡ kind_of p → is_connecting p ≡ false → is_connecting o ≡ false
    kind-by o p e f = connecting-as o ∙ ap connects e ∙ sym (connecting-as p) ∙ f

    stand-by : (at_key link_number k new ≡ None) ⊎ (kind_of (at_key link_number k new) ≡ kind_of (at_key link_number k old)) → is_connecting (at_key link_number k new) ≡ false
    stand-by (inl none) = ap is_connecting none
    stand-by (inr e) = kind-by (at_key link_number k new) (at_key link_number k old) e h

pub without-stand : (j : ℕ) (states : List LinkState) (k : ℕ) → IsStanding k states → IsStanding k (without link_number j states)
without-stand j states k h = stand-by (eqb k j) refl
  where
    stand-by : (t : Bool) → eqb k j ≡ t → is_connecting (at_key link_number k (without link_number j states)) ≡ false
    stand-by true e = let same : k ≡ j = grind (arith, nat_tests) in ap (λ i. is_connecting (at_key link_number i (without link_number j states))) same ∙ ap is_connecting (at_key-filter_same link_number j states)
    stand-by false e = ap is_connecting (at_key-filter_other link_number j k states (λ q. grind (arith, nat_tests))) ∙ h

-- ---- bytes are sent

pub SendsOn-refl : (link : ℕ) (x : Headless) (a : Seen) → SendsOn link x x a a
SendsOn-refl link x a = record { falls = NothingBecameReady-refl a; nothing = TakesNothing-refl a; quits = refl; starved = refl; used = refl; numbers = refl; closed = refl; links = refl; servers = refl; wanted = refl; leaving = refl; why = refl; parties = λ k n. SameParty-refl k x.core; frames = λ k n. refl; blocked = λ k n. refl; stands = λ k h. h }

pub SendsOn-trans : (link : ℕ) (x y z : Headless) (a b c : Seen) → (IsTrue c.tells → IsTrue b.tells) → SendsOn link x y a b → SendsOn link y z b c → SendsOn link x z a c
SendsOn-trans link x y z a b c told h g = record {
  falls = NothingBecameReady-trans a b c h.falls g.falls;
  nothing = TakesNothing-trans a b c told h.nothing g.nothing;
  quits = g.quits ∙ h.quits;
  starved = g.starved ∙ h.starved;
  used = g.used ∙ h.used;
  numbers = g.numbers ∙ h.numbers;
  closed = g.closed ∙ h.closed;
  links = g.links ∙ h.links;
  servers = g.servers ∙ h.servers;
  wanted = g.wanted ∙ h.wanted;
  leaving = g.leaving ∙ h.leaving;
  why = g.why ∙ h.why;
  parties = λ k n. SameParty-trans k x.core y.core z.core (h.parties k n) (g.parties k n);
  frames = λ k n. g.frames k n ∙ h.frames k n;
  blocked = λ k n. g.blocked k n ∙ h.blocked k n;
  stands = λ k s. g.stands k (h.stands k s);
}

-- a call that leaves clients and servers as they are
pub SendsOn-call : (link : ℕ) (x y : Headless) (a b : Seen) → y.core ≡ x.core → y.used ≡ x.used → map link_number y.links.opened.items ≡ map link_number x.links.opened.items → y.links.closed.items ≡ x.links.closed.items → SameKinds x.links.opened.items y.links.opened.items
    → ((k : ℕ) → frames_of (at_key link_number k y.links.opened.items) ≡ frames_of (at_key link_number k x.links.opened.items)) → NothingBecameReady a b → TakesNothing a b → ((k : ℕ) → k ≢ link → b.blocked k ≡ a.blocked k) → SendsOn link x y a b
SendsOn-call link x y a b core used numbers closed kinds frames falls nothing blocked = record {
  falls = falls;
  nothing = nothing;
  quits = ap (λ c. c.quits) core;
  starved = ap (λ c. c.starved) core;
  used = used;
  numbers = numbers;
  closed = closed;
  links = ap (λ c. map connection_link c.connections) core;
  servers = ap (λ c. map seat_link c.servers.seats) core;
  wanted = ap (λ c. c.servers.wanted) core;
  leaving = ap closes_asked core;
  why = ap (leaving_of link) core;
  parties = λ k n. SameParty-core k x.core y.core core;
  frames = λ k n. frames k;
  blocked = blocked;
  stands = kinds-stand x.links.opened.items y.links.opened.items kinds;
}

pub same-kinds : (states : List LinkState) → SameKinds states states
same-kinds states = λ k. inr refl

pub frames-written : (found t : Bool) (o : Option LinkState) → frames_of (changed t (written_link found) o) ≡ frames_of o
frames-written found true None = refl
frames-written found true (Some state) = refl
frames-written found false o = refl

-- it is kept whether a write to the link found no room
pub SendsOn-written : (link : ℕ) (found : Bool) (x y : Headless) (a : Seen) → OnlyLinks x y → y.links.opened.items ≡ changed_at link (written_link found) x.links.opened.items (at_key link_number link x.links.opened.items) → SendsOn link x y a a
SendsOn-written link found x y a only opened =
    SendsOn-call link x y a a only.core only.used (ap (λ ss. map link_number ss) opened ∙ numbers-changed link (written_link found) (keeps-written found) x.links.opened.items) only.closed
    (rw opened (SameKinds-changed link (written_link found) (keeps-written found) (kind-written found) x.links.opened.items))
    (λ k. ap (λ ss. frames_of (at_key link_number k ss)) opened ∙ ap frames_of (at_key-changed link k (written_link found) (keeps-written found) x.links.opened.items) ∙ frames-written found (eqb k link) (at_key link_number k x.links.opened.items)) (NothingBecameReady-refl a) (TakesNothing-refl a) (λ k n. refl)

pub KeepsLinks-sends : (link : ℕ) (x y : Headless) (a b : Seen) → SendsOn link x y a b → KeepsLinks x y
KeepsLinks-sends link x y a b h = KeepsLinks-same x y h.used (let e = h.starved in omega arith) (λ k. same-keys link_number k y.links.opened.items x.links.opened.items h.numbers) h.closed

-- a link without any way to send is as it was
pub sends-has : (link : ℕ) (x y : Headless) (a b : Seen) → SendsOn link x y a b → (k : ℕ) → has_party k y.core ≡ has_party k x.core
sends-has link x y a b h k =
    ap (λ t. t || is_some (at_key seat_link k y.core.servers.seats)) (same-keys connection_link k y.core.connections x.core.connections h.links)
    ∙ ap (λ t. is_some (at_key connection_link k x.core.connections) || t) (same-keys seat_link k y.core.servers.seats x.core.servers.seats h.servers)

map-length : {X : Type 0} (f : X → ℕ) (xs : List X) → length (map f xs) ≡ length xs
map-length f [] = refl
map-length f (x ∷ xs) = let ih = map-length f xs in omega arith

pub sends-count : (link : ℕ) (x y : Headless) (a b : Seen) → SendsOn link x y a b → party_count y.core ≡ party_count x.core
sends-count link x y a b h =
    let c = ap length h.links in
    let s = ap length h.servers in
    let c1 = map-length connection_link y.core.connections in
    let c2 = map-length connection_link x.core.connections in
    let s1 = map-length seat_link y.core.servers.seats in
    let s2 = map-length seat_link x.core.servers.seats in
    omega arith

pub FailureIgnored-later : (link : ℕ) (x y : Headless) (a b : Seen) → SendsOn link x y a b → FailureIgnored link x.core → FailureIgnored link y.core
FailureIgnored-later link x y a b h (inl over) = inl (h.quits ∙ over)
FailureIgnored-later link x y a b h (inr leaves) = inr (λ distinct apart. subst (λ (o : Option Cause). IsSome o) (sym h.why) (leaves (subst Distinct h.links distinct) (subst AreApart h.servers apart)))

pub IsSent-following : (link : ℕ) (h : Headless) (a b c : Seen) → Later a b → NeverFall a.faults b.faults → (IsTrue c.tells → IsTrue b.tells) → IsSent link h b c → IsSent link h a c
IsSent-following link h a b c first counts told (inl e) = inl e
IsSent-following link h a b c first counts told (inr (inl e)) = inr (inl e)
IsSent-following link h a b c first counts told (inr (inr f)) =
    inr (inr ((let p = f.0 in let q = counts.links in omega arith), (λ t. gained-following a b c (Failed (record { 0 = link })) first.more (first.taken (told t)) (f.1 t))))

has-gained : (link : ℕ) (a b : Seen) → HasGained a b (Failed (record { 0 = link })) → has_failed link b.taken ≡ true
has-gained link a b h = ap (has_failed link) h.taken ∙ list_any-append (is_failure link) a.taken (h.front ++ Failed (record { 0 = link }) ∷ h.rest) ∙ ap (λ t. has_failed link a.taken || t) (list_any-append (is_failure link) h.front (Failed (record { 0 = link }) ∷ h.rest) ∙ found) ∙ or-true (has_failed link a.taken)
  where
    or-true : (t : Bool) → (t || true) ≡ true
    or-true true = refl
    or-true false = refl

    here : eqb link link ≡ true
    here = grind (arith, nat_tests)

    found : (list_any (is_failure link) h.front || (eqb link link || list_any (is_failure link) h.rest)) ≡ true
    found = ap (λ t. list_any (is_failure link) h.front || (t || list_any (is_failure link) h.rest)) here ∙ or-true (list_any (is_failure link) h.front)

-- what was sent as far as may be is settled
pub IsSettled-sent : (link : ℕ) (h : Headless) (a b : Seen) → IsSent link h a b → IsSettled link h b
IsSettled-sent link h a b (inl e) = λ t free fit. e
IsSettled-sent link h a b (inr (inl e)) = λ t free fit. absurd (false≢true (sym free ∙ e))
IsSettled-sent link h a b (inr (inr f)) = λ t free fit. absurd (false≢true (sym fit ∙ has-gained link a b (f.1 t)))

-- nothing is sent on a link that is kept as one without room
pub IsSettled-blocked : (link : ℕ) (h : Headless) (a : Seen) → is_blocked (at_key link_number link h.links.opened.items) ≡ true → AgreesWithSockets h a → IsSettled link h a
IsSettled-blocked link h a blocked s = λ t free fit. absurd (false≢true (sym free ∙ s.among.blocked link ∙ blocked))

-- nothing is to be sent on a link that failed
pub IsSettled-failed : (link : LinkId) (lost : Option LinkId) (h : Headless) (a : Seen) → lost ≡ Some link → HasFailed lost a → IsSettled link.0 h a
IsSettled-failed link lost h a e f = λ t free fit. (let failed = rw e at f in absurd (false≢true (sym fit ∙ failed t)))

-- ---- parting

pub FailureIgnored-departed : (core : CoreView) (d : Departure) → departure_in core ≡ Some d → FailureIgnored d.link.0 core
FailureIgnored-departed core d e = inr (λ distinct apart. departed-why core d e distinct apart)

pub HasFailed-later : (lost : Option LinkId) (a b : Seen) → Later a b → HasFailed lost a → HasFailed lost b
HasFailed-later None a b later h = tt
HasFailed-later (Some link) a b later h = λ t. ap (has_failed link.0) (later.taken t) ∙ list_any-append (is_failure link.0) a.taken later.more ∙ ap (λ f. f || list_any (is_failure link.0) later.more) (h (later.told t))

-- who was at a link is forgotten, or stays
parted-by : (k j : ℕ) (t : Bool) → eqb k j ≡ t → (x y z : CoreView) → z ≡ forgot j y → (k ≢ j → SameParty k x y) → (has_party k z ≡ false) ⊎ ((leaving_of k z ≡ leaving_of k x) × (has_party k z ≡ has_party k x))
parted-by k j true e x y z left same = inl (let here : k ≡ j = grind (arith, nat_tests) in ap (has_party k) left ∙ ap (λ i. has_party i (forgot j y)) here ∙ forgot-here j y)
parted-by k j false e x y z left same =
    let other : k ≢ j = λ q. grind (arith, nat_tests) in
    let kept : SameParty k x (forgot j y) = SameParty-trans k x y (forgot j y) (same other) (forgot-other k j y other) in
    inr (ap (leaving_of k) left ∙ same-why k x (forgot j y) kept, ap (has_party k) left ∙ same-has k x (forgot j y) kept)

-- the first one that is leaving is parted with
pub ClosesLeaving-first : (x y z : Headless) (a b c : Seen) (d : Departure) → departure_in x.core ≡ Some d → (IsTrue c.tells → IsTrue b.tells) → SendsOn d.link.0 x y a b → z.core ≡ forgot d.link.0 y.core → z.links.opened.items ≡ without link_number d.link.0 y.links.opened.items
    → KeepsLinks y z → NothingBecameReady b c → TakesNothing b c → ((k : ℕ) → k ≢ d.link.0 → c.blocked k ≡ b.blocked k) → ClosesLeaving x z a c
ClosesLeaving-first x y z a b c d first told sends core opened contained falls nothing blocked =
    let other : (k : ℕ) → SparesOthers k (closes_asked x.core) → k ≢ d.link.0 = λ k s q. departed-all (λ (close : Closed). closed_number close ≢ k) x.core d first s (sym q) in
    let there : has_party d.link.0 y.core ≡ true = sends-has d.link.0 x y a b sends d.link.0 ∙ departed-party x.core d first in
    record {
      falls = NothingBecameReady-trans a b c sends.falls falls;
      nothing = TakesNothing-trans a b c told sends.nothing nothing;
      quits = ap (λ s. s.quits) core ∙ sends.quits;
      wanted = ap (λ s. s.servers.wanted) core ∙ sends.wanted;
      spared = λ k s. subst (SparesOthers k) (ap closes_asked (sym core)) (forgot-spares (λ (close : Closed). closed_number close ≢ k) d.link.0 y.core (subst (SparesOthers k) (sym sends.leaving) s));
      parties = λ k s. SameParty-trans k x.core (forgot d.link.0 y.core) z.core (SameParty-trans k x.core y.core (forgot d.link.0 y.core) (sends.parties k (other k s)) (forgot-other k d.link.0 y.core (other k s))) (SameParty-core k (forgot d.link.0 y.core) z.core core);
      blocked = λ k s. blocked k (other k s) ∙ sends.blocked k (other k s);
      contained = KeepsLinks-trans x y z (KeepsLinks-sends d.link.0 x y a b sends) contained;
      parted = λ k. parted-by k d.link.0 (eqb k d.link.0) refl x.core y.core z.core core (sends.parties k);
      fewer = (let less = forgot-fewer d.link.0 y.core there in let same = sends-count d.link.0 x y a b sends in let now = ap party_count core in omega arith);
      lost = λ k was gone. (let less = forgot-fewer d.link.0 y.core there in let same = sends-count d.link.0 x y a b sends in let now = ap party_count core in omega arith);
      stands = λ k s. (let P : List LinkState → Type 0 = λ states. IsStanding k states in subst P (sym opened) (without-stand d.link.0 y.links.opened.items k (sends.stands k s)));
    }

pub fewer-parted : (x y z : Headless) (a b : Seen) (d : Departure) → departure_in x.core ≡ Some d → SendsOn d.link.0 x y a b → z.core ≡ forgot d.link.0 y.core → party_count z.core < party_count x.core
fewer-parted x y z a b d first sends core =
    let there : has_party d.link.0 y.core ≡ true = sends-has d.link.0 x y a b sends d.link.0 ∙ departed-party x.core d first in
    let less = forgot-fewer d.link.0 y.core there in
    let same = sends-count d.link.0 x y a b sends in
    let now = ap party_count core in
    omega arith

pub ClosesLeaving-refl : (x : Headless) (a : Seen) → ClosesLeaving x x a a
ClosesLeaving-refl x a = record { falls = NothingBecameReady-refl a; nothing = TakesNothing-refl a; quits = refl; wanted = refl; spared = λ k s. s; parties = λ k s. SameParty-refl k x.core; blocked = λ k s. refl; contained = KeepsLinks-refl x; parted = λ k. inr (refl, refl); fewer = omega arith; lost = λ k was gone. absurd (false≢true (sym gone ∙ was)); stands = λ k h. h }

parted-then : (k : ℕ) (x y z : CoreView) → (has_party k y ≡ false) ⊎ ((leaving_of k y ≡ leaving_of k x) × (has_party k y ≡ has_party k x))
    → (has_party k z ≡ false) ⊎ ((leaving_of k z ≡ leaving_of k y) × (has_party k z ≡ has_party k y))
    → (has_party k z ≡ false) ⊎ ((leaving_of k z ≡ leaving_of k x) × (has_party k z ≡ has_party k x))
parted-then k x y z h (inl none) = inl none
parted-then k x y z (inl none) (inr g) = inl (g.1 ∙ none)
parted-then k x y z (inr h) (inr g) = inr (g.0 ∙ h.0, g.1 ∙ h.1)

pub ClosesLeaving-trans : (x y z : Headless) (a b c : Seen) → (IsTrue c.tells → IsTrue b.tells) → ClosesLeaving x y a b → ClosesLeaving y z b c → ClosesLeaving x z a c
ClosesLeaving-trans x y z a b c told h g = record {
  falls = NothingBecameReady-trans a b c h.falls g.falls;
  nothing = TakesNothing-trans a b c told h.nothing g.nothing;
  quits = g.quits ∙ h.quits;
  wanted = g.wanted ∙ h.wanted;
  spared = λ k s. g.spared k (h.spared k s);
  parties = λ k s. SameParty-trans k x.core y.core z.core (h.parties k s) (g.parties k (h.spared k s));
  blocked = λ k s. g.blocked k (h.spared k s) ∙ h.blocked k s;
  contained = KeepsLinks-trans x y z h.contained g.contained;
  parted = λ k. parted-then k x.core y.core z.core (h.parted k) (g.parted k);
  fewer = (let p = h.fewer in let q = g.fewer in omega arith);
  lost = λ k was gone. lost-by k was gone (has_party k y.core) refl;
  stands = λ k s. g.stands k (h.stands k s);
} where
  lost-by : (k : ℕ) → has_party k x.core ≡ true → has_party k z.core ≡ false → (t : Bool) → has_party k y.core ≡ t → party_count z.core < party_count x.core
  lost-by k was gone true e = (let p = h.fewer in let q = g.lost k e gone in omega arith)
  lost-by k was gone false e = (let p = h.lost k was e in let q = g.fewer in omega arith)

-- where `/quit` was not run, who is at the link is leaving
pub misses-going : (link : ℕ) (core : CoreView) → FailureIgnored link core → core.quits ≡ false → Distinct (links_of core) → AreApart (map seat_link core.servers.seats) → IsSome (leaving_of link core)
misses-going link core (inl over) on distinct seats = absurd (false≢true (sym on ∙ over))
misses-going link core (inr leaves) on distinct seats = leaves distinct seats

or-last : (b : Bool) → (b || (true || false)) ≡ true
or-last true = refl
or-last false = refl

-- a link that just failed
pub HasFailed-now : (link : LinkId) (a b : Seen) → (IsTrue b.tells → b.taken ≡ a.taken ++ Failed link ∷ []) → HasFailed (Some link) b
HasFailed-now link a b e = λ t.
    let here : eqb link.0 link.0 ≡ true = grind (arith, nat_tests) in
    ap (has_failed link.0) (e t) ∙ list_any-append (is_failure link.0) a.taken (Failed link ∷ []) ∙ ap (λ f. list_any (is_failure link.0) a.taken || (f || false)) here ∙ or-last _

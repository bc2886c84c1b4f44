-- How the sources that a wait named are served, and those that an earlier turn left.
use Rattle.std.proofs.Common.{◌≡◌, ◌≢◌, ℕ, zero, suc, ◌+◌, ◌<◌, ◌≤◌, ◌⊎◌, inl, inr, Bool, true, false, not, eqb, nat_lt, ◌&&◌, ◌||◌, List, [], ◌∷◌, ◌++◌, length, take, slice_index_or, Option, Some, None, IfSome, Result, Ok, Err, OnOk, OnErr, is_ok, is_err, IsTrue, refl, sym, ap, ◌∙◌, subst, arith}
use Rattle.std.specs.List.{list_any}
use Rattle.std.proofs.lemmas.Bool.{false≢true}
use Rattle.std.proofs.lemmas.Bool.Decides.{nat_tests}
use Rattle.std.proofs.lemmas.List.Folds.{list_any_more}
use Rattle.wc_text.specs.declared.names.LinkId.{LinkId}
use Rattle.wc_outside.specs.Faults.{NeverFall, Rose}
use Rattle.wc_outside.specs.Happenings.{is_link, is_listener}
use Rattle.wc_outside.specs.Keyed.{at_key}
use Rattle.wc_outside.specs.Seen.{Seen}
use Rattle.wc_outside.specs.declared.happening.Failed.{Failed as Fault}
use Rattle.wc_outside.specs.declared.sockets.Token.{Token}
use Rattle.wc_outside.specs.declared.sockets.Token.TheVariants.{Listener, Link}
use Rattle.wc_board.specs.declared.connection.Connection.{Connection}
use Rattle.wc_board.specs.Connections.{connection_link, unsent_in}
use Rattle.wc_servers.specs.Seats.{SeatView, seat_link, unsent_in as server_unsent_in}
use Rattle.wc_turns.specs.declared.headless.Headless.{Headless}
use Rattle.wc_turns.specs.declared.links.LinkState.{LinkState}
use Rattle.wc_turns.specs.Contained.{KeepsLinks}
use Rattle.wc_turns.specs.Framed.{frames_in}
use Rattle.wc_turns.specs.Links.{link_number, is_undrained, is_blocked, frames_of, is_socket_at}
use Rattle.wc_framing.proofs.MessagesLemmas.{none_short}
use Rattle.wc_turns.specs.Parties.{unsent_on, IsCalm}
use Rattle.wc_turns.specs.Sources.{bytes_taken, arrivals, NothingBecameReady, IsServed, IsServedAfter, Reaches, HasDecided, IsHeard, IsPutWhere, IsClear, IsWritten, IsSent, AllServed, AllSent, ServesNamed, TakesWithin, TakesNothing, has_flag, may_write, may_write_seat, may_write_these, may_write_frames, may_write_on, is_left_over}
use Rattle.wc_turns.specs.Turns.{AgreesWithSockets, LoopStep, faults_of, left_as, left_on}
use Rattle.wc_turns.proofs.KeyedLemmas.{at_key-key}
use Rattle.wc_turns.proofs.CauseLemmas.{gained-later, gained-following}
use Rattle.wc_turns.proofs.ContainedLemmas.{KeepsLinks-refl, KeepsLinks-trans}
use Rattle.wc_turns.proofs.CloseLemmas.{LoopStep-refl}
use Rattle.wc_turns.proofs.TurnLemmas.{LoopStep-trans, LoopStep-following}
use Rattle.wc_turns.proofs.GuestLemmas.{Reaches-of, ServedAfter-later, ServedAfter-next, IsServed-later, IsServed-following}
use Rattle.wc_turns.proofs.SourceLemmas.{Later, later-of, NothingBecameReady-refl, NothingBecameReady-trans, IsReadUp-drained, IsHeard-later, IsHeard-following}

-- ---- what a call answers

pub OnOk-map : {A : Type 0} (r : Result A Fault) (P Q : Type 0) → OnOk r P → (P → Q) → OnOk r Q
OnOk-map (Ok v) P Q p f = f p
OnOk-map (Err e) P Q p f = tt

pub OnErr-map : {A : Type 0} (r : Result A Fault) (P Q : Type 0) → OnErr r P → (P → Q) → OnErr r Q
OnErr-map (Ok v) P Q p f = tt
OnErr-map (Err e) P Q p f = f p

-- a call that did not fail
pub heard-of : {A : Type 0} (r : Result A Fault) (P : Type 0) → faults_of r ≡ 0 → OnOk r P → P
heard-of (Ok v) P e h = h
heard-of (Err f) P e h = absurd (omega arith)

pub failed-of : {A : Type 0} (r : Result A Fault) (P : Type 0) → 1 ≤ faults_of r → OnErr r P → P
failed-of (Ok v) P e h = absurd (omega arith)
failed-of (Err f) P e h = h

pub is_ok-of : {A : Type 0} (r : Result A Fault) → is_err r ≡ false → is_ok r ≡ true
is_ok-of (Ok v) e = refl
is_ok-of (Err f) e = absurd (false≢true (sym e))

pub ok-faults : {A : Type 0} (r : Result A Fault) → is_err r ≡ false → faults_of r ≡ 0
ok-faults (Ok v) e = refl
ok-faults (Err f) e = absurd (false≢true (sym e))

pub none-failed : {A : Type 0} (r : Result A Fault) → is_err r ≡ true → faults_of r ≡ 0 → ⊥
none-failed (Ok v) e f = false≢true e
none-failed (Err fault) e f = absurd (omega (arith, f))

pub OnOk-by : {A : Type 0} (r : Result A Fault) (P : Type 0) → (faults_of r ≡ 0 → P) → OnOk r P
OnOk-by (Ok v) P f = f refl
OnOk-by (Err e) P f = tt

pub OnErr-by : {A : Type 0} (r : Result A Fault) (P : Type 0) → (1 ≤ faults_of r → P) → OnErr r P
OnErr-by (Ok v) P f = tt
OnErr-by (Err e) P f = f (omega arith)

-- a test holds or not
pub reported-or : (b : Bool) (P : Type 0) → (IsTrue b → P) → (b ≡ false → P) → P
reported-or true P named other = named refl
reported-or false P named other = other refl

-- ---- what is taken

pub TakesWithin-refl : (a : Seen) → TakesWithin a a
TakesWithin-refl a = record { bytes = λ t k one. omega arith; clients = λ t. omega arith }

pub Within-nothing : (a b c : Seen) → Later b c → TakesWithin a b → TakesNothing b c → TakesWithin a c
Within-nothing a b c later h g = record {
  bytes = λ t k one. (let p = h.bytes (later.told t) k one in let q = g.bytes t k in omega arith);
  clients = λ t. (let p = h.clients (later.told t) in let q = g.clients t in omega arith);
}

pub Nothing-within : (a b c : Seen) → Later b c → TakesNothing a b → TakesWithin b c → TakesWithin a c
Nothing-within a b c later h g = record {
  bytes = λ t k one. (let p = h.bytes (later.told t) k in let q = g.bytes t k one in omega arith);
  clients = λ t. (let p = h.clients (later.told t) in let q = g.clients t in omega arith);
}

-- ---- links are written

not-zero : (n : ℕ) → not (eqb n 0) ≡ false → n ≡ 0
not-zero n e = grind (arith, nat_tests)

no-bytes : (bytes : List ℕ) → length bytes ≡ 0 → bytes ≡ []
no-bytes [] q = refl
no-bytes (b ∷ bytes) q = absurd (omega arith)

-- who is passed over has no unsent bytes, or its link is kept as one without room
passed-by : (unsent blocked : Bool) → (unsent && not blocked) ≡ false → (unsent ≡ false) ⊎ (blocked ≡ true)
passed-by true true e = inr refl
passed-by true false e = absurd (false≢true (sym e))
passed-by false blocked e = inl refl

passed-bytes : (states : List LinkState) (k link : ℕ) (unsent : List ℕ) → link ≡ k → (not (eqb (length unsent) 0) && not (is_blocked (at_key link_number link states))) ≡ false → (unsent ≡ []) ⊎ (is_blocked (at_key link_number k states) ≡ true)
passed-bytes states k link unsent key e = by (passed-by (not (eqb (length unsent) 0)) (is_blocked (at_key link_number link states)) e)
  where
    by : (not (eqb (length unsent) 0) ≡ false) ⊎ (is_blocked (at_key link_number link states) ≡ true) → (unsent ≡ []) ⊎ (is_blocked (at_key link_number k states) ≡ true)
    by (inl q) = inl (no-bytes unsent (not-zero (length unsent) q))
    by (inr q) = inr (subst (λ i. is_blocked (at_key link_number i states) ≡ true) key q)

passed-client : (states : List LinkState) (k : ℕ) (connections : List Connection) (o : Option Connection) → at_key connection_link k connections ≡ o → has_flag (may_write states) o ≡ false → (unsent_in o ≡ []) ⊎ (is_blocked (at_key link_number k states) ≡ true)
passed-client states k connections None f e = inl refl
passed-client states k connections (Some s) f e = passed-bytes states k (connection_link s) s.session.unsent (at_key-key connection_link k connections s f) e

passed-seat : (states : List LinkState) (k : ℕ) (seats : List SeatView) (o : Option SeatView) → at_key seat_link k seats ≡ o → has_flag (may_write_seat states) o ≡ false → (server_unsent_in o ≡ []) ⊎ (is_blocked (at_key link_number k states) ≡ true)
passed-seat states k seats None f e = inl refl
passed-seat states k seats (Some s) f e = passed-bytes states k s.link s.unsent (at_key-key seat_link k seats s f) e

both-false : (a b : Bool) → (a || b) ≡ false → (a ≡ false) × (b ≡ false)
both-false true b e = absurd (false≢true (sym e))
both-false false b e = (refl, e)

-- frames that are passed over: there are none, or there is no room for them
passed-frames : (o : Option LinkState) → has_flag may_write_frames o ≡ false → (frames_of o ≡ None) ⊎ ((frames_of o ≡ Some []) ⊎ (is_blocked o ≡ true))
passed-frames None e = inl refl
passed-frames (Some state) e = by (frames_in state.framing) refl state.blocked refl e
  where
    sent : (frames : List ℕ) → not (eqb (length frames) 0) ≡ false → frames ≡ []
    sent frames q = no-bytes frames (not-zero (length frames) q)

    by : (frames : Option (List ℕ)) → frames_in state.framing ≡ frames → (blocked : Bool) → state.blocked ≡ blocked → may_write_these state.blocked (frames_in state.framing) ≡ false → (frames_in state.framing ≡ None) ⊎ ((frames_in state.framing ≡ Some []) ⊎ (state.blocked ≡ true))
    by None f blocked g q = inl f
    by (Some frames) f true g q = inr (inr g)
    by (Some frames) f false g q = inr (inl (f ∙ ap Some (sent frames (rw (f, g) at q))))

-- nothing is left to be sent on a link without unsent bytes and without frames
clear : (k : ℕ) (h : Headless) → unsent_on k h.core ≡ [] → (frames_of (at_key link_number k h.links.opened.items) ≡ None) ⊎ (frames_of (at_key link_number k h.links.opened.items) ≡ Some []) → IsClear k h
clear k h none frames = record { left = left frames; put = put (is_socket_at (at_key link_number k h.links.opened.items)) }
  where
    left : (frames_of (at_key link_number k h.links.opened.items) ≡ None) ⊎ (frames_of (at_key link_number k h.links.opened.items) ≡ Some []) → left_on k h ≡ []
    left (inl e) = ap (λ o. left_as o (unsent_on k h.core)) e ∙ none
    left (inr e) = ap (λ o. left_as o (unsent_on k h.core)) e

    put : (socket : Bool) → IsPutWhere socket (unsent_on k h.core)
    put true = rw none (none_short [] (omega arith))
    put false = tt

-- what holds of a link on which nothing is left to be sent, and of one without room, holds of one that is passed over
passed : (k : ℕ) (h : Headless) (P : Type 0) → (IsClear k h → P) → (is_blocked (at_key link_number k h.links.opened.items) ≡ true → P) → may_write_on k h.links.opened.items h.core ≡ false → P
passed k h P empty blocked e =
    let states = h.links.opened.items in
    let client = has_flag (may_write states) (at_key connection_link k h.core.connections) in
    let seat = has_flag (may_write_seat states) (at_key seat_link k h.core.servers.seats) in
    let framed = has_flag may_write_frames (at_key link_number k states) in
    let parts = both-false (client || seat) framed e in
    let parties = both-false client seat parts.0 in
    by (passed-client states k h.core.connections (at_key connection_link k h.core.connections) refl parties.0) (passed-seat states k h.core.servers.seats (at_key seat_link k h.core.servers.seats) refl parties.1) (passed-frames (at_key link_number k states) parts.1)
  where
    by : (unsent_in (at_key connection_link k h.core.connections) ≡ []) ⊎ (is_blocked (at_key link_number k h.links.opened.items) ≡ true) → (server_unsent_in (at_key seat_link k h.core.servers.seats) ≡ []) ⊎ (is_blocked (at_key link_number k h.links.opened.items) ≡ true)
        → (frames_of (at_key link_number k h.links.opened.items) ≡ None) ⊎ ((frames_of (at_key link_number k h.links.opened.items) ≡ Some []) ⊎ (is_blocked (at_key link_number k h.links.opened.items) ≡ true)) → P
    by (inr p) q r = blocked p
    by (inl p) (inr q) r = blocked q
    by (inl p) (inl q) (inr (inr r)) = blocked r
    by (inl p) (inl q) (inl r) = empty (clear k h (ap (λ xs. xs ++ server_unsent_in (at_key seat_link k h.core.servers.seats)) p ∙ q) (inl r))
    by (inl p) (inl q) (inr (inl r)) = empty (clear k h (ap (λ xs. xs ++ server_unsent_in (at_key seat_link k h.core.servers.seats)) p ∙ q) (inr r))

-- one more link was gone through: what holds of links that are passed over, and of those gone through, holds of this one
pub passed-next : (k last link : ℕ) (h : Headless) (P Q : Type 0) → (k ≤ last → P) → (IsClear k h → P) → (is_blocked (at_key link_number k h.links.opened.items) ≡ true → P)
    → (last < k → k < link → may_write_on k h.links.opened.items h.core ≡ false) → (k ≢ link → P → Q) → (k ≡ link → Q) → k ≤ link → Q
passed-next k last link h P Q low empty blocked between others done most = go (eqb k link) refl
  where
    before : k ≢ link → (t : Bool) → nat_lt last k ≡ t → P
    before n true e = passed k h P empty blocked (between (grind (arith, nat_tests)) (grind (arith, nat_tests)))
    before n false e = low (grind (arith, nat_tests))

    go : (t : Bool) → eqb k link ≡ t → Q
    go true e = done (grind (arith, nat_tests))
    go false e = let n : k ≢ link = λ q. grind (arith, nat_tests) in others n (before n (nat_lt last k) refl)

-- every other link is passed over
pub passed-rest : (k last : ℕ) (h : Headless) (P : Type 0) → (k ≤ last → P) → (IsClear k h → P) → (is_blocked (at_key link_number k h.links.opened.items) ≡ true → P)
    → (last < k → may_write_on k h.links.opened.items h.core ≡ false) → P
passed-rest k last h P low empty blocked above = go (nat_lt last k) refl
  where
    go : (t : Bool) → nat_lt last k ≡ t → P
    go true e = passed k h P empty blocked (above (grind (arith, nat_tests)))
    go false e = low (grind (arith, nat_tests))

-- what the loop keeps of a link without room is that of the sockets
pub record KnowsBlocked (states : List LinkState) (k : ℕ) (seen : Seen) : Type 0 where
  pub is : is_blocked (at_key link_number k states) ≡ true → seen.blocked k ≡ true

pub blocked-kept : (h : Headless) (k : ℕ) (seen : Seen) → AgreesWithSockets h seen → KnowsBlocked h.links.opened.items k seen
blocked-kept h k seen s = record { is = λ b. s.among.blocked k ∙ b }

pub written-next : (k last link : ℕ) (x y : Headless) (a b : Seen) → KnowsBlocked x.links.opened.items k a → (k ≤ last → IsWritten k x a) → (last < k → k < link → may_write_on k x.links.opened.items x.core ≡ false)
    → (k ≢ link → IsWritten k x a → IsWritten k y b) → IsWritten link y b → k ≤ link → IsWritten k y b
written-next k last link x y a b known low between others done most =
    passed-next k last link x (IsWritten k x a) (IsWritten k y b) low (λ e. inl e) (λ e. inr (known.is e)) between others (λ same. subst (λ j. IsWritten j y b) (sym same) done) most

pub written-rest : (k last : ℕ) (x : Headless) (a : Seen) → KnowsBlocked x.links.opened.items k a → (k ≤ last → IsWritten k x a) → (last < k → may_write_on k x.links.opened.items x.core ≡ false) → IsWritten k x a
written-rest k last x a known low above = passed-rest k last x (IsWritten k x a) low (λ e. inl e) (λ e. inr (known.is e)) above

-- ---- links are written after the end

-- what was sent stays so where a link is not written again
pub IsSent-later : (k : ℕ) (x y : Headless) (a b c : Seen) → Later b c → NeverFall b.faults c.faults → left_on k y ≡ left_on k x → c.blocked k ≡ b.blocked k → IsSent k x a b → IsSent k y a c
IsSent-later k x y a b c later counts left blocked (inl e) = inl (left ∙ e)
IsSent-later k x y a b c later counts left blocked (inr (inl e)) = inr (inl (blocked ∙ e))
IsSent-later k x y a b c later counts left blocked (inr (inr h)) =
    inr (inr ((let p = h.0 in let q = counts.links in omega arith), λ t. gained-later a b c _ later.more (later.taken t) (h.1 (later.told t))))

pub IsSent-following : (k : ℕ) (x : Headless) (a b c : Seen) → Later a b → Later b c → NeverFall a.faults b.faults → IsSent k x b c → IsSent k x a c
IsSent-following k x a b c first later counts (inl e) = inl e
IsSent-following k x a b c first later counts (inr (inl e)) = inr (inl e)
IsSent-following k x a b c first later counts (inr (inr h)) =
    inr (inr ((let p = h.0 in let q = counts.links in omega arith), λ t. gained-following a b c _ first.more (first.taken (later.told t)) (h.1 t)))

pub AllSent-following : (x : Headless) (a b c : Seen) → Later a b → Later b c → NeverFall a.faults b.faults → AllSent x b c → AllSent x a c
AllSent-following x a b c first later counts h = λ k one. IsSent-following k x a b c first later counts (h k one)

pub sent-next : (k last link : ℕ) (x y : Headless) (a b c : Seen) → KnowsBlocked x.links.opened.items k b → Later a b → Later b c → NeverFall a.faults b.faults → NeverFall b.faults c.faults → (k ≤ last → IsSent k x a b) → (last < k → k < link → may_write_on k x.links.opened.items x.core ≡ false)
    → (k ≢ link → (left_on k y ≡ left_on k x) × (c.blocked k ≡ b.blocked k)) → IsSent link y b c → k ≤ link → IsSent k y a c
sent-next k last link x y a b c known first later fell counts low between others done most =
    passed-next k last link x (IsSent k x a b) (IsSent k y a c) low (λ (e : IsClear k x). inl e.left) (λ e. inr (inl (known.is e))) between
    (λ n h. IsSent-later k x y a b c later counts (others n).0 (others n).1 h)
    (λ same. IsSent-following k y a b c first later fell (subst (λ j. IsSent j y b c) (sym same) done)) most

pub sent-rest : (k last : ℕ) (x : Headless) (a b : Seen) → KnowsBlocked x.links.opened.items k b → (k ≤ last → IsSent k x a b) → (last < k → may_write_on k x.links.opened.items x.core ≡ false) → IsSent k x a b
sent-rest k last x a b known low above = passed-rest k last x (IsSent k x a b) low (λ (e : IsClear k x). inl e.left) (λ e. inr (inl (known.is e))) above

-- ---- links that an earlier turn left

-- a link that is not left over is drained, unless a token names it
drained-at : (tokens : List Token) (k : ℕ) (o : Option LinkState) → IfSome o (λ state. link_number state ≡ k) → has_flag (is_left_over tokens) o ≡ false → list_any (is_link k) tokens ≡ false → is_undrained o ≡ false
drained-at tokens k None key left out = refl
drained-at tokens k (Some state) key left out = and-not state.undrained (list_any (is_link state.link.0) tokens) (rw key out) left
  where
    and-not : (u r : Bool) → r ≡ false → (u && not r) ≡ false → u ≡ false
    and-not true true e q = absurd (false≢true (sym e))
    and-not true false e q = absurd (false≢true (sym q))
    and-not false r e q = refl

key-of : (k : ℕ) (states : List LinkState) (o : Option LinkState) → at_key link_number k states ≡ o → IfSome o (λ state. link_number state ≡ k)
key-of k states None e = tt
key-of k states (Some state) e = at_key-key link_number k states state e

pub not-left-over : (tokens : List Token) (k : ℕ) (states : List LinkState) → has_flag (is_left_over tokens) (at_key link_number k states) ≡ false → list_any (is_link k) tokens ≡ false → is_undrained (at_key link_number k states) ≡ false
not-left-over tokens k states left out = drained-at tokens k (at_key link_number k states) (key-of k states _ refl) left out

pub unnamed-by : (u r : Bool) → (u && not r) ≡ true → r ≡ false
unnamed-by true true e = absurd (false≢true e)
unnamed-by true false e = refl
unnamed-by false r e = absurd (false≢true e)

pub one-of : (tokens : List Token) (next : Option LinkId) (link : LinkId) (result : Option LinkId) → (result ≡ next) ⊎ (result ≡ Some link) → IfSome next (λ known. list_any (is_link known.0) tokens ≡ false) → list_any (is_link link.0) tokens ≡ false
    → IfSome result (λ known. list_any (is_link known.0) tokens ≡ false)
one-of tokens next link result (inl e) before here = rw e before
one-of tokens next link result (inr e) before here = rw e here

-- one more link was served
pub served-next : (early now : Bool) (k last link : ℕ) (x y z : Headless) (a b c : Seen) → Reaches x y a b → Reaches y z b c → NothingBecameReady b c → (now ≡ true → (early ≡ true) ⊎ HasDecided x y a b) → (k ≤ last → IsServedAfter early k x y a b)
    → (last < k → k < link → b.undrained k ≡ false) → IsServedAfter now link y z b c → k ≤ link → IsServedAfter early k x z a c
served-next early now k last link x y z a b c first next falls decided low between done most = go (eqb k link) refl
  where
    before : k ≢ link → (t : Bool) → nat_lt last k ≡ t → IsServedAfter early k x y a b
    before n true e = inl (IsReadUp-drained k a b (between (grind (arith, nat_tests)) (grind (arith, nat_tests))))
    before n false e = low (grind (arith, nat_tests))

    go : (t : Bool) → eqb k link ≡ t → IsServedAfter early k x z a c
    go true e = let same : link ≡ k = grind (arith, nat_tests) in ServedAfter-next early now k x y z a b c first next decided (subst (λ j. IsServedAfter now j y z b c) same done)
    go false e = ServedAfter-later early k x y z a b c (before (λ q. grind (arith, nat_tests)) (nat_lt last k) refl) falls next

pub served-rest : (early : Bool) (k last : ℕ) (x y : Headless) (a b : Seen) → (k ≤ last → IsServedAfter early k x y a b) → (last < k → b.undrained k ≡ false) → IsServedAfter early k x y a b
served-rest early k last x y a b low above = go (nat_lt last k) refl
  where
    go : (t : Bool) → nat_lt last k ≡ t → IsServedAfter early k x y a b
    go true e = inl (IsReadUp-drained k a b (above (grind (arith, nat_tests))))
    go false e = low (grind (arith, nat_tests))

-- a call that takes bytes of one link alone
pub record TakesOf (link : ℕ) (before after : Seen) : Type 0 where
  pub within : IsTrue after.tells → bytes_taken link after.taken ≤ bytes_taken link before.taken + 1048576
  pub others : IsTrue after.tells → (other : ℕ) → other ≢ link → bytes_taken other after.taken ≡ bytes_taken other before.taken
  pub clients : IsTrue after.tells → arrivals after.taken ≡ arrivals before.taken

-- links were read in the order of their numbers, up to the last one
pub record ReadsTo (names : ℕ → Bool) (last : ℕ) (before after : Seen) : Type 0 where
  pub most : IsTrue after.tells → (link : ℕ) → bytes_taken link after.taken ≤ bytes_taken link before.taken + 1048576
  pub above : IsTrue after.tells → (link : ℕ) → last < link → bytes_taken link after.taken ≡ bytes_taken link before.taken
  pub named : IsTrue after.tells → (link : ℕ) → IsTrue (names link) → bytes_taken link after.taken ≡ bytes_taken link before.taken
  pub clients : IsTrue after.tells → arrivals after.taken ≡ arrivals before.taken

pub ReadsTo-first : (named : ℕ → Bool) (a : Seen) → ReadsTo named 0 a a
ReadsTo-first named a = record { most = λ t k. omega arith; above = λ t k p. refl; named = λ t k p. refl; clients = λ t. refl }

pub ReadsTo-next : (named : ℕ → Bool) (last link : ℕ) (a b c : Seen) → last < link → named link ≡ false → Later b c → ReadsTo named last a b → TakesOf link b c → ReadsTo named link a c
ReadsTo-next named last link a b c above out later h g = record {
  most = λ t k. most k t (eqb k link) refl;
  above = λ t k p. g.others t k (λ q. omega arith) ∙ h.above (later.told t) k (omega arith);
  named = λ t k p. g.others t k (λ q. false≢true (sym out ∙ subst (λ j. named j ≡ true) q p)) ∙ h.named (later.told t) k p;
  clients = λ t. g.clients t ∙ h.clients (later.told t);
}
  where
    most : (k : ℕ) → IsTrue c.tells → (t : Bool) → eqb k link ≡ t → bytes_taken k c.taken ≤ bytes_taken k a.taken + 1048576
    most k told true e =
        let same : link ≡ k = grind (arith, nat_tests) in
        let first = h.above (later.told told) link above in
        let more = g.within told in
        subst (λ j. bytes_taken j c.taken ≤ bytes_taken j a.taken + 1048576) same (omega arith)
    most k told false e =
        let same = g.others told k (λ q. grind (arith, nat_tests)) in
        let first = h.most (later.told told) k in
        omega arith

-- ---- sources that a wait named

pub is_link-same : (k link : ℕ) → IsTrue (eqb link k) → link ≡ k
is_link-same k link h = grind (arith, nat_tests)

-- one more token comes after others
pub record IsMore (front all : List Token) (token : Token) : Type 0 where
  pub any : (p : Token → Bool) → list_any p all ≡ (list_any p front || p token)

pub more-at : (tokens : List Token) (i : ℕ) (d : Token) → i < length tokens → IsMore (take i tokens) (take (i + 1) tokens) (slice_index_or tokens i d)
more-at tokens i d below = record { any = λ p. list_any_more p tokens i d below }

in-more : (p : Token → Bool) (front all : List Token) (token : Token) (P : Type 0) → IsMore front all token → (IsTrue (list_any p front) → P) → (list_any p front ≡ false → IsTrue (p token) → P) → IsTrue (list_any p all) → P
in-more p front all token P more before now h = go (list_any p front) refl (rw (more.any p) at h)
  where
    go : (b : Bool) → list_any p front ≡ b → IsTrue (b || p token) → P
    go true e q = before e
    go false e q = now e q

not-more : (p : Token → Bool) (front all : List Token) (token : Token) → IsMore front all token → list_any p all ≡ false → (list_any p front ≡ false) × (p token ≡ false)
not-more p front all token more e = go (list_any p front) (p token) (sym (more.any p) ∙ e)
  where
    go : (b c : Bool) → (b || c) ≡ false → (b ≡ false) × (c ≡ false)
    go true c e = absurd (false≢true (sym e))
    go false c e = (refl, e)

still-more : (p : Token → Bool) (front all : List Token) (token : Token) → IsMore front all token → IsTrue (list_any p front) → IsTrue (list_any p all)
still-more p front all token more h = more.any p ∙ ap (λ b. b || p token) h

pub Named-none : (x : Headless) (a : Seen) → IsCalm x.core → ServesNamed [] 0 x x a a
Named-none x a calm = record {
  continues = LoopStep-refl x a;
  calm = calm;
  falls = NothingBecameReady-refl a;
  contained = λ s. KeepsLinks-refl x;
  served = λ s q k h. absurd (false≢true h);
  heard = λ f q h. absurd (false≢true h);
  failed = λ f. absurd (omega arith);
  most = λ t k. omega arith;
  others = λ t k e. refl;
  clients = λ t. omega arith;
  unheard = λ t e. refl;
}

-- the listener was named before
pub Named-listener-again : (front all : List Token) (faults : ℕ) (x y : Headless) (a b : Seen) → IsMore front all Listener → IsTrue (list_any is_listener front) → ServesNamed front faults x y a b → ServesNamed all faults x y a b
Named-listener-again front all faults x y a b more named h = record {
  continues = h.continues;
  calm = h.calm;
  falls = h.falls;
  contained = h.contained;
  served = λ s q k i. in-more (is_link k) front all Listener _ more (h.served s q k) (λ e p. absurd (false≢true p)) i;
  heard = λ f q i. h.heard f q named;
  failed = λ f. ((h.failed f).0, still-more is_listener front all Listener more named);
  most = h.most;
  others = λ t k e. h.others t k (not-more (is_link k) front all Listener more e).0;
  clients = h.clients;
  unheard = λ t e. h.unheard t (not-more is_listener front all Listener more e).0;
}

-- a link was named before
pub Named-link-again : (front all : List Token) (link : LinkId) (faults : ℕ) (x y : Headless) (a b : Seen) → IsMore front all (Link link) → IsTrue (list_any (is_link link.0) front) → ServesNamed front faults x y a b → ServesNamed all faults x y a b
Named-link-again front all link faults x y a b more named h = record {
  continues = h.continues;
  calm = h.calm;
  falls = h.falls;
  contained = h.contained;
  served = λ s q k i. in-more (is_link k) front all (Link link) _ more (h.served s q k) (λ e p. h.served s q k (subst (λ j. IsTrue (list_any (is_link j) front)) (is_link-same k link.0 p) named)) i;
  heard = λ f q i. in-more is_listener front all (Link link) _ more (h.heard f q) (λ e p. absurd (false≢true p)) i;
  failed = λ f. ((h.failed f).0, still-more is_listener front all (Link link) more (h.failed f).1);
  most = h.most;
  others = λ t k e. h.others t k (not-more (is_link k) front all (Link link) more e).0;
  clients = h.clients;
  unheard = λ t e. h.unheard t (not-more is_listener front all (Link link) more e).0;
}

-- a link is read
pub Named-link : (front all : List Token) (link : LinkId) (faults : ℕ) (x y z : Headless) (a b c : Seen) → IsMore front all (Link link) → list_any (is_link link.0) front ≡ false → y.core.quits ≡ false → ServesNamed front faults x y a b
    → LoopStep true 0 0 y z b c → IsCalm z.core → NothingBecameReady b c → KeepsLinks y z → (AgreesWithSockets x a → z.core.quits ≡ false → IsServed link.0 x z a c) → TakesOf link.0 b c → ServesNamed all faults x z a c
Named-link front all link faults x y z a b c more out going h continues calm falls contained served takes =
    let later = later-of b c continues in
    record {
      continues = LoopStep-trans x y z a b c h.continues continues;
      calm = calm;
      falls = NothingBecameReady-trans a b c h.falls falls;
      contained = λ s. KeepsLinks-trans x y z (h.contained s) contained;
      served = λ s q k i. in-more (is_link k) front all (Link link) _ more
          (λ p. IsServed-later k x y z a b c (h.served s going k p) falls (Reaches-of y z b c continues))
          (λ e p. subst (λ j. IsServed j x z a c) (is_link-same k link.0 p) (served s q)) i;
      heard = λ f q i. in-more is_listener front all (Link link) _ more (λ p. IsHeard-later a b c (h.heard f going p) falls later) (λ e p. absurd (false≢true p)) i;
      failed = λ f. ((let p = (h.failed f).0 in let q = continues.counts.listens in omega arith), still-more is_listener front all (Link link) more (h.failed f).1);
      most = λ t k. most k t (eqb k link.0) refl;
      others = λ t k e. takes.others t k (other k (not-more (is_link k) front all (Link link) more e).1) ∙ h.others (later.told t) k (not-more (is_link k) front all (Link link) more e).0;
      clients = λ t. (let same = takes.clients t in let few = h.clients (later.told t) in omega arith);
      unheard = λ t e. takes.clients t ∙ h.unheard (later.told t) (not-more is_listener front all (Link link) more e).0;
    }
  where
    other : (k : ℕ) → eqb link.0 k ≡ false → k ≢ link.0
    other k e q = grind (arith, nat_tests)

    most : (k : ℕ) → IsTrue c.tells → (t : Bool) → eqb k link.0 ≡ t → bytes_taken k c.taken ≤ bytes_taken k a.taken + 1048576
    most k told true e =
        let same : link.0 ≡ k = grind (arith, nat_tests) in
        let first = h.others (continues.told told) link.0 out in
        let next = takes.within told in
        subst (λ j. bytes_taken j c.taken ≤ bytes_taken j a.taken + 1048576) same (omega arith)
    most k told false e =
        let same = takes.others told k (λ q. grind (arith, nat_tests)) in
        let first = h.most (continues.told told) k in
        omega arith

-- the listener is asked for arrivals
pub Named-listener : {A : Type 0} (r : Result A Fault) (front all : List Token) (faults : ℕ) (x y z : Headless) (a b c : Seen) → IsMore front all Listener → list_any is_listener front ≡ false → y.core.quits ≡ false → ServesNamed front faults x y a b
    → LoopStep true 0 (faults_of r) y z b c → IsCalm z.core → NothingBecameReady b c → (AgreesWithSockets y b → KeepsLinks y z) → OnOk r (IsHeard b c) → OnErr r (Rose b.faults.listens c.faults.listens) → (IsTrue c.tells → arrivals c.taken ≤ arrivals b.taken + 1024) → (IsTrue c.tells → (k : ℕ) → bytes_taken k c.taken ≡ bytes_taken k b.taken)
    → ServesNamed all (faults_of r) x z a c
Named-listener r front all faults x y z a b c more out going h continues calm falls contained heard failed clients bytes =
    let later = later-of b c continues in
    let first = later-of a b h.continues in
    let good : faults ≡ 0 = none faults h.failed in
    record {
      continues = LoopStep-following x y z a b c (subst (λ n. LoopStep true 0 n x y a b) good h.continues) continues;
      calm = calm;
      falls = NothingBecameReady-trans a b c h.falls falls;
      contained = λ s. KeepsLinks-trans x y z (h.contained s) (contained (h.continues.agrees s));
      served = λ s q k i. in-more (is_link k) front all Listener _ more (λ p. IsServed-later k x y z a b c (h.served s going k p) falls (Reaches-of y z b c continues)) (λ e p. absurd (false≢true p)) i;
      heard = λ f q i. IsHeard-following a b c first later (heard-of r _ f heard);
      failed = λ f. ((let p = failed-of r _ f failed in let q = h.continues.counts.listens in omega arith), more.any is_listener ∙ ap (λ b. b || true) out);
      most = λ t k. (let same = bytes t k in let few = h.most (later.told t) k in omega arith);
      others = λ t k e. bytes t k ∙ h.others (later.told t) k (not-more (is_link k) front all Listener more e).0;
      clients = λ t. (let few = clients t in let none = h.unheard (later.told t) out in omega arith);
      unheard = λ t e. absurd (false≢true (sym (not-more is_listener front all Listener more e).1));
    }
  where
    none : (n : ℕ) → (1 ≤ n → Rose a.faults.listens b.faults.listens × IsTrue (list_any is_listener front)) → n ≡ 0
    none zero f = refl
    none (suc n) f = absurd (false≢true (sym out ∙ (f (omega arith)).1))

-- `/quit` was run before all were served
pub Named-quits : (front all : List Token) (faults : ℕ) (x y : Headless) (a b : Seen) → ((p : Token → Bool) → IsTrue (list_any p front) → IsTrue (list_any p all)) → y.core.quits ≡ true → ServesNamed front faults x y a b → ServesNamed all faults x y a b
Named-quits front all faults x y a b more quits h = record {
  continues = h.continues;
  calm = h.calm;
  falls = h.falls;
  contained = h.contained;
  served = λ s q k i. absurd (false≢true (sym q ∙ quits));
  heard = λ f q i. absurd (false≢true (sym q ∙ quits));
  failed = λ f. ((h.failed f).0, more is_listener (h.failed f).1);
  most = h.most;
  others = λ t k e. h.others t k (fewer (is_link k) e (list_any (is_link k) front) refl);
  clients = h.clients;
  unheard = λ t e. h.unheard t (fewer is_listener e (list_any is_listener front) refl);
}
  where
    fewer : (p : Token → Bool) → list_any p all ≡ false → (b : Bool) → list_any p front ≡ b → list_any p front ≡ false
    fewer p e true f = absurd (false≢true (sym e ∙ more p f))
    fewer p e false f = f

pub any-take : (p : Token → Bool) (i : ℕ) (tokens : List Token) → IsTrue (list_any p (take i tokens)) → IsTrue (list_any p tokens)
any-take p zero tokens h = absurd (false≢true h)
any-take p (suc i) [] h = absurd (false≢true h)
any-take p (suc i) (token ∷ tokens) h = go (p token) refl h (any-take p i tokens)
  where
    go : (b : Bool) → p token ≡ b → IsTrue (b || list_any p (take i tokens)) → (IsTrue (list_any p (take i tokens)) → IsTrue (list_any p tokens)) → IsTrue (p token || list_any p tokens)
    go true e q more = ap (λ b. b || list_any p tokens) e
    go false e q more = ap (λ b. b || list_any p tokens) e ∙ more q

-- ---- all sources

pub AllServed-following : (x y z : Headless) (a b c : Seen) → Reaches x y a b → Reaches y z b c → AllServed y z b c → AllServed x z a c
AllServed-following x y z a b c first next h = record {
  links = λ k one. IsServed-following k x y z a b c first next (h.links k one);
  listener = IsHeard-following a b c (later-of a b first.step) (later-of b c next.step) h.listener;
  written = h.written;
}

pub Within-named : (tokens : List Token) (faults : ℕ) (x y : Headless) (a b : Seen) → ServesNamed tokens faults x y a b → TakesWithin a b
Within-named tokens faults x y a b h = record { bytes = λ t k one. h.most t k; clients = h.clients }

-- the links that were not named are read
pub Within-rest : (tokens : List Token) (faults : ℕ) (x y : Headless) (a b c : Seen) → ServesNamed tokens faults x y a b → Later b c → (IsTrue c.tells → (k : ℕ) → bytes_taken k c.taken ≤ bytes_taken k b.taken + 1048576)
    → (IsTrue c.tells → (k : ℕ) → IsTrue (list_any (is_link k) tokens) → bytes_taken k c.taken ≡ bytes_taken k b.taken) → (IsTrue c.tells → arrivals c.taken ≡ arrivals b.taken) → TakesWithin a c
Within-rest tokens faults x y a b c h later most named clients = record {
  bytes = λ t k one. reported-or (list_any (is_link k) tokens) _
      (λ here. (let same = named t k here in let few = h.most (later.told t) k in omega arith))
      (λ out. (let few = most t k in let none = h.others (later.told t) k out in omega arith));
  clients = λ t. (let same = clients t in let few = h.clients (later.told t) in omega arith);
}

-- and the arrivals that were left are taken
pub Within-all : (tokens : List Token) (faults : ℕ) (x y : Headless) (a b c d : Seen) → ServesNamed tokens faults x y a b → Later b c → Later c d → TakesWithin a c → (IsTrue c.tells → arrivals c.taken ≡ arrivals b.taken)
    → (IsTrue d.tells → (k : ℕ) → bytes_taken k d.taken ≡ bytes_taken k c.taken) → (IsTrue d.tells → arrivals d.taken ≤ arrivals c.taken + 1024) → (IsTrue d.tells → IsTrue (list_any is_listener tokens) → arrivals d.taken ≡ arrivals c.taken) → TakesWithin a d
Within-all tokens faults x y a b c d h first later within clients bytes few named = record {
  bytes = λ t k one. (let same = bytes t k in let most = within.bytes (later.told t) k one in omega arith);
  clients = λ t. reported-or (list_any is_listener tokens) _
      (λ here. (let same = named t here in let before = within.clients (later.told t) in omega arith))
      (λ out. (let most = few t in let same = clients (later.told t) in let none = h.unheard (first.told (later.told t)) out in omega arith));
}

-- the links that a wait named and those that it did not name are served
pub served-all : (tokens : List Token) (k : ℕ) (x y z : Headless) (a b c : Seen) → Reaches y z b c → NothingBecameReady b c → (IsTrue (list_any (is_link k) tokens) → IsServed k x y a b) → (list_any (is_link k) tokens ≡ false → IsServed k x z a c) → IsServed k x z a c
served-all tokens k x y z a b c next falls named others = reported-or (list_any (is_link k) tokens) (IsServed k x z a c)
    (λ here. IsServed-later k x y z a b c (named here) falls next)
    others

pub heard-all : (tokens : List Token) (a b c d : Seen) → Later a b → Later b c → Later c d → NothingBecameReady b c → NothingBecameReady c d → (IsTrue (list_any is_listener tokens) → IsHeard a b) → (list_any is_listener tokens ≡ false → IsHeard c d) → Later a c → IsHeard a d
heard-all tokens a b c d first second third falls falls' named others both = reported-or (list_any is_listener tokens) (IsHeard a d)
    (λ here. IsHeard-later a c d (IsHeard-later a b c (named here) falls second) falls' third)
    (λ out. IsHeard-following a c d both third (others out))

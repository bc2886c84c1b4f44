-- Clients that are leaving.
use Rattle.std.proofs.Common.{◌≡◌, ◌≢◌, ℕ, Bool, true, false, cond, eqb, List, [], ◌∷◌, ◌++◌, map, drop, All, Option, Some, None, is_some, is_none, refl, sym, ap, ◌∙◌, subst, arith}
use Rattle.std.proofs.lemmas.Bool.{false≢true}
use Rattle.std.proofs.lemmas.Bool.Decides.{nat_tests}
use Rattle.std.proofs.lemmas.List.{append-nil}
use Rattle.std.proofs.lemmas.List.Elements.{All-nil, All-cons, All-head, All-tail, All-append}
use Rattle.wc_text.specs.declared.names.LinkId.{LinkId}
use Rattle.wc_text.specs.declared.names.Cause.{Cause}
use Rattle.wc_outside.specs.Keyed.{at_key, put_at, without}
use Rattle.wc_board.specs.declared.connection.Connection.{Connection}
use Rattle.wc_board.specs.declared.connection.Departure.{Departure}
use Rattle.wc_board.specs.Connections.{connection_link, is_open, leaving_in, leaving_on, left_at, left_if, gone_at, departure_by, departure_of}
use Rattle.wc_core.specs.Served.{clients_of, Absent, Distinct}
use Rattle.wc_core.proofs.ConnectionLemmas.{absent-connection}
use Rattle.wc_turns.specs.declared.links.Closed.{Closed}
use Rattle.wc_turns.specs.Served.{closed_by, leaving_closes, NobodyLeaving, closed_number}
use Rattle.wc_turns.proofs.KeyedLemmas.{at_key-key, without-missing, map-put_at}

eqb-same : (k : ℕ) → eqb k k ≡ true
eqb-same k = grind (arith, nat_tests)

closed-none : (link : LinkId) (why : Option Cause) (others : List Closed) → closed_by link why ++ others ≡ [] → (why ≡ None) × (others ≡ [])
closed-none link None others e = (refl, e)
closed-none link (Some cause) others e = absurd (let q : record { link = link; cause = cause } ∷ others ≡ [] = e in cc)

leaving-pick : (t : Bool) (connection : Connection) (o : Option Connection) → connection.leaving ≡ None → leaving_in o ≡ None → leaving_in (cond t (Some connection) o) ≡ None
leaving-pick true connection o e f = e
leaving-pick false connection o e f = f

-- where no client is leaving, that of a link is not
pub calm-leaving : (k : ℕ) (connections : List Connection) → NobodyLeaving connections → leaving_on k connections ≡ None
calm-leaving k [] e = refl
calm-leaving k (connection ∷ connections) e =
    let p = closed-none connection.session.client.link connection.leaving (leaving_closes connections) e in
    leaving-pick (eqb (connection_link connection) k) connection (at_key connection_link k connections) p.0 (calm-leaving k connections p.1)

leaving-first : (connection : Connection) (connections : List Connection) → leaving_on (connection_link connection) (connection ∷ connections) ≡ connection.leaving
leaving-first connection connections = rw (eqb-same (connection_link connection)) refl

leaving-rest : (k : ℕ) (connection : Connection) (connections : List Connection) (t : Bool) → eqb (connection_link connection) k ≡ t → Absent (connection_link connection) (map connection_link connections) → leaving_on k (connection ∷ connections) ≡ None → leaving_on k connections ≡ None
leaving-rest k connection connections true e absent h = let same : connection_link connection ≡ k = grind (arith, nat_tests) in ap leaving_in (absent-connection k connections (subst (λ n. Absent n (map connection_link connections)) same absent))
leaving-rest k connection connections false e absent h = rw e at h

pub all-calm : (connections : List Connection) → Distinct (map connection_link connections) → ((k : ℕ) → leaving_on k connections ≡ None) → NobodyLeaving connections
all-calm [] d h = refl
all-calm (connection ∷ connections) d h =
    let stays : connection.leaving ≡ None = sym (leaving-first connection connections) ∙ h (connection_link connection) in
    rw stays (all-calm connections d.1 (λ k. leaving-rest k connection connections (eqb (connection_link connection) k) refl d.0 (h k)))

same-link : (a b : LinkId) → a.0 ≡ b.0 → a ≡ b
same-link a b e = ap (λ n. record { 0 = n }) e

one-by : (link : LinkId) (connection : Connection) (connections : List Connection) (t : Bool) → eqb (connection_link connection) link.0 ≡ t → Distinct (map connection_link (connection ∷ connections)) → ((k : ℕ) → k ≢ link.0 → leaving_on k (connection ∷ connections) ≡ None)
    → (((k : ℕ) → k ≢ link.0 → leaving_on k connections ≡ None) → leaving_closes connections ≡ closed_by link (leaving_on link.0 connections)) → leaving_closes (connection ∷ connections) ≡ closed_by link (leaving_on link.0 (connection ∷ connections))
one-by link connection connections true e d h ih =
    let same : connection_link connection ≡ link.0 = grind (arith, nat_tests) in
    let calm : NobodyLeaving connections = all-calm connections d.1 (λ k. calm-by k (eqb k link.0) refl) in
    rw (e, calm) (append-nil _ ∙ ap (λ l. closed_by l connection.leaving) (same-link connection.session.client.link link same))
  where
    calm-by : (k : ℕ) (u : Bool) → eqb k link.0 ≡ u → leaving_on k connections ≡ None
    calm-by k true f =
        let same : connection_link connection ≡ link.0 = grind (arith, nat_tests) in
        let here : k ≡ link.0 = grind (arith, nat_tests) in
        ap leaving_in (absent-connection k connections (subst (λ n. Absent n (map connection_link connections)) (same ∙ sym here) d.0))
    calm-by k false f = leaving-rest k connection connections (eqb (connection_link connection) k) refl d.0 (h k (λ q. grind (arith, nat_tests)))
one-by link connection connections false e d h ih =
    let other : connection_link connection ≢ link.0 = λ q. grind (arith, nat_tests) in
    let stays : connection.leaving ≡ None = sym (leaving-first connection connections) ∙ h (connection_link connection) other in
    rw (stays, e) (ih (λ k n. leaving-rest k connection connections (eqb (connection_link connection) k) refl d.0 (h k n)))

-- where only the client of one link can be leaving
pub one-closes : (link : LinkId) (connections : List Connection) → Distinct (map connection_link connections) → ((k : ℕ) → k ≢ link.0 → leaving_on k connections ≡ None) → leaving_closes connections ≡ closed_by link (leaving_on link.0 connections)
one-closes link [] d h = refl
one-closes link (connection ∷ connections) d h = one-by link connection connections (eqb (connection_link connection) link.0) refl d h (one-closes link connections d.1)

first-all : (P : ℕ → Cause → Type 0) (link : LinkId) (why : Option Cause) → ((cause : Cause) → why ≡ Some cause → P link.0 cause) → All (λ (c : Closed). P c.link.0 c.cause) (closed_by link why)
first-all P link None h = All-nil (λ (c : Closed). P c.link.0 c.cause)
first-all P link (Some cause) h = All-cons (λ (c : Closed). P c.link.0 c.cause) (record { link = link; cause = cause }) [] (h cause refl) (All-nil (λ (c : Closed). P c.link.0 c.cause))

some-none : {A : Type 0} (o : Option Cause) (cause : Cause) → o ≡ Some cause → o ≡ None → A
some-none o cause e f = absurd (let q : Some cause ≡ None = sym e ∙ f in cc)

leaving-following : (k : ℕ) (cause : Cause) (connection : Connection) (connections : List Connection) (t : Bool) → eqb (connection_link connection) k ≡ t → Absent (connection_link connection) (map connection_link connections) → leaving_on k connections ≡ Some cause → leaving_on k (connection ∷ connections) ≡ Some cause
leaving-following k cause connection connections true e absent h = let same : connection_link connection ≡ k = grind (arith, nat_tests) in some-none (leaving_on k connections) cause h (ap leaving_in (absent-connection k connections (subst (λ n. Absent n (map connection_link connections)) same absent)))
leaving-following k cause connection connections false e absent h = rw e h

-- what holds of each client that is leaving holds of each close
pub closes-all : (P : ℕ → Cause → Type 0) (connections : List Connection) → Distinct (map connection_link connections) → ((k : ℕ) (cause : Cause) → leaving_on k connections ≡ Some cause → P k cause) → All (λ (c : Closed). P c.link.0 c.cause) (leaving_closes connections)
closes-all P [] distinct h = All-nil (λ (c : Closed). P c.link.0 c.cause)
closes-all P (connection ∷ connections) distinct h =
    All-append (λ (c : Closed). P c.link.0 c.cause) (closed_by connection.session.client.link connection.leaving) (leaving_closes connections)
    (first-all P connection.session.client.link connection.leaving (λ cause e. h (connection_link connection) cause (leaving-first connection connections ∙ e)))
    (closes-all P connections distinct.1 (λ k cause e. h k cause (leaving-following k cause connection connections (eqb (connection_link connection) k) refl distinct.0 e)))

-- ---- the first client that is leaving

departed-by : (connection : Connection) (connections : List Connection) (d : Departure) (why : Option Cause) → connection.leaving ≡ why → departure_by connection.session.client.link why (departure_of connections) ≡ Some d
    → (departure_of connections ≡ Some d → is_some (at_key connection_link d.link.0 connections) ≡ true) → is_some (at_key connection_link d.link.0 (connection ∷ connections)) ≡ true
departed-by connection connections d None e h ih = some-by (eqb (connection_link connection) d.link.0) (ih h)
  where
    some-by : (t : Bool) → is_some (at_key connection_link d.link.0 connections) ≡ true → is_some (cond t (Some connection) (at_key connection_link d.link.0 connections)) ≡ true
    some-by true q = refl
    some-by false q = q
departed-by connection connections d (Some cause) e h ih =
    let same : record { link = connection.session.client.link; cause = cause } ≡ d = (let q : Some (record { link = connection.session.client.link; cause = cause }) ≡ Some d = h in cc) in
    let here : eqb (connection_link connection) d.link.0 ≡ true = ap (λ (x : Departure). eqb (connection_link connection) x.link.0) (sym same) ∙ eqb-same (connection_link connection) in
    rw here refl

pub departed-there : (connections : List Connection) (d : Departure) → departure_of connections ≡ Some d → is_some (at_key connection_link d.link.0 connections) ≡ true
departed-there [] d e = absurd (let q : None ≡ Some d = e in cc)
departed-there (connection ∷ connections) d e = departed-by connection connections d connection.leaving refl e (departed-there connections d)

pub departed-calm : (connections : List Connection) → departure_of connections ≡ None → NobodyLeaving connections
departed-calm [] e = refl
departed-calm (connection ∷ connections) e = calm-by connection.leaving refl e (departed-calm connections)
  where
    calm-by : (why : Option Cause) → connection.leaving ≡ why → departure_by connection.session.client.link why (departure_of connections) ≡ None → (departure_of connections ≡ None → NobodyLeaving connections) → NobodyLeaving (connection ∷ connections)
    calm-by None f h ih = rw f (ih h)
    calm-by (Some cause) f h ih = absurd (let q : Some (record { link = connection.session.client.link; cause = cause }) ≡ None = h in cc)

-- what holds of each close that is asked for holds of the first one
pub departed-all : (P : Closed → Type 0) (connections : List Connection) (d : Departure) → departure_of connections ≡ Some d → All P (leaving_closes connections) → P (record { link = d.link; cause = d.cause })
departed-all P [] d e h = absurd (let q : None ≡ Some d = e in cc)
departed-all P (connection ∷ connections) d e h = all-by connection.leaving e h (departed-all P connections d)
  where
    all-by : (why : Option Cause) → departure_by connection.session.client.link why (departure_of connections) ≡ Some d → All P (closed_by connection.session.client.link why ++ leaving_closes connections) → (departure_of connections ≡ Some d → All P (leaving_closes connections) → P (record { link = d.link; cause = d.cause })) → P (record { link = d.link; cause = d.cause })
    all-by None q g ih = ih q g
    all-by (Some cause) q g ih =
        let same : record { link = connection.session.client.link; cause = cause } ≡ d = (let r : Some (record { link = connection.session.client.link; cause = cause }) ≡ Some d = q in cc) in
        subst (λ (x : Departure). P (record { link = x.link; cause = x.cause })) same (All-head P (record { link = connection.session.client.link; cause = cause }) (leaving_closes connections) g)

absent-other : (k : ℕ) (connections : List Connection) (j : ℕ) → Absent k (map connection_link connections) → is_some (at_key connection_link j connections) ≡ true → k ≢ j
absent-other k connections j absent there q = false≢true (sym (ap is_some (absent-connection j connections (subst (λ n. Absent n (map connection_link connections)) q absent))) ∙ there)

-- the first client that is leaving is forgotten
pub departed-first : (connections : List Connection) (d : Departure) → departure_of connections ≡ Some d → Distinct (map connection_link connections) → leaving_closes connections ≡ record { link = d.link; cause = d.cause } ∷ leaving_closes (without connection_link d.link.0 connections)
departed-first [] d e distinct = absurd (let q : None ≡ Some d = e in cc)
departed-first (connection ∷ connections) d e distinct = first-by connection.leaving refl e (λ q. departed-first connections d q distinct.1)
  where
    first-by : (why : Option Cause) → connection.leaving ≡ why → departure_by connection.session.client.link why (departure_of connections) ≡ Some d
        → (departure_of connections ≡ Some d → leaving_closes connections ≡ record { link = d.link; cause = d.cause } ∷ leaving_closes (without connection_link d.link.0 connections)) → leaving_closes (connection ∷ connections) ≡ record { link = d.link; cause = d.cause } ∷ leaving_closes (without connection_link d.link.0 (connection ∷ connections))
    first-by None f q ih =
        let other = absent-other (connection_link connection) connections d.link.0 distinct.0 (departed-there connections d q) in
        let test : eqb (connection_link connection) d.link.0 ≡ false = grind (arith, nat_tests) in
        rw (test, f) (ih q)
    first-by (Some cause) f q ih =
        let same : record { link = connection.session.client.link; cause = cause } ≡ d = (let r : Some (record { link = connection.session.client.link; cause = cause }) ≡ Some d = q in cc) in
        subst (λ (x : Departure). leaving_closes (connection ∷ connections) ≡ record { link = x.link; cause = x.cause } ∷ leaving_closes (without connection_link x.link.0 (connection ∷ connections))) same
        (rw (eqb-same (connection_link connection), f, without-missing connection_link (connection_link connection) connections (absent-connection (connection_link connection) connections distinct.0)) refl)

pub departed-leaving : (connections : List Connection) (d : Departure) → departure_of connections ≡ Some d → Distinct (map connection_link connections) → leaving_on d.link.0 connections ≡ Some d.cause
departed-leaving [] d e distinct = absurd (let q : None ≡ Some d = e in cc)
departed-leaving (connection ∷ connections) d e distinct = leaving-by connection.leaving refl e (λ q. departed-leaving connections d q distinct.1)
  where
    leaving-by : (why : Option Cause) → connection.leaving ≡ why → departure_by connection.session.client.link why (departure_of connections) ≡ Some d → (departure_of connections ≡ Some d → leaving_on d.link.0 connections ≡ Some d.cause) → leaving_on d.link.0 (connection ∷ connections) ≡ Some d.cause
    leaving-by None f q ih =
        let other = absent-other (connection_link connection) connections d.link.0 distinct.0 (departed-there connections d q) in
        let test : eqb (connection_link connection) d.link.0 ≡ false = grind (arith, nat_tests) in
        rw test (ih q)
    leaving-by (Some cause) f q ih =
        let same : record { link = connection.session.client.link; cause = cause } ≡ d = (let r : Some (record { link = connection.session.client.link; cause = cause }) ≡ Some d = q in cc) in
        subst (λ (x : Departure). leaving_on x.link.0 (connection ∷ connections) ≡ Some x.cause) same (leaving-first connection connections ∙ f)

-- ---- a client is forgotten

closed-kept : (k : ℕ) (link : LinkId) (why : Option Cause) (others : List Closed) (t : Bool) → eqb link.0 k ≡ t → without closed_number k (closed_by link why ++ others) ≡ cond t (without closed_number k others) (closed_by link why ++ without closed_number k others)
closed-kept k link None others true e = refl
closed-kept k link None others false e = refl
closed-kept k link (Some cause) others true e = rw e refl
closed-kept k link (Some cause) others false e = rw e refl

pub leaving-without : (k : ℕ) (connections : List Connection) → leaving_closes (without connection_link k connections) ≡ without closed_number k (leaving_closes connections)
leaving-without k [] = refl
leaving-without k (connection ∷ connections) = kept-by (eqb (connection_link connection) k) refl (leaving-without k connections)
  where
    kept-by : (t : Bool) → eqb (connection_link connection) k ≡ t → leaving_closes (without connection_link k connections) ≡ without closed_number k (leaving_closes connections) → leaving_closes (without connection_link k (connection ∷ connections)) ≡ without closed_number k (leaving_closes (connection ∷ connections))
    kept-by true e ih = rw e ih ∙ sym (closed-kept k connection.session.client.link connection.leaving (leaving_closes connections) true e)
    kept-by false e ih = rw e (ap (λ xs. closed_by connection.session.client.link connection.leaving ++ xs) ih) ∙ sym (closed-kept k connection.session.client.link connection.leaving (leaving_closes connections) false e)

-- what holds of each close holds of those that are left
pub all-without : (P : Closed → Type 0) (k : ℕ) (closed : List Closed) → All P closed → All P (without closed_number k closed)
all-without P k [] h = All-nil P
all-without P k (c ∷ cs) h = all-by (eqb (closed_number c) k) refl (all-without P k cs (All-tail P c cs h))
  where
    all-by : (t : Bool) → eqb (closed_number c) k ≡ t → All P (without closed_number k cs) → All P (without closed_number k (c ∷ cs))
    all-by true e ih = rw e ih
    all-by false e ih = rw e (All-cons P c (without closed_number k cs) (All-head P c cs h) ih)

not-open : (why : Option Cause) (cause : Cause) → why ≡ Some cause → is_none why ≡ false
not-open None cause e = absurd (let q : None ≡ Some cause = e in cc)
not-open (Some c) cause e = refl

-- a client that is leaving is none of those that are open
pub clients-forget : (k : ℕ) (cause : Cause) (connections : List Connection) → Distinct (map connection_link connections) → leaving_on k connections ≡ Some cause → clients_of (without connection_link k connections) ≡ clients_of connections
clients-forget k cause [] d h = refl
clients-forget k cause (connection ∷ connections) d h = forget-by (eqb (connection_link connection) k) refl (clients-forget k cause connections d.1)
  where
    forget-by : (t : Bool) → eqb (connection_link connection) k ≡ t → (leaving_on k connections ≡ Some cause → clients_of (without connection_link k connections) ≡ clients_of connections) → clients_of (without connection_link k (connection ∷ connections)) ≡ clients_of (connection ∷ connections)
    forget-by true e ih =
        let same : connection_link connection ≡ k = grind (arith, nat_tests) in
        let why : connection.leaving ≡ Some cause = rw e at h in
        rw (e, not-open connection.leaving cause why) (ap clients_of (without-missing connection_link k connections (absent-connection k connections (subst (λ n. Absent n (map connection_link connections)) same d.0))))
    forget-by false e ih =
        let rest : leaving_on k connections ≡ Some cause = rw e at h in
        rw e (ap (λ cs. cond (is_open connection) (connection.session.client ∷ cs) cs) (ih rest))

-- ---- a connection is changed in its place

put-seen : {A : Type 0} (f : List Connection → A) (g : Connection → A → A) → ((connection : Connection) (connections : List Connection) → f (connection ∷ connections) ≡ g connection (f connections)) → (k : ℕ) (s y : Connection) (connections : List Connection) → at_key connection_link k connections ≡ Some s → ((a : A) → g y a ≡ g s a) → f (put_at connection_link k y connections) ≡ f connections
put-seen f g step k s y [] h same = refl
put-seen f g step k s y (connection ∷ connections) h same = put-by (eqb (connection_link connection) k) refl (λ q. put-seen f g step k s y connections q same)
  where
    put-by : (t : Bool) → eqb (connection_link connection) k ≡ t → (at_key connection_link k connections ≡ Some s → f (put_at connection_link k y connections) ≡ f connections) → f (put_at connection_link k y (connection ∷ connections)) ≡ f (connection ∷ connections)
    put-by true e ih =
        let here : connection ≡ s = (let q : Some connection ≡ Some s = rw e at h in cc) in
        rw e (step y connections ∙ same (f connections) ∙ ap (λ x. g x (f connections)) (sym here) ∙ sym (step connection connections))
    put-by false e ih = rw e (step connection (put_at connection_link k y connections) ∙ ap (g connection) (ih (rw e at h)) ∙ sym (step connection connections))

pub leaving-put : (k : ℕ) (s y : Connection) (connections : List Connection) → at_key connection_link k connections ≡ Some s → y.session.client ≡ s.session.client → y.leaving ≡ s.leaving → leaving_closes (put_at connection_link k y connections) ≡ leaving_closes connections
leaving-put k s y connections h client leaving = put-seen leaving_closes (λ connection others. closed_by connection.session.client.link connection.leaving ++ others) (λ connection others. refl) k s y connections h (λ others. rw (client, leaving) refl)

pub clients-put : (k : ℕ) (s y : Connection) (connections : List Connection) → at_key connection_link k connections ≡ Some s → y.session.client ≡ s.session.client → y.leaving ≡ s.leaving → clients_of (put_at connection_link k y connections) ≡ clients_of connections
clients-put k s y connections h client leaving = put-seen clients_of (λ connection others. cond (is_open connection) (connection.session.client ∷ others) others) (λ connection others. refl) k s y connections h (λ others. rw (client, leaving) refl)

-- ---- the client of a link begins to leave

abbrev pub left_cause : Cause → Option Connection → Option Cause
left_cause cause None = None
left_cause cause (Some connection) = Some cause

left-one : (link : LinkId) (cause : Cause) (s : Connection) (connections : List Connection) → NobodyLeaving connections → at_key connection_link link.0 connections ≡ Some s → leaving_closes (put_at connection_link link.0 (record s { leaving = Some cause }) connections) ≡ record { link = link; cause = cause } ∷ []
left-one link cause s [] calm h = absurd (let q : None ≡ Some s = h in cc)
left-one link cause s (connection ∷ connections) calm h = one-left (eqb (connection_link connection) link.0) refl (left-one link cause s connections)
  where
    one-left : (t : Bool) → eqb (connection_link connection) link.0 ≡ t → (NobodyLeaving connections → at_key connection_link link.0 connections ≡ Some s → leaving_closes (put_at connection_link link.0 (record s { leaving = Some cause }) connections) ≡ record { link = link; cause = cause } ∷ []) → leaving_closes (put_at connection_link link.0 (record s { leaving = Some cause }) (connection ∷ connections)) ≡ record { link = link; cause = cause } ∷ []
    one-left true e ih =
        let p = closed-none connection.session.client.link connection.leaving (leaving_closes connections) calm in
        let here : connection ≡ s = (let q : Some connection ≡ Some s = rw e at h in cc) in
        let same : connection_link connection ≡ link.0 = grind (arith, nat_tests) in
        let key : s.session.client.link ≡ link = same-link s.session.client.link link (ap connection_link (sym here) ∙ same) in
        rw (e, p.1) (ap (λ l. record { link = l; cause = cause } ∷ []) key)
    one-left false e ih =
        let p = closed-none connection.session.client.link connection.leaving (leaving_closes connections) calm in
        rw (e, p.0) (ih p.1 (rw e at h))

open-none : (why : Option Cause) → why ≡ None → is_none why ≡ true
open-none None e = refl
open-none (Some c) e = absurd (let q : Some c ≡ None = e in cc)

pub calm-left : (link : LinkId) (cause : Cause) (connections : List Connection) (o : Option Connection) → at_key connection_link link.0 connections ≡ o → NobodyLeaving connections → leaving_closes (left_at link.0 cause connections o) ≡ closed_by link (left_cause cause o)
calm-left link cause connections None h calm = calm
calm-left link cause connections (Some s) h calm =
    let stays : s.leaving ≡ None = sym (ap leaving_in h) ∙ calm-leaving link.0 connections calm in
    rw (open-none s.leaving stays) (left-one link cause s connections calm h)

left-by : (k : ℕ) (cause : Cause) (connections : List Connection) (s : Connection) (t : Bool) → connection_link s ≡ k → map connection_link (left_if t k cause connections s) ≡ map connection_link connections
left-by k cause connections s true key = map-put_at connection_link k (record s { leaving = Some cause }) connections key
left-by k cause connections s false key = refl

pub links-left : (k : ℕ) (cause : Cause) (connections : List Connection) (o : Option Connection) → at_key connection_link k connections ≡ o → map connection_link (left_at k cause connections o) ≡ map connection_link connections
links-left k cause connections None h = refl
links-left k cause connections (Some s) h = left-by k cause connections s (is_open s) (at_key-key connection_link k connections s h)

-- ---- unsent bytes are gone

pub leaving-gone : (k count : ℕ) (connections : List Connection) (o : Option Connection) → at_key connection_link k connections ≡ o → leaving_closes (gone_at k count connections o) ≡ leaving_closes connections
leaving-gone k count connections None h = refl
leaving-gone k count connections (Some s) h = leaving-put k s (record s { session = record s.session { unsent = drop count s.session.unsent } }) connections h refl refl

pub clients-gone : (k count : ℕ) (connections : List Connection) (o : Option Connection) → at_key connection_link k connections ≡ o → clients_of (gone_at k count connections o) ≡ clients_of connections
clients-gone k count connections None h = refl
clients-gone k count connections (Some s) h = clients-put k s (record s { session = record s.session { unsent = drop count s.session.unsent } }) connections h refl refl

pub links-gone : (k count : ℕ) (connections : List Connection) (o : Option Connection) → at_key connection_link k connections ≡ o → map connection_link (gone_at k count connections o) ≡ map connection_link connections
links-gone k count connections None h = refl
links-gone k count connections (Some s) h = map-put_at connection_link k (record s { session = record s.session { unsent = drop count s.session.unsent } }) connections (at_key-key connection_link k connections s h)

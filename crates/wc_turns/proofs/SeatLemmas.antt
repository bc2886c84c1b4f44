-- Servers that are leaving, among those that are open.
use Rattle.std.proofs.Common.{◌≡◌, ◌≢◌, ◌⊎◌, inl, inr, ℕ, nat_le, Bool, true, false, cond, eqb, List, [], ◌∷◌, ◌++◌, map, All, Option, Some, None, IsSome, is_none, refl, sym, ap, ◌∙◌, subst, arith}
use Rattle.std.proofs.lemmas.Bool.{false≢true}
use Rattle.std.proofs.lemmas.Bool.Decides.{nat_tests}
use Rattle.std.proofs.lemmas.List.Elements.{All-nil, All-cons, All-head, All-tail, All-append}
use Rattle.std.specs.List.{flat_map}
use Rattle.wc_text.specs.declared.names.Cause.{Cause}
use Rattle.wc_outside.specs.Keyed.{at_key, put_at}
use Rattle.wc_core.specs.ServersKept.{Parting, put_by_rank, leaving_seats, parting_by, parting_of, partings_of, LeavesIf, LeavesAt, LosesServer}
use Rattle.wc_servers.specs.Seats.{SeatView, ServersView, known, left_for, seat_link, server_link, is_open, is_open_at, seat_of, open_of, links_of, leaving_in, leaving_on, NotAmong, AreApart}
use Rattle.wc_turns.specs.declared.links.Closed.{Closed}
use Rattle.wc_turns.specs.Parties.{seat_closes}
use Rattle.wc_turns.specs.Run.{close_of_parting}
use Rattle.wc_turns.proofs.KeyedLemmas.{at_key-key, at_key-put_other, at_key-put_same, map-put_at}

-- no open server has a number that none has
absent-open : (k : ℕ) (seats : List SeatView) → NotAmong k (links_of seats) → at_key server_link k (open_of seats) ≡ None
absent-open k [] absent = refl
absent-open k (seat ∷ seats) absent = absent-by (is_open seat) (absent-open k seats absent.1)
  where
    absent-by : (t : Bool) → at_key server_link k (open_of seats) ≡ None → at_key server_link k (cond t (seat_of seat ∷ open_of seats) (open_of seats)) ≡ None
    absent-by true none =
        let other : eqb seat.link k ≡ false = other-by (eqb seat.link k) refl in
        rw other none
      where
        other-by : (u : Bool) → eqb seat.link k ≡ u → u ≡ false
        other-by true e = absurd (absent.0 (grind (arith, nat_tests)))
        other-by false e = refl
    absent-by false none = none

-- the server of a link that is leaving, or that is not there, is not among those that are open
pub open-none : (k : ℕ) (seats : List SeatView) → AreApart (links_of seats) → is_open_at (at_key seat_link k seats) ≡ false → at_key server_link k (open_of seats) ≡ None
open-none k [] apart shut = refl
open-none k (seat ∷ seats) apart shut = none-by (eqb seat.link k) refl shut (open-none k seats apart.1)
  where
    none-by : (t : Bool) → eqb seat.link k ≡ t → is_open_at (cond t (Some seat) (at_key seat_link k seats)) ≡ false → (is_open_at (at_key seat_link k seats) ≡ false → at_key server_link k (open_of seats) ≡ None) → at_key server_link k (open_of (seat ∷ seats)) ≡ None
    none-by true e q ih =
        let same : seat.link ≡ k = grind (arith, nat_tests) in
        rw q (absent-open k seats (subst (λ n. NotAmong n (links_of seats)) same apart.0))
    none-by false e q ih = passed-by (is_open seat)
      where
        passed-by : (u : Bool) → at_key server_link k (cond u (seat_of seat ∷ open_of seats) (open_of seats)) ≡ None
        passed-by true = rw e (ih q)
        passed-by false = ih q

leaving-shut : (why : Option Cause) → IsSome why → is_none why ≡ false
leaving-shut None h = absurd (false≢true h)
leaving-shut (Some cause) h = refl

-- a server that is leaving is not open
pub shut-leaving : (o : Option SeatView) → IsSome (leaving_in o) → is_open_at o ≡ false
shut-leaving None h = refl
shut-leaving (Some seat) h = leaving-shut seat.leaving h

-- ---- the closes that servers ask for

All-front : {X : Type 0} (P : X → Type 0) (xs ys : List X) → All P (xs ++ ys) → All P xs
All-front P [] ys h = All-nil P
All-front P (x ∷ xs) ys h = All-cons P x xs (All-head P x (xs ++ ys) h) (All-front P xs ys (All-tail P x (xs ++ ys) h))

All-back : {X : Type 0} (P : X → Type 0) (xs ys : List X) → All P (xs ++ ys) → All P ys
All-back P [] ys h = h
All-back P (x ∷ xs) ys h = All-back P xs ys (All-tail P x (xs ++ ys) h)

-- what holds of the parting of each server that is put among others holds of all
put-all : (P : Parting → Type 0) (seat : SeatView) (seats : List SeatView) → All P (parting_of seat) → All P (flat_map parting_of seats) → All P (flat_map parting_of (put_by_rank seat seats))
put-all P seat [] h g = All-append P (parting_of seat) [] h g
put-all P seat (other ∷ seats) h g = put-by (nat_le seat.rank other.rank) (put-all P seat seats h (All-back P (parting_of other) (flat_map parting_of seats) g))
  where
    first : All P (parting_of other)
    first = All-front P (parting_of other) (flat_map parting_of seats) g

    put-by : (t : Bool) → All P (flat_map parting_of (put_by_rank seat seats)) → All P (flat_map parting_of (cond t (seat ∷ other ∷ seats) (other ∷ put_by_rank seat seats)))
    put-by true behind = All-append P (parting_of seat) (parting_of other ++ flat_map parting_of seats) h g
    put-by false behind = All-append P (parting_of other) (flat_map parting_of (put_by_rank seat seats)) first behind

abbrev PartsAs : (ℕ → Cause → Type 0) → Parting → Type 0
PartsAs P parting = P parting.link parting.cause

one-parting : (P : ℕ → Cause → Type 0) (link : ℕ) (why : Option Cause) → ((cause : Cause) → why ≡ Some cause → P link cause) → All (PartsAs P) (parting_by link why)
one-parting P link None h = All-nil (PartsAs P)
one-parting P link (Some cause) h = All-cons (PartsAs P) (record { link = link; cause = cause }) [] (h cause refl) (All-nil (PartsAs P))

seat-here : (seat : SeatView) (seats : List SeatView) → at_key seat_link seat.link (seat ∷ seats) ≡ Some seat
seat-here seat seats = let same : eqb seat.link seat.link ≡ true = grind (arith, nat_tests) in rw same refl

absent-seat : (j : ℕ) (xs : List SeatView) → NotAmong j (links_of xs) → at_key seat_link j xs ≡ None
absent-seat j [] a = refl
absent-seat j (x ∷ xs) a = absent-by (eqb x.link j) refl (absent-seat j xs a.1)
  where
    absent-by : (t : Bool) → eqb x.link j ≡ t → at_key seat_link j xs ≡ None → cond t (Some x) (at_key seat_link j xs) ≡ None
    absent-by true q none = absurd (a.0 (grind (arith, nat_tests)))
    absent-by false q none = none

-- the first server with a link comes after another one with another link
seat-behind : (k : ℕ) (seat : SeatView) (seats : List SeatView) (cause : Cause) → NotAmong seat.link (links_of seats) → leaving_on k seats ≡ Some cause → leaving_on k (seat ∷ seats) ≡ Some cause
seat-behind k seat seats cause absent e = behind-by (eqb seat.link k) refl
  where
    behind-by : (t : Bool) → eqb seat.link k ≡ t → leaving_in (cond t (Some seat) (at_key seat_link k seats)) ≡ Some cause
    behind-by true q =
        let same : seat.link ≡ k = grind (arith, nat_tests) in
        let none : leaving_on k seats ≡ None = ap leaving_in (absent-seat k seats (subst (λ n. NotAmong n (links_of seats)) same absent)) in
        absurd (let p : Some cause ≡ None = sym e ∙ none in cc)
    behind-by false q = e

-- what holds of each server that is leaving holds of each parting
partings-all : (P : ℕ → Cause → Type 0) (seats : List SeatView) → AreApart (links_of seats) → ((k : ℕ) (cause : Cause) → leaving_on k seats ≡ Some cause → P k cause) → All (PartsAs P) (partings_of seats)
partings-all P [] apart h = All-nil (PartsAs P)
partings-all P (seat ∷ seats) apart h = all-by (is_open seat) (partings-all P seats apart.1 (λ k cause e. h k cause (seat-behind k seat seats cause apart.0 e)))
  where
    all-by : (t : Bool) → All (PartsAs P) (partings_of seats) → All (PartsAs P) (flat_map parting_of (cond t (leaving_seats seats) (put_by_rank seat (leaving_seats seats))))
    all-by true following = following
    all-by false following = put-all (PartsAs P) seat (leaving_seats seats) (one-parting P seat.link seat.leaving (λ cause e. h seat.link cause (ap leaving_in (seat-here seat seats) ∙ e))) following

closes-as : (P : ℕ → Cause → Type 0) (partings : List Parting) → All (PartsAs P) partings → All (λ (c : Closed). P c.link.0 c.cause) (map close_of_parting partings)
closes-as P [] h = All-nil (λ (c : Closed). P c.link.0 c.cause)
closes-as P (p ∷ ps) h = All-cons (λ (c : Closed). P c.link.0 c.cause) (close_of_parting p) (map close_of_parting ps) (All-head (PartsAs P) p ps h) (closes-as P ps (All-tail (PartsAs P) p ps h))

-- what holds of each server that is leaving holds of each close that servers ask for
pub seats-all : (P : ℕ → Cause → Type 0) (seats : List SeatView) → AreApart (links_of seats) → ((k : ℕ) (cause : Cause) → leaving_on k seats ≡ Some cause → P k cause) → All (λ (c : Closed). P c.link.0 c.cause) (seat_closes seats)
seats-all P seats apart h = closes-as P (partings_of seats) (partings-all P seats apart h)

-- ---- where servers ask for no close, none is leaving

none-front : {X : Type 0} (xs ys : List X) → xs ++ ys ≡ [] → xs ≡ []
none-front [] ys e = refl
none-front (x ∷ xs) ys e = cc

none-back : {X : Type 0} (xs ys : List X) → xs ++ ys ≡ [] → ys ≡ []
none-back [] ys e = e
none-back (x ∷ xs) ys e = cc

put-none : (seat : SeatView) (seats : List SeatView) → flat_map parting_of (put_by_rank seat seats) ≡ [] → parting_of seat ≡ []
put-none seat [] e = none-front (parting_of seat) [] e
put-none seat (other ∷ seats) e = put-by (nat_le seat.rank other.rank) e (put-none seat seats)
  where
    put-by : (t : Bool) → flat_map parting_of (cond t (seat ∷ other ∷ seats) (other ∷ put_by_rank seat seats)) ≡ [] → (flat_map parting_of (put_by_rank seat seats) ≡ [] → parting_of seat ≡ []) → parting_of seat ≡ []
    put-by true q ih = none-front (parting_of seat) (parting_of other ++ flat_map parting_of seats) q
    put-by false q ih = ih (none-back (parting_of other) (flat_map parting_of (put_by_rank seat seats)) q)

no-cause : (why : Option Cause) → is_none why ≡ true → why ≡ None
no-cause None e = refl
no-cause (Some cause) e = absurd (false≢true e)

some-parting : (link : ℕ) (why : Option Cause) → is_none why ≡ false → parting_by link why ≡ [] → ⊥
some-parting link None e q = false≢true (sym e)
some-parting link (Some cause) e q = absurd (let r : record { link = link; cause = cause } ∷ [] ≡ [] = q in cc)

partings-still : (seats : List SeatView) → partings_of seats ≡ [] → (k : ℕ) → leaving_on k seats ≡ None
partings-still [] e k = refl
partings-still (seat ∷ seats) e k = still-by (is_open seat) refl e (λ q. partings-still seats q k)
  where
    still-by : (t : Bool) → is_open seat ≡ t → flat_map parting_of (cond t (leaving_seats seats) (put_by_rank seat (leaving_seats seats))) ≡ [] → (partings_of seats ≡ [] → leaving_on k seats ≡ None) → leaving_on k (seat ∷ seats) ≡ None
    still-by true o q ih = here-by (eqb seat.link k)
      where
        here-by : (u : Bool) → leaving_in (cond u (Some seat) (at_key seat_link k seats)) ≡ None
        here-by true = no-cause seat.leaving o
        here-by false = ih q
    still-by false o q ih = absurd (some-parting seat.link seat.leaving o (put-none seat (leaving_seats seats) q))

no-partings : (partings : List Parting) → map close_of_parting partings ≡ [] → partings ≡ []
no-partings [] e = refl
no-partings (p ∷ ps) e = cc

-- and there is no parting
pub calm-partings : (seats : List SeatView) → seat_closes seats ≡ [] → partings_of seats ≡ []
calm-partings seats e = no-partings (partings_of seats) e

pub seats-still : (seats : List SeatView) → seat_closes seats ≡ [] → (k : ℕ) → leaving_on k seats ≡ None
seats-still seats e k = partings-still seats (no-partings (partings_of seats) e) k

-- ---- the server of a link is lost

link-put : (k : ℕ) (y : SeatView) (seats : List SeatView) → y.link ≡ k → map seat_link (put_at seat_link k y seats) ≡ map seat_link seats
link-put k y seats e = map-put_at seat_link k y seats e

-- a server that is leaving after the loss of a link was leaving before, or it is that of the link
pub loses-parted : (t : Bool) (link : ℕ) (cause : Cause) (old new : ServersView) → LosesServer t link cause old new → (k : ℕ) → (leaving_on k new.seats ≡ leaving_on k old.seats) ⊎ ((k ≡ link) × (leaving_on k new.seats ≡ Some cause))
loses-parted true link cause old new h k = inl (ap (λ (v : ServersView). leaving_on k v.seats) h)
loses-parted false link cause old new h k = parted-at (at_key seat_link link old.seats) refl h
  where
    parted-if : (seat : SeatView) (t : Bool) → at_key seat_link link old.seats ≡ Some seat → LeavesIf t link cause old new seat → (leaving_on k new.seats ≡ leaving_on k old.seats) ⊎ ((k ≡ link) × (leaving_on k new.seats ≡ Some cause))
    parted-if seat true e leaves = here-by (eqb k link) refl
      where
        left : SeatView
        left = left_for cause old.left (known leaves.server seat)

        key : seat.link ≡ link
        key = at_key-key seat_link link old.seats seat e

        now : new.seats ≡ put_at seat_link link left old.seats
        now = ap (λ (v : ServersView). v.seats) leaves.left

        here-by : (u : Bool) → eqb k link ≡ u → (leaving_on k new.seats ≡ leaving_on k old.seats) ⊎ ((k ≡ link) × (leaving_on k new.seats ≡ Some cause))
        here-by true q =
            let same : k ≡ link = grind (arith, nat_tests) in
            inr (same, ap (leaving_on k) now ∙ ap (λ n. leaving_on n (put_at seat_link link left old.seats)) same ∙ ap leaving_in (at_key-put_same seat_link link seat left old.seats key e))
        here-by false q =
            let other : k ≢ link = λ p. grind (arith, nat_tests) in
            inl (ap (leaving_on k) now ∙ ap leaving_in (at_key-put_other seat_link link k left old.seats key other))
    parted-if seat false e leaves = inl (ap (λ (v : ServersView). leaving_on k v.seats) leaves)

    parted-at : (o : Option SeatView) → at_key seat_link link old.seats ≡ o → LeavesAt link cause old new o → (leaving_on k new.seats ≡ leaving_on k old.seats) ⊎ ((k ≡ link) × (leaving_on k new.seats ≡ Some cause))
    parted-at None e leaves = inl (ap (λ (v : ServersView). leaving_on k v.seats) leaves)
    parted-at (Some seat) e leaves = parted-if seat (is_open seat) e leaves

-- what stays at the loss of a link
pub record KeepsSeats (old new : ServersView) : Type 0 where
  pub wanted : new.wanted ≡ old.wanted
  pub used : new.used ≡ old.used
  pub links : map seat_link new.seats ≡ map seat_link old.seats

keeps-same : (old new : ServersView) → new ≡ old → KeepsSeats old new
keeps-same old new e = record { wanted = ap (λ (v : ServersView). v.wanted) e; used = ap (λ (v : ServersView). v.used) e; links = ap (λ (v : ServersView). map seat_link v.seats) e }

pub loses-keeps : (t : Bool) (link : ℕ) (cause : Cause) (old new : ServersView) → LosesServer t link cause old new → KeepsSeats old new
loses-keeps true link cause old new h = keeps-same old new h
loses-keeps false link cause old new h = keeps-at (at_key seat_link link old.seats) refl h
  where
    keeps-if : (seat : SeatView) (t : Bool) → at_key seat_link link old.seats ≡ Some seat → LeavesIf t link cause old new seat → KeepsSeats old new
    keeps-if seat true e leaves = record {
      wanted = ap (λ (v : ServersView). v.wanted) leaves.left;
      used = ap (λ (v : ServersView). v.used) leaves.left;
      links = ap (λ (v : ServersView). map seat_link v.seats) leaves.left ∙ link-put link (left_for cause old.left (known leaves.server seat)) old.seats (at_key-key seat_link link old.seats seat e);
    }
    keeps-if seat false e leaves = keeps-same old new leaves

    keeps-at : (o : Option SeatView) → at_key seat_link link old.seats ≡ o → LeavesAt link cause old new o → KeepsSeats old new
    keeps-at None e leaves = keeps-same old new leaves
    keeps-at (Some seat) e leaves = keeps-if seat (is_open seat) e leaves

-- a link without an open client has no open server after it is lost
pub loses-shut : (link : ℕ) (cause : Cause) (old new : ServersView) → LosesServer false link cause old new → is_open_at (at_key seat_link link new.seats) ≡ false
loses-shut link cause old new h = shut-at (at_key seat_link link old.seats) refl h
  where
    shut-if : (seat : SeatView) (t : Bool) → is_open seat ≡ t → at_key seat_link link old.seats ≡ Some seat → LeavesIf t link cause old new seat → is_open_at (at_key seat_link link new.seats) ≡ false
    shut-if seat true o e leaves =
        let left : SeatView = left_for cause old.left (known leaves.server seat) in
        ap (λ (v : ServersView). is_open_at (at_key seat_link link v.seats)) leaves.left ∙ ap is_open_at (at_key-put_same seat_link link seat left old.seats (at_key-key seat_link link old.seats seat e) e)
    shut-if seat false o e leaves = ap (λ (v : ServersView). is_open_at (at_key seat_link link v.seats)) leaves ∙ ap is_open_at e ∙ o

    shut-at : (o : Option SeatView) → at_key seat_link link old.seats ≡ o → LeavesAt link cause old new o → is_open_at (at_key seat_link link new.seats) ≡ false
    shut-at None e leaves = ap (λ (v : ServersView). is_open_at (at_key seat_link link v.seats)) leaves ∙ ap is_open_at e
    shut-at (Some seat) e leaves = shut-if seat (is_open seat) refl e leaves

-- The closes that servers ask for, as one of them sends, or is forgotten.
use Rattle.std.proofs.Common.{◌≡◌, ◌≢◌, ℕ, ◌<◌, ◌≤◌, nat_le, nat_lt, Bool, true, false, cond, eqb, List, [], ◌∷◌, ◌++◌, length, map, All, Option, Some, None, is_some, is_none, refl, sym, ap, ◌∙◌, subst, arith}
use Rattle.std.proofs.lemmas.Bool.{false≢true}
use Rattle.std.proofs.lemmas.Bool.Decides.{nat_tests}
use Rattle.std.proofs.lemmas.List.Elements.{All-nil, All-cons, All-head, All-tail, All-append}
use Rattle.std.specs.List.{flat_map}
use Rattle.wc_text.specs.declared.names.Cause.{Cause}
use Rattle.wc_outside.specs.Keyed.{at_key, put_at, without}
use Rattle.wc_servers.specs.Seats.{SeatView, seat_link, seat_of, is_open, is_open_at, open_of, links_of, leaving_in, leaving_on, before_or, first_leaving, gone_at, NotAmong, AreApart}
use Rattle.wc_core.specs.ServersKept.{put_by_rank, leaving_seats, parting_of, parting_by, AreRanked}
use Rattle.wc_turns.specs.declared.links.Closed.{Closed}
use Rattle.wc_turns.specs.Served.{closed_by}
use Rattle.wc_turns.specs.Parties.{seat_closes}
use Rattle.wc_turns.specs.Run.{close_of_parting}
use Rattle.wc_turns.proofs.KeyedLemmas.{without-missing}

-- ---- closes, seat by seat

abbrev pub close_of_seat : SeatView → List Closed
close_of_seat seat = closed_by (record { 0 = seat.link }) seat.leaving

abbrev pub flat_closes : List SeatView → List Closed
flat_closes seats = flat_map close_of_seat (leaving_seats seats)

closes-flat : (seats : List SeatView) → map close_of_parting (flat_map parting_of seats) ≡ flat_map close_of_seat seats
closes-flat [] = refl
closes-flat (seat ∷ seats) = flat-by seat.leaving (closes-flat seats)
  where
    flat-by : (why : Option Cause) → map close_of_parting (flat_map parting_of seats) ≡ flat_map close_of_seat seats → map close_of_parting (parting_by seat.link why ++ flat_map parting_of seats) ≡ closed_by (record { 0 = seat.link }) why ++ flat_map close_of_seat seats
    flat-by None ih = ih
    flat-by (Some cause) ih = ap (λ cs. record { link = record { 0 = seat.link }; cause = cause } ∷ cs) ih

pub closes-seats : (seats : List SeatView) → seat_closes seats ≡ flat_closes seats
closes-seats seats = closes-flat (leaving_seats seats)

-- ---- what holds of all closes

pub All-front : (P : Closed → Type 0) (xs ys : List Closed) → All P (xs ++ ys) → All P xs
All-front P [] ys h = All-nil P
All-front P (x ∷ xs) ys h = All-cons P x xs (All-head P x (xs ++ ys) h) (All-front P xs ys (All-tail P x (xs ++ ys) h))

pub All-back : (P : Closed → Type 0) (xs ys : List Closed) → All P (xs ++ ys) → All P ys
All-back P [] ys h = h
All-back P (x ∷ xs) ys h = All-back P xs ys (All-tail P x (xs ++ ys) h)

-- what holds of the close of each server that is put among others holds of all
put-each : (P : Closed → Type 0) (seat : SeatView) (seats : List SeatView) → All P (close_of_seat seat) → All P (flat_map close_of_seat seats) → All P (flat_map close_of_seat (put_by_rank seat seats))
put-each P seat [] h g = All-append P (close_of_seat seat) [] h g
put-each P seat (other ∷ seats) h g =
    let first = All-front P (close_of_seat other) (flat_map close_of_seat seats) g in
    let rest = All-back P (close_of_seat other) (flat_map close_of_seat seats) g in
    put-by (nat_le seat.rank other.rank) first (put-each P seat seats h rest)
  where
    put-by : (t : Bool) → All P (close_of_seat other) → All P (flat_map close_of_seat (put_by_rank seat seats)) → All P (flat_map close_of_seat (cond t (seat ∷ other ∷ seats) (other ∷ put_by_rank seat seats)))
    put-by true first ih = All-append P (close_of_seat seat) (close_of_seat other ++ flat_map close_of_seat seats) h g
    put-by false first ih = All-append P (close_of_seat other) (flat_map close_of_seat (put_by_rank seat seats)) first ih

-- and what holds of all holds of it and of the others
put-parts : (P : Closed → Type 0) (seat : SeatView) (seats : List SeatView) → All P (flat_map close_of_seat (put_by_rank seat seats)) → All P (close_of_seat seat) × All P (flat_map close_of_seat seats)
put-parts P seat [] h = (All-front P (close_of_seat seat) [] h, All-nil P)
put-parts P seat (other ∷ seats) h = parts-by (nat_le seat.rank other.rank) h (put-parts P seat seats)
  where
    parts-by : (t : Bool) → All P (flat_map close_of_seat (cond t (seat ∷ other ∷ seats) (other ∷ put_by_rank seat seats))) → (All P (flat_map close_of_seat (put_by_rank seat seats)) → All P (close_of_seat seat) × All P (flat_map close_of_seat seats)) → All P (close_of_seat seat) × All P (close_of_seat other ++ flat_map close_of_seat seats)
    parts-by true g ih = (All-front P (close_of_seat seat) (close_of_seat other ++ flat_map close_of_seat seats) g, All-back P (close_of_seat seat) (close_of_seat other ++ flat_map close_of_seat seats) g)
    parts-by false g ih =
        let later = ih (All-back P (close_of_seat other) (flat_map close_of_seat (put_by_rank seat seats)) g) in
        (later.0, All-append P (close_of_seat other) (flat_map close_of_seat seats) (All-front P (close_of_seat other) (flat_map close_of_seat (put_by_rank seat seats)) g) later.1)

-- what holds of the close of a server that is leaving and of those of the others holds of all
seats-more : (P : Closed → Type 0) (seat : SeatView) (seats : List SeatView) → (is_open seat ≡ false → All P (close_of_seat seat)) → All P (flat_closes seats) → All P (flat_closes (seat ∷ seats))
seats-more P seat seats h g = more-by (is_open seat) refl
  where
    more-by : (t : Bool) → is_open seat ≡ t → All P (flat_map close_of_seat (cond t (leaving_seats seats) (put_by_rank seat (leaving_seats seats))))
    more-by true e = g
    more-by false e = put-each P seat (leaving_seats seats) (h e) g

seats-parts : (P : Closed → Type 0) (seat : SeatView) (seats : List SeatView) → All P (flat_closes (seat ∷ seats)) → (is_open seat ≡ false → All P (close_of_seat seat)) × All P (flat_closes seats)
seats-parts P seat seats h = parts-by (is_open seat) refl h
  where
    parts-by : (t : Bool) → is_open seat ≡ t → All P (flat_map close_of_seat (cond t (leaving_seats seats) (put_by_rank seat (leaving_seats seats)))) → (is_open seat ≡ false → All P (close_of_seat seat)) × All P (flat_closes seats)
    parts-by true e g = ((λ q. absurd (false≢true (sym q ∙ e))), g)
    parts-by false e g = let p = put-parts P seat (leaving_seats seats) g in ((λ q. p.0), p.1)

-- what holds of each close holds of those that are left
flat-without : (P : Closed → Type 0) (k : ℕ) (seats : List SeatView) → All P (flat_closes seats) → All P (flat_closes (without seat_link k seats))
flat-without P k [] h = h
flat-without P k (seat ∷ seats) h =
    let p = seats-parts P seat seats h in
    left-by (eqb seat.link k) refl p.0 (flat-without P k seats p.1)
  where
    left-by : (t : Bool) → eqb seat.link k ≡ t → (is_open seat ≡ false → All P (close_of_seat seat)) → All P (flat_closes (without seat_link k seats)) → All P (flat_closes (without seat_link k (seat ∷ seats)))
    left-by true e one ih = rw e ih
    left-by false e one ih = rw e (seats-more P seat (without seat_link k seats) one ih)

pub seats-without : (P : Closed → Type 0) (k : ℕ) (seats : List SeatView) → All P (seat_closes seats) → All P (seat_closes (without seat_link k seats))
seats-without P k seats h = subst (All P) (sym (closes-seats (without seat_link k seats))) (flat-without P k seats (subst (All P) (closes-seats seats) h))

-- where no server is leaving, that of a link is not
pub calm-seat : (k : ℕ) (seats : List SeatView) → seat_closes seats ≡ [] → leaving_on k seats ≡ None
calm-seat k seats e = still seats (subst (All (λ (c : Closed). ⊥)) (sym e ∙ closes-seats seats) (All-nil (λ (c : Closed). ⊥)))
  where
    none-by : (link : ℕ) (why : Option Cause) → (is_none why ≡ false → All (λ (c : Closed). ⊥) (closed_by (record { 0 = link }) why)) → why ≡ None
    none-by link None h = refl
    none-by link (Some cause) h = absurd (All-head (λ (c : Closed). ⊥) (record { link = record { 0 = link }; cause = cause }) [] (h refl))

    still : (xs : List SeatView) → All (λ (c : Closed). ⊥) (flat_closes xs) → leaving_on k xs ≡ None
    still [] h = refl
    still (seat ∷ xs) h =
        let p = seats-parts (λ (c : Closed). ⊥) seat xs h in
        pick (eqb seat.link k) (none-by seat.link seat.leaving p.0) (still xs p.1)
      where
        pick : (t : Bool) → seat.leaving ≡ None → leaving_on k xs ≡ None → leaving_in (cond t (Some seat) (at_key seat_link k xs)) ≡ None
        pick true a b = a
        pick false a b = b

-- ---- a server without what it has not sent

abbrev pub stub : SeatView → SeatView
stub seat = record seat { unsent = [] }

put-stub : (seat : SeatView) (seats : List SeatView) → map stub (put_by_rank seat seats) ≡ put_by_rank (stub seat) (map stub seats)
put-stub seat [] = refl
put-stub seat (other ∷ seats) = stub-by (nat_le seat.rank other.rank) (put-stub seat seats)
  where
    stub-by : (t : Bool) → map stub (put_by_rank seat seats) ≡ put_by_rank (stub seat) (map stub seats) → map stub (cond t (seat ∷ other ∷ seats) (other ∷ put_by_rank seat seats)) ≡ cond t (stub seat ∷ stub other ∷ map stub seats) (stub other ∷ put_by_rank (stub seat) (map stub seats))
    stub-by true ih = refl
    stub-by false ih = ap (λ xs. stub other ∷ xs) ih

leaving-stub : (seats : List SeatView) → map stub (leaving_seats seats) ≡ leaving_seats (map stub seats)
leaving-stub [] = refl
leaving-stub (seat ∷ seats) = stub-by (is_open seat) (leaving-stub seats)
  where
    stub-by : (t : Bool) → map stub (leaving_seats seats) ≡ leaving_seats (map stub seats) → map stub (cond t (leaving_seats seats) (put_by_rank seat (leaving_seats seats))) ≡ cond t (leaving_seats (map stub seats)) (put_by_rank (stub seat) (leaving_seats (map stub seats)))
    stub-by true ih = ih
    stub-by false ih = put-stub seat (leaving_seats seats) ∙ ap (put_by_rank (stub seat)) ih

closes-stub : (seats : List SeatView) → flat_map close_of_seat (map stub seats) ≡ flat_map close_of_seat seats
closes-stub [] = refl
closes-stub (seat ∷ seats) = ap (λ cs. close_of_seat seat ++ cs) (closes-stub seats)

flat_closes-stub : (seats : List SeatView) → flat_closes (map stub seats) ≡ flat_closes seats
flat_closes-stub seats = ap (flat_map close_of_seat) (sym (leaving-stub seats)) ∙ closes-stub (leaving_seats seats)

open-stub : (seats : List SeatView) → open_of (map stub seats) ≡ open_of seats
open-stub [] = refl
open-stub (seat ∷ seats) = stub-by (is_open seat) (open-stub seats)
  where
    stub-by : (t : Bool) → open_of (map stub seats) ≡ open_of seats → cond t (seat_of seat ∷ open_of (map stub seats)) (open_of (map stub seats)) ≡ cond t (seat_of seat ∷ open_of seats) (open_of seats)
    stub-by true ih = ap (λ xs. seat_of seat ∷ xs) ih
    stub-by false ih = ih

why-stub : (k : ℕ) (seats : List SeatView) → leaving_on k (map stub seats) ≡ leaving_on k seats
why-stub k [] = refl
why-stub k (seat ∷ seats) = stub-by (eqb seat.link k) (why-stub k seats)
  where
    stub-by : (t : Bool) → leaving_on k (map stub seats) ≡ leaving_on k seats → leaving_in (cond t (Some (stub seat)) (at_key seat_link k (map stub seats))) ≡ leaving_in (cond t (Some seat) (at_key seat_link k seats))
    stub-by true ih = refl
    stub-by false ih = ih

-- an element in its place that looks the same
pub map-put : {X Y : Type 0} (f : X → Y) (key : X → ℕ) (k : ℕ) (s y : X) (xs : List X) → at_key key k xs ≡ Some s → f y ≡ f s → map f (put_at key k y xs) ≡ map f xs
map-put f key k s y [] h e = refl
map-put f key k s y (x ∷ xs) h e = put-by (eqb (key x) k) h (λ q. map-put f key k s y xs q e)
  where
    put-by : (t : Bool) → cond t (Some x) (at_key key k xs) ≡ Some s → (at_key key k xs ≡ Some s → map f (put_at key k y xs) ≡ map f xs) → map f (cond t (y ∷ xs) (x ∷ put_at key k y xs)) ≡ f x ∷ map f xs
    put-by true q ih = let same : x ≡ s = (let p : Some x ≡ Some s = q in cc) in ap (λ z. z ∷ map f xs) (e ∙ ap f (sym same))
    put-by false q ih = ap (λ zs. f x ∷ zs) (ih q)

-- ---- unsent bytes of a server are gone

gone-stub : (k count : ℕ) (seats : List SeatView) (o : Option SeatView) → at_key seat_link k seats ≡ o → map stub (gone_at k count seats o) ≡ map stub seats
gone-stub k count seats None h = refl
gone-stub k count seats (Some s) h = map-put stub seat_link k s _ seats h refl

pub seats-gone-links : (k count : ℕ) (seats : List SeatView) (o : Option SeatView) → at_key seat_link k seats ≡ o → links_of (gone_at k count seats o) ≡ links_of seats
seats-gone-links k count seats None h = refl
seats-gone-links k count seats (Some s) h = map-put seat_link seat_link k s _ seats h refl

pub seats-gone-closes : (k count : ℕ) (seats : List SeatView) (o : Option SeatView) → at_key seat_link k seats ≡ o → seat_closes (gone_at k count seats o) ≡ seat_closes seats
seats-gone-closes k count seats o h = closes-seats (gone_at k count seats o) ∙ sym (flat_closes-stub (gone_at k count seats o)) ∙ ap flat_closes (gone-stub k count seats o h) ∙ flat_closes-stub seats ∙ sym (closes-seats seats)

pub seats-gone-open : (k count : ℕ) (seats : List SeatView) (o : Option SeatView) → at_key seat_link k seats ≡ o → open_of (gone_at k count seats o) ≡ open_of seats
seats-gone-open k count seats o h = sym (open-stub (gone_at k count seats o)) ∙ ap open_of (gone-stub k count seats o h) ∙ open-stub seats

pub seats-gone-why : (k count j : ℕ) (seats : List SeatView) (o : Option SeatView) → at_key seat_link k seats ≡ o → leaving_on j (gone_at k count seats o) ≡ leaving_on j seats
seats-gone-why k count j seats o h = sym (why-stub j (gone_at k count seats o)) ∙ ap (leaving_on j) (gone-stub k count seats o h) ∙ why-stub j seats

-- ---- the first server that is leaving

abbrev pub head_of : List SeatView → Option SeatView
head_of [] = None
head_of (seat ∷ seats) = Some seat

put-head : (seat : SeatView) (seats : List SeatView) → before_or seat (head_of seats) ≡ head_of (put_by_rank seat seats)
put-head seat [] = refl
put-head seat (other ∷ seats) = head-by (nat_lt other.rank seat.rank) (nat_le seat.rank other.rank) refl refl
  where
    head-by : (t u : Bool) → nat_lt other.rank seat.rank ≡ t → nat_le seat.rank other.rank ≡ u → cond t (Some other) (Some seat) ≡ head_of (cond u (seat ∷ other ∷ seats) (other ∷ put_by_rank seat seats))
    head-by true true e f = absurd (let below : other.rank < seat.rank = grind (arith, nat_tests) in let above : seat.rank ≤ other.rank = grind (arith, nat_tests) in omega arith)
    head-by true false e f = refl
    head-by false true e f = refl
    head-by false false e f = absurd (let above : seat.rank ≤ other.rank = grind (arith, nat_tests) in let below : other.rank < seat.rank = grind (arith, nat_tests) in omega arith)

pub first-head : (seats : List SeatView) → first_leaving seats ≡ head_of (leaving_seats seats)
first-head [] = refl
first-head (seat ∷ seats) = head-by (is_open seat) (first-head seats)
  where
    head-by : (t : Bool) → first_leaving seats ≡ head_of (leaving_seats seats) → cond t (first_leaving seats) (before_or seat (first_leaving seats)) ≡ head_of (cond t (leaving_seats seats) (put_by_rank seat (leaving_seats seats)))
    head-by true ih = ih
    head-by false ih = ap (before_or seat) ih ∙ put-head seat (leaving_seats seats)

-- who stands first among those that are leaving
record IsFirst (s : SeatView) (ss : List SeatView) (seats : List SeatView) : Type 0 where
  shut : is_open s ≡ false
  there : is_some (at_key seat_link s.link seats) ≡ true
  left : AreApart (links_of seats) → leaving_seats (without seat_link s.link seats) ≡ ss
  found : AreApart (links_of seats) → at_key seat_link s.link seats ≡ Some s

-- a link that is among none of these
absent-seat : (k : ℕ) (seats : List SeatView) → NotAmong k (links_of seats) → at_key seat_link k seats ≡ None
absent-seat k [] absent = refl
absent-seat k (seat ∷ seats) absent = absent-by (eqb seat.link k) refl (absent-seat k seats absent.1)
  where
    absent-by : (t : Bool) → eqb seat.link k ≡ t → at_key seat_link k seats ≡ None → cond t (Some seat) (at_key seat_link k seats) ≡ None
    absent-by true e ih = absurd (absent.0 (grind (arith, nat_tests)))
    absent-by false e ih = ih

there-other : (k j : ℕ) (seats : List SeatView) → NotAmong k (links_of seats) → is_some (at_key seat_link j seats) ≡ true → k ≢ j
there-other k j seats absent there same = false≢true (sym (ap is_some (absent-seat j seats (subst (λ n. NotAmong n (links_of seats)) same absent))) ∙ there)

there-more : (k : ℕ) (seat : SeatView) (seats : List SeatView) → is_some (at_key seat_link k seats) ≡ true → is_some (at_key seat_link k (seat ∷ seats)) ≡ true
there-more k seat seats h = more-by (eqb seat.link k)
  where
    more-by : (t : Bool) → is_some (cond t (Some seat) (at_key seat_link k seats)) ≡ true
    more-by true = refl
    more-by false = h

-- another one is before it
first-later : (seat s : SeatView) (ss seats : List SeatView) → IsFirst s ss seats → (all : List SeatView) → (AreApart (links_of seats) → leaving_seats (seat ∷ without seat_link s.link seats) ≡ all) → IsFirst s all (seat ∷ seats)
first-later seat s ss seats first all left = record {
  shut = first.shut;
  there = there-more s.link seat seats first.there;
  left = λ apart. (let other = there-other seat.link s.link seats apart.0 first.there in let test : eqb seat.link s.link ≡ false = grind (arith, nat_tests) in rw test (left apart.1));
  found = λ apart. (let other = there-other seat.link s.link seats apart.0 first.there in let test : eqb seat.link s.link ≡ false = grind (arith, nat_tests) in rw test (first.found apart.1));
}

-- it is before all others
first-here : (seat : SeatView) (seats : List SeatView) → is_open seat ≡ false → IsFirst seat (leaving_seats seats) (seat ∷ seats)
first-here seat seats shut =
    let here : eqb seat.link seat.link ≡ true = grind (arith, nat_tests) in
    record {
      shut = shut;
      there = rw here refl;
      left = λ apart. rw here (ap leaving_seats (without-missing seat_link seat.link seats (absent-seat seat.link seats apart.0)));
      found = λ apart. rw here refl;
    }

first-of : (seats : List SeatView) (s : SeatView) (ss : List SeatView) → leaving_seats seats ≡ s ∷ ss → IsFirst s ss seats
first-of [] s ss e = absurd (let q : [] ≡ s ∷ ss = e in cc)
first-of (seat ∷ seats) s ss e = first-by (is_open seat) refl e (first-of seats)
  where
    rank-by : (o : SeatView) (os : List SeatView) → leaving_seats seats ≡ o ∷ os → is_open seat ≡ false → IsFirst o os seats → (t : Bool) → cond t (seat ∷ o ∷ os) (o ∷ put_by_rank seat os) ≡ s ∷ ss → IsFirst s ss (seat ∷ seats)
    rank-by o os f shut ih true r =
        let same : seat ≡ s = cc in
        let others : leaving_seats seats ≡ ss = (let p : o ∷ os ≡ ss = cc in f ∙ p) in
        subst (λ z. IsFirst z ss (seat ∷ seats)) same (subst (λ zs. IsFirst seat zs (seat ∷ seats)) others (first-here seat seats shut))
    rank-by o os f shut ih false r =
        let same : o ≡ s = cc in
        let others : put_by_rank seat os ≡ ss = cc in
        subst (λ z. IsFirst z ss (seat ∷ seats)) same
        (first-later seat o os seats ih ss (λ apart. rw shut (ap (put_by_rank seat) (ih.left apart) ∙ others)))

    put-by : (os : List SeatView) → leaving_seats seats ≡ os → is_open seat ≡ false → put_by_rank seat os ≡ s ∷ ss → ((s' : SeatView) (ss' : List SeatView) → leaving_seats seats ≡ s' ∷ ss' → IsFirst s' ss' seats) → IsFirst s ss (seat ∷ seats)
    put-by [] f shut q ih =
        let p : seat ∷ [] ≡ s ∷ ss = q in
        let same : seat ≡ s = cc in
        let r : [] ≡ ss = cc in
        let none : leaving_seats seats ≡ ss = f ∙ r in
        subst (λ z. IsFirst z ss (seat ∷ seats)) same (subst (λ zs. IsFirst seat zs (seat ∷ seats)) none (first-here seat seats shut))
    put-by (o ∷ os) f shut q ih = rank-by o os f shut (ih o os f) (nat_le seat.rank o.rank) q

    first-by : (t : Bool) → is_open seat ≡ t → cond t (leaving_seats seats) (put_by_rank seat (leaving_seats seats)) ≡ s ∷ ss → ((s' : SeatView) (ss' : List SeatView) → leaving_seats seats ≡ s' ∷ ss' → IsFirst s' ss' seats) → IsFirst s ss (seat ∷ seats)
    first-by true f q ih = let first = ih s ss q in first-later seat s ss seats first ss (λ apart. rw f (first.left apart))
    first-by false f q ih = put-by (leaving_seats seats) refl f q ih

-- the server that began to leave first
pub record LeavesFirst (s : SeatView) (seats : List SeatView) : Type 0 where
  pub shut : is_open s ≡ false
  pub there : is_some (at_key seat_link s.link seats) ≡ true
  pub others : List Closed
  pub front : seat_closes seats ≡ close_of_seat s ++ others
  pub closes : AreApart (links_of seats) → seat_closes seats ≡ close_of_seat s ++ seat_closes (without seat_link s.link seats)
  pub found : AreApart (links_of seats) → at_key seat_link s.link seats ≡ Some s

pub leaves-first : (seats : List SeatView) (s : SeatView) → first_leaving seats ≡ Some s → LeavesFirst s seats
leaves-first seats s e = first-by (leaving_seats seats) refl (sym (first-head seats) ∙ e)
  where
    first-by : (ls : List SeatView) → leaving_seats seats ≡ ls → head_of ls ≡ Some s → LeavesFirst s seats
    first-by [] f q = absurd (let p : None ≡ Some s = q in cc)
    first-by (o ∷ os) f q =
        let same : o ≡ s = (let p : Some o ≡ Some s = q in cc) in
        let first = first-of seats o os f in
        subst (λ z. LeavesFirst z seats) same (record {
          shut = first.shut;
          there = first.there;
          others = flat_map close_of_seat os;
          front = closes-seats seats ∙ ap (flat_map close_of_seat) f;
          closes = λ apart. closes-seats seats ∙ ap (flat_map close_of_seat) f ∙ ap (λ ls. close_of_seat o ++ flat_map close_of_seat ls) (sym (first.left apart)) ∙ ap (λ cs. close_of_seat o ++ cs) (sym (closes-seats (without seat_link o.link seats)));
          found = first.found;
        })

-- where none is first, none is leaving
pub none-leaves : (seats : List SeatView) → first_leaving seats ≡ None → seat_closes seats ≡ []
none-leaves seats e = none-by (leaving_seats seats) refl (sym (first-head seats) ∙ e)
  where
    none-by : (ls : List SeatView) → leaving_seats seats ≡ ls → head_of ls ≡ None → seat_closes seats ≡ []
    none-by [] f q = closes-seats seats ∙ ap (flat_map close_of_seat) f
    none-by (o ∷ os) f q = absurd (let p : Some o ≡ None = q in cc)

-- ---- a server is forgotten

-- one that is leaving is none of those that are open
pub open-forget : (k : ℕ) (seats : List SeatView) → AreApart (links_of seats) → is_open_at (at_key seat_link k seats) ≡ false → open_of (without seat_link k seats) ≡ open_of seats
open-forget k [] apart h = refl
open-forget k (seat ∷ seats) apart h = forget-by (eqb seat.link k) refl h (open-forget k seats apart.1)
  where
    keep-by : (u : Bool) → open_of (without seat_link k seats) ≡ open_of seats → cond u (seat_of seat ∷ open_of (without seat_link k seats)) (open_of (without seat_link k seats)) ≡ cond u (seat_of seat ∷ open_of seats) (open_of seats)
    keep-by true ih = ap (λ xs. seat_of seat ∷ xs) ih
    keep-by false ih = ih

    forget-by : (t : Bool) → eqb seat.link k ≡ t → is_open_at (cond t (Some seat) (at_key seat_link k seats)) ≡ false → (is_open_at (at_key seat_link k seats) ≡ false → open_of (without seat_link k seats) ≡ open_of seats) → open_of (without seat_link k (seat ∷ seats)) ≡ open_of (seat ∷ seats)
    forget-by true e q ih =
        let same : seat.link ≡ k = grind (arith, nat_tests) in
        rw (e, q) (ap open_of (without-missing seat_link k seats (absent-seat k seats (subst (λ n. NotAmong n (links_of seats)) same apart.0))))
    forget-by false e q ih = rw e (keep-by (is_open seat) (ih q))

pub fewer-open : (k : ℕ) (seats : List SeatView) → length (open_of (without seat_link k seats)) ≤ length (open_of seats)
fewer-open k [] = omega arith
fewer-open k (seat ∷ seats) = fewer-by (eqb seat.link k) refl (is_open seat) refl (fewer-open k seats)
  where
    fewer-by : (t : Bool) → eqb seat.link k ≡ t → (u : Bool) → is_open seat ≡ u → length (open_of (without seat_link k seats)) ≤ length (open_of seats) → length (open_of (without seat_link k (seat ∷ seats))) ≤ length (open_of (seat ∷ seats))
    fewer-by true e true f ih = rw (e, f) (omega arith)
    fewer-by true e false f ih = rw (e, f) ih
    fewer-by false e true f ih = rw (e, f) (omega arith)
    fewer-by false e false f ih = rw (e, f) ih

pub ranked-without : (k left : ℕ) (seats : List SeatView) → AreRanked left seats → AreRanked left (without seat_link k seats)
ranked-without k left [] h = tt
ranked-without k left (seat ∷ seats) h = ranked-by (eqb seat.link k) refl (ranked-without k left seats h.1)
  where
    ranked-by : (t : Bool) → eqb seat.link k ≡ t → AreRanked left (without seat_link k seats) → AreRanked left (without seat_link k (seat ∷ seats))
    ranked-by true e ih = rw e ih
    ranked-by false e ih = rw e (h.0, ih)

ranked-stub : (left : ℕ) (seats : List SeatView) → AreRanked left seats → AreRanked left (map stub seats)
ranked-stub left [] h = tt
ranked-stub left (seat ∷ seats) h = (h.0, ranked-stub left seats h.1)

stub-ranked : (left : ℕ) (seats : List SeatView) → AreRanked left (map stub seats) → AreRanked left seats
stub-ranked left [] h = tt
stub-ranked left (seat ∷ seats) h = (h.0, stub-ranked left seats h.1)

pub ranked-gone : (k count left : ℕ) (seats : List SeatView) (o : Option SeatView) → at_key seat_link k seats ≡ o → AreRanked left seats → AreRanked left (gone_at k count seats o)
ranked-gone k count left seats o e h = stub-ranked left (gone_at k count seats o) (subst (AreRanked left) (sym (gone-stub k count seats o e)) (ranked-stub left seats h))

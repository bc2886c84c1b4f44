-- How what is kept of servers follows what goes out.
use Rattle.std.proofs.Common.{◌≡◌, ◌≢◌, ℕ, ◌+◌, Bool, true, false, cond, eqb, List, [], ◌∷◌, ◌++◌, Option, Some, None, IsSome, is_some, is_none, refl, ap, sym, subst, ◌∙◌, arith, append-nil, append_assoc, not}
use Rattle.std.proofs.lemmas.Bool.{false≢true}
use Rattle.std.proofs.lemmas.Bool.Decides.{nat_tests}
use Rattle.wc_text.specs.declared.names.Cause.{Cause}
use Rattle.wc_outside.specs.Keyed.{at_key, put_at, without}
use Rattle.wc_outside.proofs.KeyedLemmas.{at_key-key, at_key-put_other, at_key-put_same, at_key-push_other}
use Rattle.wc_irc.specs.Servers.{ServerState}
use Rattle.wc_servers.specs.Outs.{Out, SendsLine, Connects, Parts, lines_by, lines_to, or_else, part_by, part_of, wanted_by, wanted_in, ServersFollow, ServersKeep}
use Rattle.wc_servers.specs.Seats.{SeatView, ServersView, ServerSeat, server_link, seat_link, is_open, seat_of, open_of, open_in, open_if, unsent_in, unsent_on, leaving_in, leaving_on, NotAmong, AreApart, links_of, told, known, left_for, new_seat, wanted_of, begun, used_up, ended}

-- ---- one after another

pub lines_to-append : (j : ℕ) (a b : List Out) → lines_to j (a ++ b) ≡ lines_to j a ++ lines_to j b
lines_to-append j [] b = refl
lines_to-append j (x ∷ a) b = ap (λ t. lines_by j x ++ t) (lines_to-append j a b) ∙ sym (append_assoc (lines_by j x) (lines_to j a) (lines_to j b))

or_else-assoc : (a b c : Option Cause) → or_else (or_else a b) c ≡ or_else a (or_else b c)
or_else-assoc None b c = refl
or_else-assoc (Some x) b c = refl

pub or_else-none : (a : Option Cause) → or_else a None ≡ a
or_else-none None = refl
or_else-none (Some x) = refl

pub part_of-append : (j : ℕ) (a b : List Out) → part_of j (a ++ b) ≡ or_else (part_of j a) (part_of j b)
part_of-append j [] b = refl
part_of-append j (x ∷ a) b = ap (or_else (part_by j x)) (part_of-append j a b) ∙ sym (or_else-assoc (part_by j x) (part_of j a) (part_of j b))

pub wanted_in-append : (a b : List Out) → wanted_in (a ++ b) ≡ wanted_in a ++ wanted_in b
wanted_in-append [] b = refl
wanted_in-append (x ∷ a) b = ap (λ t. wanted_by x ++ t) (wanted_in-append a b) ∙ sym (append_assoc (wanted_by x) (wanted_in a) (wanted_in b))

pub ServersFollow-refl : (a : ServersView) → ServersFollow a a []
ServersFollow-refl a = record { lines = λ j. sym (append-nil _); leaving = λ j. sym (or_else-none _); wanted = sym (append-nil _) }

pub ServersFollow-trans : (a b c : ServersView) (xs ys : List Out) → ServersFollow a b xs → ServersFollow b c ys → ServersFollow a c (xs ++ ys)
ServersFollow-trans a b c xs ys f g = record {
  lines = λ j. g.lines j ∙ ap (λ t. t ++ lines_to j ys) (f.lines j) ∙ append_assoc (unsent_on j a.seats) (lines_to j xs) (lines_to j ys) ∙ ap (λ t. unsent_on j a.seats ++ t) (sym (lines_to-append j xs ys));
  leaving = λ j. g.leaving j ∙ ap (λ o. or_else o (part_of j ys)) (f.leaving j) ∙ or_else-assoc (leaving_on j a.seats) (part_of j xs) (part_of j ys) ∙ ap (or_else (leaving_on j a.seats)) (sym (part_of-append j xs ys));
  wanted = g.wanted ∙ ap (λ t. t ++ wanted_in ys) f.wanted ∙ append_assoc a.wanted (wanted_in xs) (wanted_in ys) ∙ ap (λ t. a.wanted ++ t) (sym (wanted_in-append xs ys));
}

pub ServersKeep-refl : (a : ServersView) → ServersKeep a a
ServersKeep-refl a = record { rises = omega arith; links = λ j e. refl; kept = λ j s. refl; more = []; wanted = sym (append-nil _) }

pub ServersKeep-trans : (a b c : ServersView) → ServersKeep a b → ServersKeep b c → ServersKeep a c
ServersKeep-trans a b c f g = record {
  rises = (let p = f.rises in let q = g.rises in omega (arith, p, q));
  links = λ j e. (let p = f.rises in g.links j (omega (arith, p, e)) ∙ f.links j e);
  kept = λ j s.
      let same = f.kept j s in
      let P : Option SeatView → Type 0 = λ o. IsSome (leaving_in o) in
      g.kept j (subst P (sym same) s) ∙ same;
  more = f.more ++ g.more;
  wanted = g.wanted ∙ ap (λ t. t ++ g.more) f.wanted ∙ append_assoc a.wanted f.more g.more;
}

-- ---- one server is another one

pub same_number : (k j : ℕ) → eqb k j ≡ true → k ≡ j
same_number k j e = grind (arith, nat_tests)

other_number : (k j : ℕ) → eqb k j ≡ false → j ≢ k
other_number k j e q = grind (arith, nat_tests)

-- what is seen of the link itself, and of others
put_here : (k j : ℕ) (s y : SeatView) (seats : List SeatView) → at_key seat_link k seats ≡ Some s → seat_link y ≡ k → eqb k j ≡ true → (at_key seat_link j (put_at seat_link k y seats) ≡ Some y) × (at_key seat_link j seats ≡ Some s)
put_here k j s y seats at key e =
    let here = same_number k j e in (
      subst (λ n. at_key seat_link n (put_at seat_link k y seats) ≡ Some y) here (at_key-put_same seat_link k s y seats key at),
      subst (λ n. at_key seat_link n seats ≡ Some s) here at,
    )

put_there : (k j : ℕ) (y : SeatView) (seats : List SeatView) → seat_link y ≡ k → eqb k j ≡ false → at_key seat_link j (put_at seat_link k y seats) ≡ at_key seat_link j seats
put_there k j y seats key e = at_key-put_other seat_link k j y seats key (other_number k j e)

none_of : (leaving : Option Cause) → is_none leaving ≡ true → leaving ≡ None
none_of None sits = refl
none_of (Some why) sits = absurd (false≢true sits)

stays_by : (leaving : Option Cause) → is_none leaving ≡ true → IsSome leaving → ⊥
stays_by None sits some = absurd (cc)
stays_by (Some why) sits some = false≢true sits

-- an open server is another one with the same link
pub ServersKeep-put : (old new : ServersView) (k : ℕ) (s y : SeatView) → at_key seat_link k old.seats ≡ Some s → is_open s ≡ true → seat_link y ≡ k → new.seats ≡ put_at seat_link k y old.seats → new.used ≡ old.used → new.wanted ≡ old.wanted → ServersKeep old new
ServersKeep-put old new k s y at sits key seats used wanted = record {
  rises = omega (arith, used);
  links = λ j e. ap (λ l. is_some (at_key seat_link j l)) seats ∙ links_by j (eqb k j) refl;
  kept = λ j some. ap (at_key seat_link j) seats ∙ kept_by j (eqb k j) refl some;
  more = [];
  wanted = wanted ∙ sym (append-nil _);
} where
  links_by : (j : ℕ) (t : Bool) → eqb k j ≡ t → is_some (at_key seat_link j (put_at seat_link k y old.seats)) ≡ is_some (at_key seat_link j old.seats)
  links_by j true e = let seen = put_here k j s y old.seats at key e in ap is_some seen.0 ∙ sym (ap is_some seen.1)
  links_by j false e = ap is_some (put_there k j y old.seats key e)

  kept_by : (j : ℕ) (t : Bool) → eqb k j ≡ t → IsSome (leaving_on j old.seats) → at_key seat_link j (put_at seat_link k y old.seats) ≡ at_key seat_link j old.seats
  kept_by j true e some =
      let P : Option SeatView → Type 0 = λ o. IsSome (leaving_in o) in
      absurd (stays_by s.leaving sits (subst P (put_here k j s y old.seats at key e).1 some))
  kept_by j false e some = put_there k j y old.seats key e

abbrev no_bytes : List ℕ
no_bytes = []

-- a server with more to be sent, and with a cause to leave for, where it was open
follows_put : (old new : ServersView) (k : ℕ) (s y : SeatView) (bytes : List ℕ) (why : Option Cause) (outs : List Out) → at_key seat_link k old.seats ≡ Some s → is_open s ≡ true → seat_link y ≡ k → new.seats ≡ put_at seat_link k y old.seats → new.wanted ≡ old.wanted
    → y.unsent ≡ s.unsent ++ bytes → y.leaving ≡ why
    → ((j : ℕ) → lines_to j outs ≡ cond (eqb k j) bytes no_bytes) → ((j : ℕ) → part_of j outs ≡ cond (eqb k j) why None) → wanted_in outs ≡ [] → ServersFollow old new outs
follows_put old new k s y bytes why outs at sits key seats wanted unsent leaving lines parts none = record {
  lines = λ j. ap (unsent_on j) seats ∙ lines_at j (eqb k j) refl ∙ ap (λ t. unsent_on j old.seats ++ t) (sym (lines j));
  leaving = λ j. ap (leaving_on j) seats ∙ leaving_at j (eqb k j) refl ∙ ap (or_else (leaving_on j old.seats)) (sym (parts j));
  wanted = wanted ∙ sym (append-nil _) ∙ ap (λ t. old.wanted ++ t) (sym none);
} where
  lines_at : (j : ℕ) (t : Bool) → eqb k j ≡ t → unsent_on j (put_at seat_link k y old.seats) ≡ unsent_on j old.seats ++ cond t bytes no_bytes
  lines_at j true e = let seen = put_here k j s y old.seats at key e in ap unsent_in seen.0 ∙ unsent ∙ ap (λ t. t ++ bytes) (sym (ap unsent_in seen.1))
  lines_at j false e = ap unsent_in (put_there k j y old.seats key e) ∙ sym (append-nil _)

  leaving_at : (j : ℕ) (t : Bool) → eqb k j ≡ t → leaving_on j (put_at seat_link k y old.seats) ≡ or_else (leaving_on j old.seats) (cond t why None)
  leaving_at j true e =
      let seen = put_here k j s y old.seats at key e in
      ap leaving_in seen.0 ∙ leaving ∙ sym (ap (λ o. or_else o why) (ap leaving_in seen.1 ∙ none_of s.leaving sits))
  leaving_at j false e = ap leaving_in (put_there k j y old.seats key e) ∙ sym (or_else-none _)

either_none : (t : Bool) → no_bytes ≡ cond t no_bytes no_bytes
either_none true = refl
either_none false = refl

abbrev no_cause : Option Cause
no_cause = None

either_no_cause : (t : Bool) → no_cause ≡ cond t no_cause no_cause
either_no_cause true = refl
either_no_cause false = refl

-- a line is to be sent
pub told-follows : (old : ServersView) (k : ℕ) (s : SeatView) (line : List ℕ) → at_key seat_link k old.seats ≡ Some s → is_open s ≡ true → ServersFollow old (record old { seats = put_at seat_link k (told line s) old.seats }) (SendsLine k (ended line) ∷ [])
told-follows old k s line at sits =
    follows_put old (record old { seats = put_at seat_link k (told line s) old.seats }) k s (told line s) (ended line) None (SendsLine k (ended line) ∷ []) at sits (at_key-key seat_link k old.seats s at) refl refl refl (none_of s.leaving sits) (λ j. append-nil _) (λ j. either_no_cause (eqb k j)) refl

-- another state
pub known-follows : (old : ServersView) (k : ℕ) (s : SeatView) (server : ServerState) → at_key seat_link k old.seats ≡ Some s → is_open s ≡ true → ServersFollow old (record old { seats = put_at seat_link k (known server s) old.seats }) []
known-follows old k s server at sits =
    follows_put old (record old { seats = put_at seat_link k (known server s) old.seats }) k s (known server s) [] None [] at sits (at_key-key seat_link k old.seats s at) refl refl (sym (append-nil _)) (none_of s.leaving sits) (λ j. either_none (eqb k j)) (λ j. either_no_cause (eqb k j)) refl

part_once : (t : Bool) (why : Cause) → or_else (cond t (Some why) None) None ≡ cond t (Some why) None
part_once true why = refl
part_once false why = refl

-- it begins to leave, whatever its state is then
pub left-follows : (old : ServersView) (k : ℕ) (s : SeatView) (server : ServerState) (why : Cause) (rank left : ℕ) → at_key seat_link k old.seats ≡ Some s → is_open s ≡ true
    → ServersFollow old (record old { seats = put_at seat_link k (left_for why rank (known server s)) old.seats; left = left }) (Parts k why ∷ [])
left-follows old k s server why rank left at sits =
    let y : SeatView = left_for why rank (known server s) in
    follows_put old (record old { seats = put_at seat_link k y old.seats; left = left }) k s y [] (Some why) (Parts k why ∷ []) at sits (at_key-key seat_link k old.seats s at) refl refl (sym (append-nil _)) refl (λ j. either_none (eqb k j)) (λ j. part_once (eqb k j) why) refl

-- ---- a connection is begun

absent_at : (k : ℕ) (seats : List SeatView) → NotAmong k (links_of seats) → at_key seat_link k seats ≡ None
absent_at k [] a = refl
absent_at k (x ∷ seats) a = by (eqb (seat_link x) k) refl (absent_at k seats a.1) where
  by : (t : Bool) → eqb (seat_link x) k ≡ t → at_key seat_link k seats ≡ None → cond t (Some x) (at_key seat_link k seats) ≡ None
  by true e more = absurd (a.0 (same_number (seat_link x) k e))
  by false e more = more

at_push_same : (k : ℕ) (y : SeatView) (seats : List SeatView) → seat_link y ≡ k → at_key seat_link k seats ≡ None → at_key seat_link k (seats ++ y ∷ []) ≡ Some y
at_push_same k y [] key none = grind (arith, nat_tests)
at_push_same k y (x ∷ seats) key none = by (eqb (seat_link x) k) (λ e. at_push_same k y seats key e) none where
  by : (t : Bool) → (at_key seat_link k seats ≡ None → at_key seat_link k (seats ++ y ∷ []) ≡ Some y) → cond t (Some x) (at_key seat_link k seats) ≡ None → cond t (Some x) (at_key seat_link k (seats ++ y ∷ [])) ≡ Some y
  by true more e = absurd (cc)
  by false more e = more e

push_kept : (j : ℕ) (y : SeatView) (seats : List SeatView) → IsSome (leaving_on j seats) → at_key seat_link j (seats ++ y ∷ []) ≡ at_key seat_link j seats
push_kept j y [] some = absurd (cc)
push_kept j y (x ∷ seats) some = by (eqb (seat_link x) j) (λ some. push_kept j y seats some) some where
  by : (t : Bool) → (IsSome (leaving_on j seats) → at_key seat_link j (seats ++ y ∷ []) ≡ at_key seat_link j seats)
      → IsSome (leaving_in (cond t (Some x) (at_key seat_link j seats))) → cond t (Some x) (at_key seat_link j (seats ++ y ∷ [])) ≡ cond t (Some x) (at_key seat_link j seats)
  by true more some = refl
  by false more some = more some

pub begun-keeps : (old : ServersView) (server : ServerState) → ServersKeep old (begun server old)
begun-keeps old server = record {
  rises = omega arith;
  links = λ j e. ap is_some (at_key-push_other seat_link j (new_seat (old.used + 1) server) old.seats (λ q. absurd (omega (arith, e, q))));
  kept = λ j some. push_kept j (new_seat (old.used + 1) server) old.seats some;
  more = wanted_of (old.used + 1) server ∷ [];
  wanted = refl;
}

pub begun-follows : (old : ServersView) (server : ServerState) → NotAmong (old.used + 1) (links_of old.seats) → ServersFollow old (begun server old) (Connects (old.used + 1) server.address server.name ∷ [])
begun-follows old server absent = record {
  lines = λ j. lines_at j (eqb (old.used + 1) j) refl;
  leaving = λ j. leaving_at j (eqb (old.used + 1) j) refl;
  wanted = refl;
} where
  k : ℕ
  k = old.used + 1

  y : SeatView
  y = new_seat k server

  none : at_key seat_link k old.seats ≡ None
  none = absent_at k old.seats absent

  here : (j : ℕ) → eqb k j ≡ true → (at_key seat_link j (old.seats ++ y ∷ []) ≡ Some y) × (at_key seat_link j old.seats ≡ None)
  here j e =
      let same = same_number k j e in (
        subst (λ n. at_key seat_link n (old.seats ++ y ∷ []) ≡ Some y) same (at_push_same k y old.seats refl none),
        subst (λ n. at_key seat_link n old.seats ≡ None) same none,
      )

  there : (j : ℕ) → eqb k j ≡ false → at_key seat_link j (old.seats ++ y ∷ []) ≡ at_key seat_link j old.seats
  there j e = at_key-push_other seat_link j y old.seats (λ q. other_number k j e (sym q))

  lines_at : (j : ℕ) (t : Bool) → eqb k j ≡ t → unsent_on j (old.seats ++ y ∷ []) ≡ unsent_on j old.seats ++ []
  lines_at j true e = let seen = here j e in ap unsent_in seen.0 ∙ sym (ap (λ o. unsent_in o ++ no_bytes) seen.1)
  lines_at j false e = ap unsent_in (there j e) ∙ sym (append-nil _)

  leaving_at : (j : ℕ) (t : Bool) → eqb k j ≡ t → leaving_on j (old.seats ++ y ∷ []) ≡ or_else (leaving_on j old.seats) None
  leaving_at j true e = let seen = here j e in ap leaving_in seen.0 ∙ sym (ap (λ o. or_else (leaving_in o) None) seen.1)
  leaving_at j false e = ap leaving_in (there j e) ∙ sym (or_else-none _)

-- ---- numbers that are used

pub used-keeps : (old : ServersView) (link : ℕ) → ServersKeep old (used_up link old)
used-keeps old link = record { rises = omega arith; links = λ j e. refl; kept = λ j s. refl; more = []; wanted = sym (append-nil _) }

-- ---- servers that are open, after that

cond_open : (seat : SeatView) (b : Bool) → is_open seat ≡ b → (rest : List ServerSeat) → cond (is_open seat) (seat_of seat ∷ rest) rest ≡ cond b (seat_of seat ∷ rest) rest
cond_open seat b e rest = ap (λ t. cond t (seat_of seat ∷ rest) rest) e

pub open-push : (seats : List SeatView) (k : ℕ) (server : ServerState) → open_of (seats ++ new_seat k server ∷ []) ≡ open_of seats ++ record { link = k; server = server } ∷ []
open-push [] k server = refl
open-push (x ∷ seats) k server = by (is_open x) (open-push seats k server) where
  by : (b : Bool) → open_of (seats ++ new_seat k server ∷ []) ≡ open_of seats ++ record { link = k; server = server } ∷ []
      → cond b (seat_of x ∷ open_of (seats ++ new_seat k server ∷ [])) (open_of (seats ++ new_seat k server ∷ [])) ≡ cond b (seat_of x ∷ open_of seats) (open_of seats) ++ record { link = k; server = server } ∷ []
  by true more = ap (λ l. seat_of x ∷ l) more
  by false more = more

some_same : (x y : SeatView) → Some x ≡ Some y → x ≡ y
some_same x y e = cc

-- the open server of a link
absent_open : (k : ℕ) (seats : List SeatView) → NotAmong k (links_of seats) → at_key server_link k (open_of seats) ≡ None
absent_open k [] a = refl
absent_open k (x ∷ seats) a = by (is_open x) (eqb (seat_link x) k) refl (absent_open k seats a.1) where
  by : (b t : Bool) → eqb (seat_link x) k ≡ t → at_key server_link k (open_of seats) ≡ None → at_key server_link k (cond b (seat_of x ∷ open_of seats) (open_of seats)) ≡ None
  by true true e more = absurd (a.0 (same_number (seat_link x) k e))
  by true false e more = ap (λ t. cond t (Some (seat_of x)) (at_key server_link k (open_of seats))) e ∙ more
  by false t e more = more

pub open-at : (k : ℕ) (seats : List SeatView) → AreApart (links_of seats) → at_key server_link k (open_of seats) ≡ open_in (at_key seat_link k seats)
open-at k [] apart = refl
open-at k (x ∷ seats) apart = by (open-at k seats apart.1) (is_open x) refl (eqb (seat_link x) k) refl where
  by : at_key server_link k (open_of seats) ≡ open_in (at_key seat_link k seats) → (b : Bool) → is_open x ≡ b → (t : Bool) → eqb (seat_link x) k ≡ t → at_key server_link k (cond b (seat_of x ∷ open_of seats) (open_of seats)) ≡ open_in (cond t (Some x) (at_key seat_link k seats))
  by more true o true e = ap (λ t. cond t (Some (seat_of x)) (at_key server_link k (open_of seats))) e ∙ sym (ap (λ b. open_if b x) o)
  by more true o false e = ap (λ t. cond t (Some (seat_of x)) (at_key server_link k (open_of seats))) e ∙ more
  by more false o true e = absent_open k seats (subst (λ n. NotAmong n (links_of seats)) (same_number (seat_link x) k e) apart.0) ∙ sym (ap (λ b. open_if b x) o)
  by more false o false e = more

-- another state of an open one
pub open-put : (k : ℕ) (s y : SeatView) (seats : List SeatView) → at_key seat_link k seats ≡ Some s → is_open s ≡ true → is_open y ≡ true → open_of (put_at seat_link k y seats) ≡ put_at server_link k (seat_of y) (open_of seats)
open-put k s y [] at sits stays = refl
open-put k s y (x ∷ seats) at sits stays = by (λ a. open-put k s y seats a sits stays) (eqb (seat_link x) k) refl at where
  under : (at_key seat_link k seats ≡ Some s → open_of (put_at seat_link k y seats) ≡ put_at server_link k (seat_of y) (open_of seats)) → (b : Bool) → eqb (seat_link x) k ≡ false → at_key seat_link k seats ≡ Some s → cond b (seat_of x ∷ open_of (put_at seat_link k y seats)) (open_of (put_at seat_link k y seats)) ≡ put_at server_link k (seat_of y) (cond b (seat_of x ∷ open_of seats) (open_of seats))
  under others true e a = ap (λ l. seat_of x ∷ l) (others a) ∙ sym (ap (λ t. cond t (seat_of y ∷ open_of seats) (seat_of x ∷ put_at server_link k (seat_of y) (open_of seats))) e)
  under others false e a = others a

  by : (at_key seat_link k seats ≡ Some s → open_of (put_at seat_link k y seats) ≡ put_at server_link k (seat_of y) (open_of seats)) → (t : Bool) → eqb (seat_link x) k ≡ t → cond t (Some x) (at_key seat_link k seats) ≡ Some s → open_of (cond t (y ∷ seats) (x ∷ put_at seat_link k y seats)) ≡ put_at server_link k (seat_of y) (open_of (x ∷ seats))
  by others true e a =
      let here : is_open x ≡ true = ap is_open (some_same x s a) ∙ sits in
      cond_open y true stays (open_of seats) ∙ sym (ap (put_at server_link k (seat_of y)) (cond_open x true here (open_of seats)) ∙ ap (λ t. cond t (seat_of y ∷ open_of seats) (seat_of x ∷ put_at server_link k (seat_of y) (open_of seats))) e)
  by others false e a = under others (is_open x) e a

absent_without : (k : ℕ) (seats : List SeatView) → NotAmong k (links_of seats) → without server_link k (open_of seats) ≡ open_of seats
absent_without k [] a = refl
absent_without k (x ∷ seats) a = by (is_open x) (eqb (seat_link x) k) refl (absent_without k seats a.1) where
  by : (b t : Bool) → eqb (seat_link x) k ≡ t → without server_link k (open_of seats) ≡ open_of seats → without server_link k (cond b (seat_of x ∷ open_of seats) (open_of seats)) ≡ cond b (seat_of x ∷ open_of seats) (open_of seats)
  by true true e more = absurd (a.0 (same_number (seat_link x) k e))
  by true false e more = ap (λ t. cond (not t) (seat_of x ∷ without server_link k (open_of seats)) (without server_link k (open_of seats))) e ∙ ap (λ l. seat_of x ∷ l) more
  by false t e more = more

-- one that begins to leave
pub open-left : (k : ℕ) (s y : SeatView) (seats : List SeatView) → AreApart (links_of seats) → at_key seat_link k seats ≡ Some s → is_open s ≡ true → is_open y ≡ false → seat_link y ≡ k → open_of (put_at seat_link k y seats) ≡ without server_link k (open_of seats)
open-left k s y [] apart at sits leaves key = refl
open-left k s y (x ∷ seats) apart at sits leaves key = by (λ a. open-left k s y seats apart.1 a sits leaves key) (eqb (seat_link x) k) refl at where
  under : (at_key seat_link k seats ≡ Some s → open_of (put_at seat_link k y seats) ≡ without server_link k (open_of seats)) → (b : Bool) → eqb (seat_link x) k ≡ false → at_key seat_link k seats ≡ Some s → cond b (seat_of x ∷ open_of (put_at seat_link k y seats)) (open_of (put_at seat_link k y seats)) ≡ without server_link k (cond b (seat_of x ∷ open_of seats) (open_of seats))
  under others true e a = ap (λ l. seat_of x ∷ l) (others a) ∙ sym (ap (λ t. cond (not t) (seat_of x ∷ without server_link k (open_of seats)) (without server_link k (open_of seats))) e)
  under others false e a = others a

  by : (at_key seat_link k seats ≡ Some s → open_of (put_at seat_link k y seats) ≡ without server_link k (open_of seats)) → (t : Bool) → eqb (seat_link x) k ≡ t → cond t (Some x) (at_key seat_link k seats) ≡ Some s → open_of (cond t (y ∷ seats) (x ∷ put_at seat_link k y seats)) ≡ without server_link k (open_of (x ∷ seats))
  by others true e a =
      let here : is_open x ≡ true = ap is_open (some_same x s a) ∙ sits in
      let gone : NotAmong k (links_of seats) = subst (λ n. NotAmong n (links_of seats)) (same_number (seat_link x) k e) apart.0 in
      cond_open y false leaves (open_of seats) ∙ sym (ap (without server_link k) (cond_open x true here (open_of seats)) ∙ ap (λ t. cond (not t) (seat_of x ∷ without server_link k (open_of seats)) (without server_link k (open_of seats))) e ∙ absent_without k seats gone)
  by others false e a = under others (is_open x) e a

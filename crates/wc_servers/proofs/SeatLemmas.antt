-- The numbers of links, and the servers that are open.
use Rattle.std.proofs.Common.{◌≡◌, ℕ, ◌+◌, ◌<◌, ◌≤◌, Bool, true, false, cond, eqb, List, [], ◌∷◌, ◌++◌, Option, Some, refl, ap, sym, subst, ◌∙◌, ◌&&◌, arith, not}
use Rattle.std.specs.Prelude.{find, bytes_eq, option_map, slice_set, is_none, IfOk, OnOk, OnErr, Result, Ok, Err}
use Rattle.std.proofs.lemmas.Bool.Decides.{nat_tests}
use Rattle.std.specs.List.{slice_index_or}
use Rattle.wc_text.specs.declared.names.Cause.{Cause}
use Rattle.wc_outside.specs.Keyed.{at_key, put_at, without, IsKeyPlace}
use Rattle.wc_outside.proofs.KeyedLemmas.{at_key-key, at_key-put_same}
use Rattle.wc_buffers.specs.Calls.{EntryGroups}
use Rattle.wc_irc.specs.declared.act.Act.{Act}
use Rattle.wc_irc.specs.LinkActs.{loss_acts, after_loss}
use Rattle.wc_servers.specs.Lost.{Loses, LosesIf, Lost}
use Rattle.wc_servers.specs.Seats.{SeatView, ServersView, seat_link, is_open, is_open_at, seat_of, open_of, has_name, server_named, NotAmong, AreApart, AreUsed, links_of, AreSeats, known, left_for}

-- ---- numbers

pub put_links : (k : ℕ) (y : SeatView) (seats : List SeatView) → seat_link y ≡ k → links_of (put_at seat_link k y seats) ≡ links_of seats
put_links k y [] e = refl
put_links k y (x ∷ seats) e = grind (arith, nat_tests, put_links k y seats e)

pub used_more : (m n : ℕ) (ns : List ℕ) → m ≤ n → AreUsed m ns → AreUsed n ns
used_more m n [] e u = tt
used_more m n (k ∷ ns) e u = (let h = u.0 in omega (arith, e, h), used_more m n ns e u.1)

pub above_all : (used n : ℕ) (ns : List ℕ) → used < n → AreUsed used ns → NotAmong n ns
above_all used n [] e u = tt
above_all used n (k ∷ ns) e u = (λ same. (let h = u.0 in absurd (omega (arith, e, h, same))), above_all used n ns e u.1)

not_among_push : (k n : ℕ) (ns : List ℕ) → (n ≡ k → ⊥) → NotAmong k ns → NotAmong k (ns ++ n ∷ [])
not_among_push k n [] ne a = (ne, tt)
not_among_push k n (m ∷ ns) ne a = (a.0, not_among_push k n ns ne a.1)

pub apart_push : (n : ℕ) (ns : List ℕ) → NotAmong n ns → AreApart ns → AreApart (ns ++ n ∷ [])
apart_push n [] a apart = (tt, tt)
apart_push n (k ∷ ns) a apart = (not_among_push k n ns (λ same. a.0 (sym same)) apart.0, apart_push n ns a.1 apart.1)

pub used_push : (used n : ℕ) (ns : List ℕ) → n ≤ used → AreUsed used ns → AreUsed used (ns ++ n ∷ [])
used_push used n [] e u = (e, tt)
used_push used n (k ∷ ns) e u = (u.0, used_push used n ns e u.1)

pub links_push : (seats : List SeatView) (y : SeatView) → links_of (seats ++ y ∷ []) ≡ links_of seats ++ seat_link y ∷ []
links_push [] y = refl
links_push (x ∷ seats) y = ap (λ ns. seat_link x ∷ ns) (links_push seats y)

not_among_without : (n k : ℕ) (seats : List SeatView) → NotAmong n (links_of seats) → NotAmong n (links_of (without seat_link k seats))
not_among_without n k [] a = tt
not_among_without n k (x ∷ seats) a = by (not (eqb (seat_link x) k)) (not_among_without n k seats a.1) where
  by : (b : Bool) → NotAmong n (links_of (without seat_link k seats)) → NotAmong n (links_of (cond b (x ∷ without seat_link k seats) (without seat_link k seats)))
  by true more = (a.0, more)
  by false more = more

pub apart_without : (k : ℕ) (seats : List SeatView) → AreApart (links_of seats) → AreApart (links_of (without seat_link k seats))
apart_without k [] apart = tt
apart_without k (x ∷ seats) apart = by (not (eqb (seat_link x) k)) (apart_without k seats apart.1) where
  by : (b : Bool) → AreApart (links_of (without seat_link k seats)) → AreApart (links_of (cond b (x ∷ without seat_link k seats) (without seat_link k seats)))
  by true more = (not_among_without (seat_link x) k seats apart.0, more)
  by false more = more

pub used_without : (used k : ℕ) (seats : List SeatView) → AreUsed used (links_of seats) → AreUsed used (links_of (without seat_link k seats))
used_without used k [] u = tt
used_without used k (x ∷ seats) u = by (not (eqb (seat_link x) k)) (used_without used k seats u.1) where
  by : (b : Bool) → AreUsed used (links_of (without seat_link k seats)) → AreUsed used (links_of (cond b (x ∷ without seat_link k seats) (without seat_link k seats)))
  by true more = (u.0, more)
  by false more = more

-- ---- what keeps the numbers apart

-- the same links
pub seats_same : (old new : ServersView) → links_of new.seats ≡ links_of old.seats → old.used ≤ new.used → AreSeats old → AreSeats new
seats_same old new e rises are = record {
  apart = subst AreApart (sym e) are.apart;
  used = subst (AreUsed new.used) (sym e) (used_more old.used new.used (links_of old.seats) rises are.used);
}

-- one link more, with the next number
pub seats_push : (old new : ServersView) (y : SeatView) → AreSeats old → new.seats ≡ old.seats ++ y ∷ [] → seat_link y ≡ new.used → new.used ≡ old.used + 1 → AreSeats new
seats_push old new y are e key next =
    let n = new.used in
    let whole : links_of new.seats ≡ links_of old.seats ++ n ∷ [] = ap links_of e ∙ links_push old.seats y ∙ ap (λ k. links_of old.seats ++ k ∷ []) key in
    record {
      apart = subst AreApart (sym whole) (apart_push n (links_of old.seats) (above_all old.used n (links_of old.seats) (omega (arith, next)) are.used) are.apart);
      used = subst (AreUsed n) (sym whole) (used_push n n (links_of old.seats) (omega arith) (used_more old.used n (links_of old.seats) (omega (arith, next)) are.used));
    }

-- one link less
pub seats_without : (old new : ServersView) (k : ℕ) → AreSeats old → new.seats ≡ without seat_link k old.seats → new.used ≡ old.used → AreSeats new
seats_without old new k are e used = record {
  apart = subst (λ seats. AreApart (links_of seats)) (sym e) (apart_without k old.seats are.apart);
  used = subst (λ n. AreUsed n (links_of new.seats)) (sym used) (subst (λ seats. AreUsed old.used (links_of seats)) (sym e) (used_without old.used k old.seats are.used));
}

-- ---- the server of a link is another one

placed_key : (k i : ℕ) (seats : List SeatView) (d y : SeatView) → IsKeyPlace seat_link k seats i → seat_link y ≡ seat_link (slice_index_or seats i d) → seat_link y ≡ k
placed_key k i seats d y p link = link ∙ at_key-key seat_link k seats (slice_index_or seats i d) (p.found d)

pub placed_links : (k i : ℕ) (seats : List SeatView) (d y : SeatView) → IsKeyPlace seat_link k seats i → seat_link y ≡ seat_link (slice_index_or seats i d) → links_of (slice_set seats i y) ≡ links_of seats
placed_links k i seats d y p link = ap links_of (p.put y) ∙ put_links k y seats (placed_key k i seats d y p link)

pub placed_shut : (k i : ℕ) (seats : List SeatView) (d y : SeatView) (why : Cause) → IsKeyPlace seat_link k seats i → seat_link y ≡ seat_link (slice_index_or seats i d) → y.leaving ≡ Some why → is_open_at (at_key seat_link k (slice_set seats i y)) ≡ false
placed_shut k i seats d y why p link leaves =
    ap (λ l. is_open_at (at_key seat_link k l)) (p.put y) ∙ ap is_open_at (at_key-put_same seat_link k (slice_index_or seats i d) y seats (placed_key k i seats d y p link) (p.found d)) ∙ ap is_none leaves

-- it begins to leave, whether memory is refused or not
pub placed_lost : {E : Type 0} (k i : ℕ) (groups : EntryGroups) (why : Cause) (rank : ℕ) (seats : List SeatView) (d e y : SeatView) (result : Result (List Act) E) → IsKeyPlace seat_link k seats i → is_open (slice_index_or seats i e) ≡ true
    → IfOk result (λ acts. acts ≡ loss_acts groups (slice_index_or seats i d).server) → OnOk result (y ≡ left_for why rank (known (after_loss (slice_index_or seats i d).server) (slice_index_or seats i d)))
    → OnErr result (y ≡ left_for why rank (slice_index_or seats i d)) → Lost k groups why rank seats (slice_set seats i y) result (at_key seat_link k seats)
placed_lost {E = E} k i groups why rank seats d e y result p opened does done left =
    let s = slice_index_or seats i d in
    let same : is_open s ≡ true = ap is_open_at (sym (p.found d) ∙ p.found e) ∙ opened in
    subst (Lost k groups why rank seats (slice_set seats i y) result) (sym (p.found d)) (subst (λ b. LosesIf b k groups why rank seats (slice_set seats i y) result s) (sym same) (by result does done left))
  where
    by : (result : Result (List Act) E) → IfOk result (λ acts. acts ≡ loss_acts groups (slice_index_or seats i d).server) → OnOk result (y ≡ left_for why rank (known (after_loss (slice_index_or seats i d).server) (slice_index_or seats i d)))
        → OnErr result (y ≡ left_for why rank (slice_index_or seats i d)) → Loses k groups why rank seats (slice_set seats i y) result (slice_index_or seats i d)
    by (Ok acts) does done left = (does, p.put y ∙ ap (λ y. put_at seat_link k y seats) done)
    by (Err refused) does done left = p.put y ∙ ap (λ y. put_at seat_link k y seats) left

-- ---- servers that are open

-- the open server of a name
pub named_open : (name : List ℕ) (seats : List SeatView) → option_map seat_of (find (λ seat. is_open seat && bytes_eq seat.server.name name) seats) ≡ server_named name (open_of seats)
named_open name [] = refl
named_open name (x ∷ seats) = by (is_open x) (named_open name seats) where
  others : Option SeatView
  others = find (λ seat. is_open seat && bytes_eq seat.server.name name) seats

  one : (n : Bool) → option_map seat_of others ≡ server_named name (open_of seats) → option_map seat_of (cond n (Some x) others) ≡ cond n (Some (seat_of x)) (server_named name (open_of seats))
  one true more = refl
  one false more = more

  by : (o : Bool) → option_map seat_of others ≡ server_named name (open_of seats)
      → option_map seat_of (cond (o && bytes_eq x.server.name name) (Some x) others) ≡ find (has_name name) (cond o (seat_of x ∷ open_of seats) (open_of seats))
  by true more = one (bytes_eq x.server.name name) more
  by false more = more

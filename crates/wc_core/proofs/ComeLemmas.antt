-- How servers come and leave, one step after another.
use Rattle.std.proofs.Common.{◌≡◌, ◌⊎◌, inl, inr, ℕ, ◌+◌, ◌^◌, ◌<◌, ◌≤◌, Bool, true, false, cond, eqb, not, ◌||◌, List, [], ◌∷◌, ◌++◌, length, drop, nat_le, Option, Some, None, IsSome, is_some, refl, ap, sym, subst, ◌∙◌, arith, append-nil, append_assoc}
use Rattle.std.specs.List.{flat_map}
use Rattle.std.proofs.lemmas.Bool.{false≢true}
use Rattle.std.proofs.lemmas.Bool.Decides.{nat_tests}
use Rattle.std.proofs.lemmas.List.{length-append}
use Rattle.std.proofs.lemmas.List.Concat.{flat_map-append}
use Rattle.std.proofs.lemmas.List.Folds.{list_any-append}
use Rattle.wc_text.specs.declared.names.Cause.{Cause}
use Rattle.wc_outside.specs.Keyed.{at_key, put_at, without}
use Rattle.wc_outside.proofs.KeyedLemmas.{at_key-key}
use Rattle.wc_irc.specs.CloseActs.{quit_line}
use Rattle.wc_irc.specs.Servers.{ServerState}
use Rattle.wc_irc.specs.declared.act.Act.{Act as ServerAct}
use Rattle.wc_irc.specs.declared.act.Act.TheVariants as act
use Rattle.wc_servers.specs.declared.wanted.Wanted.{Wanted}
use Rattle.wc_servers.specs.Outs.{Out, Connects, Parts, first_line, quit_outs}
use Rattle.wc_servers.specs.Seats.{SeatView, ServersView, ServerSeat, seat_link, is_open, seat_of, open_of, leaving_in, links_of, known, left_for, new_seat, wanted_of, begun, told_first, quitting, used_up, forgotten}
use Rattle.wc_servers.proofs.OutLemmas.{ServersKeep-put, begun-keeps, open-push}
use Rattle.wc_servers.proofs.QuitLemmas.{MayQuit, may_quit_links, may_quit_open, quit-keeps}
use Rattle.wc_servers.proofs.SeatLemmas.{put_links, seats_same, seats_push}
use Rattle.wc_core.specs.ServersKept.{is_wanted, AreNext, put_by_rank, leaving_seats, parting_by, parting_of, partings_of, parts_by, parts_in, AreRanked, AreInOrder, LeaveInOrder, ServersKeep, left_after}

-- ---- connections that are wanted

or-assoc : (a b c : Bool) → ((a || b) || c) ≡ (a || (b || c))
or-assoc true b c = refl
or-assoc false b c = refl

or-none : (a : Bool) → a ≡ (a || false)
or-none true = refl
or-none false = refl

pub AreNext-append : (used : ℕ) (wanted more : List Wanted) → AreNext used wanted → AreNext (used + length wanted) more → AreNext used (wanted ++ more)
AreNext-append used [] more h g = subst (λ n. AreNext n more) (omega arith) g
AreNext-append used (one ∷ wanted) more h g = (h.0, AreNext-append (used + 1) wanted more h.1 (subst (λ n. AreNext n more) (omega arith) g))

pub wanted-append : (k : ℕ) (wanted more : List Wanted) → is_wanted k (wanted ++ more) ≡ (is_wanted k wanted || is_wanted k more)
wanted-append k wanted more = list_any-append (λ (one : Wanted). eqb one.link.0 k) wanted more

-- ---- one after another

pub ServersKeep-refl : (a : ServersView) → ServersKeep a a
ServersKeep-refl a = record {
  more = [];
  wanted = sym (append-nil _);
  next = tt;
  reached = omega arith;
  limited = λ e. e;
  links = λ j. or-none _;
  kept = λ j some. refl;
  seats = λ are. are;
  order = λ e are. are;
}

pub ServersKeep-trans : (a b c : ServersView) → ServersKeep a b → ServersKeep b c → ServersKeep a c
ServersKeep-trans a b c f g = record {
  more = f.more ++ g.more;
  wanted = g.wanted ∙ ap (λ t. t ++ g.more) f.wanted ∙ append_assoc a.wanted f.more g.more;
  next = AreNext-append a.used f.more g.more f.next (subst (λ n. AreNext n g.more) f.reached g.next);
  reached = (let p = f.reached in let q = g.reached in let l = length-append f.more g.more in omega (arith, p, q, l));
  limited = λ e. g.limited (f.limited e);
  links = λ j. g.links j ∙ ap (λ t. t || is_wanted j g.more) (f.links j) ∙ or-assoc (is_some (at_key seat_link j a.seats)) (is_wanted j f.more) (is_wanted j g.more) ∙ ap (λ t. is_some (at_key seat_link j a.seats) || t) (sym (wanted-append j f.more g.more));
  kept = λ j some.
      let same = f.kept j some in
      let P : Option SeatView → Type 0 = λ o. IsSome (leaving_in o) in
      g.kept j (subst P (sym same) some) ∙ same;
  seats = λ are. g.seats (f.seats are);
  order = λ e are. g.order (f.limited e) (f.order e are);
}

pub parts_in-append : (a b : List Out) → parts_in (a ++ b) ≡ parts_in a ++ parts_in b
parts_in-append [] b = refl
parts_in-append (x ∷ a) b = ap (λ t. parts_by x ++ t) (parts_in-append a b) ∙ sym (append_assoc (parts_by x) (parts_in a) (parts_in b))

pub LeaveInOrder-refl : (a : ServersView) → LeaveInOrder a a []
LeaveInOrder-refl a = λ e are. sym (append-nil _)

pub LeaveInOrder-trans : (a b c : ServersView) (xs ys : List Out) → ServersKeep a b → LeaveInOrder a b xs → LeaveInOrder b c ys → LeaveInOrder a c (xs ++ ys)
LeaveInOrder-trans a b c xs ys come f g = λ e are.
    g (come.limited e) (come.order e are) ∙ ap (λ t. t ++ parts_in ys) (f e are) ∙ append_assoc (partings_of a.seats) (parts_in xs) (parts_in ys) ∙ ap (λ t. partings_of a.seats ++ t) (sym (parts_in-append xs ys))

-- ---- one server is another one

some_same : (x y : SeatView) → Some x ≡ Some y → x ≡ y
some_same x y e = cc

first_number : List ℕ → ℕ
first_number [] = 0
first_number (n ∷ ns) = n

-- the same links have a server
there-same : (j : ℕ) (xs ys : List SeatView) → links_of xs ≡ links_of ys → is_some (at_key seat_link j xs) ≡ is_some (at_key seat_link j ys)
unfolding first_number
there-same j [] [] e = refl
there-same j [] (y ∷ ys) e = absurd (cc)
there-same j (x ∷ xs) [] e = absurd (cc)
there-same j (x ∷ xs) (y ∷ ys) e = ap (λ t. is_some (cond t (Some x) (at_key seat_link j xs))) (ap (λ ns. eqb (first_number ns) j) e) ∙ by (eqb (seat_link y) j) (there-same j xs ys (ap (drop 1) e)) where
  by : (t : Bool) → is_some (at_key seat_link j xs) ≡ is_some (at_key seat_link j ys) → is_some (cond t (Some x) (at_key seat_link j xs)) ≡ is_some (cond t (Some y) (at_key seat_link j ys))
  by true more = refl
  by false more = more

below-more : (m n : ℕ) (seats : List SeatView) → m ≤ n → AreRanked m seats → AreRanked n seats
below-more m n [] most h = tt
below-more m n (x ∷ seats) most h = (λ shut. (let less = h.0 shut in omega (arith, most, less)), below-more m n seats most h.1)

below-put : (n k : ℕ) (y : SeatView) (seats : List SeatView) → (is_open y ≡ false → y.rank < n) → AreRanked n seats → AreRanked n (put_at seat_link k y seats)
below-put n k y [] less h = tt
below-put n k y (x ∷ seats) less h = by (eqb (seat_link x) k) (below-put n k y seats less h.1) where
  by : (t : Bool) → AreRanked n (put_at seat_link k y seats) → AreRanked n (cond t (y ∷ seats) (x ∷ put_at seat_link k y seats))
  by true more = (less, h.1)
  by false more = (h.0, more)

-- as many are open where an open one stays so, and one less where it leaves
count-same : (k : ℕ) (s y : SeatView) (seats : List SeatView) → at_key seat_link k seats ≡ Some s → is_open s ≡ true → is_open y ≡ true → length (open_of (put_at seat_link k y seats)) ≡ length (open_of seats)
count-same k s y [] at sits stays = refl
count-same k s y (x ∷ seats) at sits stays = by (λ a. count-same k s y seats a sits stays) (eqb (seat_link x) k) at where
  under : length (open_of (put_at seat_link k y seats)) ≡ length (open_of seats) → (b : Bool) → length (cond b (seat_of x ∷ open_of (put_at seat_link k y seats)) (open_of (put_at seat_link k y seats))) ≡ length (cond b (seat_of x ∷ open_of seats) (open_of seats))
  under more true = omega (arith, more)
  under more false = more

  by : (at_key seat_link k seats ≡ Some s → length (open_of (put_at seat_link k y seats)) ≡ length (open_of seats)) → (t : Bool) → cond t (Some x) (at_key seat_link k seats) ≡ Some s → length (open_of (cond t (y ∷ seats) (x ∷ put_at seat_link k y seats))) ≡ length (open_of (x ∷ seats))
  by others true a =
      let here : is_open x ≡ true = ap is_open (some_same x s a) ∙ sits in
      ap (λ b. length (cond b (seat_of y ∷ open_of seats) (open_of seats))) stays ∙ sym (ap (λ b. length (cond b (seat_of x ∷ open_of seats) (open_of seats))) here)
  by others false a = under (others a) (is_open x)

count-left : (k : ℕ) (s y : SeatView) (seats : List SeatView) → at_key seat_link k seats ≡ Some s → is_open s ≡ true → is_open y ≡ false → length (open_of (put_at seat_link k y seats)) + 1 ≡ length (open_of seats)
count-left k s y [] at sits leaves = absurd (cc)
count-left k s y (x ∷ seats) at sits leaves = by (λ a. count-left k s y seats a sits leaves) (eqb (seat_link x) k) at where
  under : length (open_of (put_at seat_link k y seats)) + 1 ≡ length (open_of seats) → (b : Bool) → length (cond b (seat_of x ∷ open_of (put_at seat_link k y seats)) (open_of (put_at seat_link k y seats))) + 1 ≡ length (cond b (seat_of x ∷ open_of seats) (open_of seats))
  under more true = omega (arith, more)
  under more false = more

  one_more : length (open_of seats) + 1 ≡ length (seat_of x ∷ open_of seats)
  one_more = omega arith

  by : (at_key seat_link k seats ≡ Some s → length (open_of (put_at seat_link k y seats)) + 1 ≡ length (open_of seats)) → (t : Bool) → cond t (Some x) (at_key seat_link k seats) ≡ Some s → length (open_of (cond t (y ∷ seats) (x ∷ put_at seat_link k y seats))) + 1 ≡ length (open_of (x ∷ seats))
  by others true a =
      let here : is_open x ≡ true = ap is_open (some_same x s a) ∙ sits in
      ap (λ b. length (cond b (seat_of y ∷ open_of seats) (open_of seats)) + 1) leaves ∙ one_more ∙ sym (ap (λ b. length (cond b (seat_of x ∷ open_of seats) (open_of seats))) here)
  by others false a = under (others a) (is_open x)

-- ---- those that are leaving

leaving-same : (k : ℕ) (s y : SeatView) (seats : List SeatView) → at_key seat_link k seats ≡ Some s → is_open s ≡ true → is_open y ≡ true → leaving_seats (put_at seat_link k y seats) ≡ leaving_seats seats
leaving-same k s y [] at sits stays = refl
leaving-same k s y (x ∷ seats) at sits stays = by (λ a. leaving-same k s y seats a sits stays) (eqb (seat_link x) k) at where
  by : (at_key seat_link k seats ≡ Some s → leaving_seats (put_at seat_link k y seats) ≡ leaving_seats seats) → (t : Bool) → cond t (Some x) (at_key seat_link k seats) ≡ Some s → leaving_seats (cond t (y ∷ seats) (x ∷ put_at seat_link k y seats)) ≡ leaving_seats (x ∷ seats)
  by others true a =
      let here : is_open x ≡ true = ap is_open (some_same x s a) ∙ sits in
      ap (λ b. cond b (leaving_seats seats) (put_by_rank y (leaving_seats seats))) stays ∙ sym (ap (λ b. cond b (leaving_seats seats) (put_by_rank x (leaving_seats seats))) here)
  by others false a = ap (λ l. cond (is_open x) l (put_by_rank x l)) (others a)

abbrev AreBefore : ℕ → List SeatView → Type 0
AreBefore n [] = Unit {0}
AreBefore n (x ∷ seats) = (x.rank < n) × AreBefore n seats

before-put : (n : ℕ) (x : SeatView) (seats : List SeatView) → x.rank < n → AreBefore n seats → AreBefore n (put_by_rank x seats)
before-put n x [] less h = (less, tt)
before-put n x (z ∷ seats) less h = by (nat_le x.rank z.rank) (before-put n x seats less h.1) where
  by : (t : Bool) → AreBefore n (put_by_rank x seats) → AreBefore n (cond t (x ∷ z ∷ seats) (z ∷ put_by_rank x seats))
  by true more = (less, h)
  by false more = (h.0, more)

before-all : (n : ℕ) (seats : List SeatView) → AreRanked n seats → AreBefore n (leaving_seats seats)
before-all n [] h = tt
before-all n (x ∷ seats) h = by (is_open x) refl (before-all n seats h.1) where
  by : (b : Bool) → is_open x ≡ b → AreBefore n (leaving_seats seats) → AreBefore n (cond b (leaving_seats seats) (put_by_rank x (leaving_seats seats)))
  by true e more = more
  by false e more = before-put n x (leaving_seats seats) (h.0 e) more

last-put : (n : ℕ) (y : SeatView) (seats : List SeatView) → y.rank ≡ n → AreBefore n seats → put_by_rank y seats ≡ seats ++ y ∷ []
last-put n y [] e h = refl
last-put n y (x ∷ seats) e h =
    let less : x.rank < n = h.0 in
    let test : nat_le y.rank x.rank ≡ false = grind (arith, nat_tests) in
    ap (λ t. cond t (y ∷ x ∷ seats) (x ∷ put_by_rank y seats)) test ∙ ap (λ l. x ∷ l) (last-put n y seats e h.1)

first-put : (x y : SeatView) (seats : List SeatView) → x.rank ≤ y.rank → put_by_rank x (seats ++ y ∷ []) ≡ put_by_rank x seats ++ y ∷ []
first-put x y [] most =
    let test : nat_le x.rank y.rank ≡ true = grind (arith, nat_tests) in
    ap (λ t. cond t (x ∷ y ∷ []) (y ∷ x ∷ [])) test
first-put x y (z ∷ seats) most = by (nat_le x.rank z.rank) (first-put x y seats most) where
  by : (t : Bool) → put_by_rank x (seats ++ y ∷ []) ≡ put_by_rank x seats ++ y ∷ [] → cond t (x ∷ z ∷ (seats ++ y ∷ [])) (z ∷ put_by_rank x (seats ++ y ∷ [])) ≡ cond t (x ∷ z ∷ seats) (z ∷ put_by_rank x seats) ++ y ∷ []
  by true more = refl
  by false more = ap (λ l. z ∷ l) more

-- one that begins to leave is the last of them
leaving-left : (n k : ℕ) (s y : SeatView) (seats : List SeatView) → at_key seat_link k seats ≡ Some s → is_open s ≡ true → is_open y ≡ false → y.rank ≡ n → AreRanked n seats → leaving_seats (put_at seat_link k y seats) ≡ leaving_seats seats ++ y ∷ []
leaving-left n k s y [] at sits leaves e h = absurd (cc)
leaving-left n k s y (x ∷ seats) at sits leaves e h = by (λ a. leaving-left n k s y seats a sits leaves e h.1) (eqb (seat_link x) k) at where
  under : (b : Bool) → is_open x ≡ b → cond b (leaving_seats seats ++ y ∷ []) (put_by_rank x (leaving_seats seats ++ y ∷ [])) ≡ cond b (leaving_seats seats) (put_by_rank x (leaving_seats seats)) ++ y ∷ []
  under true o = refl
  under false o = (let less = h.0 o in first-put x y (leaving_seats seats) (omega (arith, less, e)))

  by : (at_key seat_link k seats ≡ Some s → leaving_seats (put_at seat_link k y seats) ≡ leaving_seats seats ++ y ∷ []) → (t : Bool) → cond t (Some x) (at_key seat_link k seats) ≡ Some s → leaving_seats (cond t (y ∷ seats) (x ∷ put_at seat_link k y seats)) ≡ leaving_seats (x ∷ seats) ++ y ∷ []
  by others true a =
      let here : is_open x ≡ true = ap is_open (some_same x s a) ∙ sits in
      ap (λ b. cond b (leaving_seats seats) (put_by_rank y (leaving_seats seats))) leaves ∙ last-put n y (leaving_seats seats) e (before-all n seats h.1) ∙ sym (ap (λ b. cond b (leaving_seats seats) (put_by_rank x (leaving_seats seats)) ++ y ∷ []) here)
  by others false a = ap (λ l. cond (is_open x) l (put_by_rank x l)) (others a) ∙ under (is_open x) refl

-- ---- an open server stays open

pub come-put : (old : ServersView) (k : ℕ) (s y : SeatView) → at_key seat_link k old.seats ≡ Some s → is_open s ≡ true → is_open y ≡ true → seat_link y ≡ k → ServersKeep old (record old { seats = put_at seat_link k y old.seats })
come-put old k s y at sits stays key =
    let new : ServersView = record old { seats = put_at seat_link k y old.seats } in
    record {
      more = [];
      wanted = sym (append-nil _);
      next = tt;
      reached = omega arith;
      limited = λ e. e;
      links = λ j. there-same j new.seats old.seats (put_links k y old.seats key) ∙ or-none _;
      kept = (ServersKeep-put old new k s y at sits key refl refl refl).kept;
      seats = λ are. seats_same old new (put_links k y old.seats key) (omega arith) are;
      order = λ e are. record {
        ranked = below-put old.left k y old.seats (λ shut. absurd (false≢true (sym shut ∙ stays))) are.ranked;
        counted = (let most = are.counted in let same = count-same k s y old.seats at sits stays in omega (arith, most, same));
      };
    }

pub order-put : (old : ServersView) (k : ℕ) (s y : SeatView) (outs : List Out) → at_key seat_link k old.seats ≡ Some s → is_open s ≡ true → is_open y ≡ true → parts_in outs ≡ [] → LeaveInOrder old (record old { seats = put_at seat_link k y old.seats }) outs
order-put old k s y outs at sits stays none = λ e are.
    ap (flat_map parting_of) (leaving-same k s y old.seats at sits stays) ∙ sym (append-nil _) ∙ ap (λ t. partings_of old.seats ++ t) (sym none)

-- ---- one begins to leave, whatever its state is then

abbrev pub left_one : ServersView → ℕ → Cause → ServerState → SeatView → ServersView
left_one old k why server s = record old { seats = put_at seat_link k (left_for why old.left (known server s)) old.seats; left = left_after old }

pub come-left : (old : ServersView) (k : ℕ) (s : SeatView) (server : ServerState) (why : Cause) → at_key seat_link k old.seats ≡ Some s → is_open s ≡ true → ServersKeep old (left_one old k why server s)
come-left old k s server why at sits =
    let y : SeatView = left_for why old.left (known server s) in
    let new : ServersView = left_one old k why server s in
    let key : seat_link y ≡ k = at_key-key seat_link k old.seats s at in
    let one = count-left k s y old.seats at sits refl in
    record {
      more = [];
      wanted = sym (append-nil _);
      next = tt;
      reached = omega arith;
      limited = λ e. e;
      links = λ j. there-same j new.seats old.seats (put_links k y old.seats key) ∙ or-none _;
      kept = (ServersKeep-put old new k s y at sits key refl refl refl).kept;
      seats = λ are. seats_same old new (put_links k y old.seats key) (omega arith) are;
      order = λ e are.
          let most = are.counted in
          record {
            ranked = below-put (left_after old) k y old.seats (λ shut. omega (arith, e, most, one)) (below-more old.left (left_after old) old.seats (omega (arith, e, most, one)) are.ranked);
            counted = omega (arith, e, most, one);
          };
    }

pub order-left : (old : ServersView) (k : ℕ) (s : SeatView) (server : ServerState) (why : Cause) → at_key seat_link k old.seats ≡ Some s → is_open s ≡ true → LeaveInOrder old (left_one old k why server s) (Parts k why ∷ [])
order-left old k s server why at sits = λ e are.
    let y : SeatView = left_for why old.left (known server s) in
    ap (flat_map parting_of) (leaving-left old.left k s y old.seats at sits refl refl are.ranked) ∙ flat_map-append parting_of (leaving_seats old.seats) (y ∷ [])
    ∙ ap (λ n. partings_of old.seats ++ parting_by n (Some why)) (at_key-key seat_link k old.seats s at)

-- ---- a connection is begun

there-push : (j : ℕ) (y : SeatView) (seats : List SeatView) → is_some (at_key seat_link j (seats ++ y ∷ [])) ≡ (is_some (at_key seat_link j seats) || (eqb (seat_link y) j || false))
there-push j y [] = by (eqb (seat_link y) j) where
  by : (t : Bool) → is_some (cond t (Some y) None) ≡ (t || false)
  by true = refl
  by false = refl
there-push j y (x ∷ seats) = by (eqb (seat_link x) j) (there-push j y seats) where
  by : (t : Bool) → is_some (at_key seat_link j (seats ++ y ∷ [])) ≡ (is_some (at_key seat_link j seats) || (eqb (seat_link y) j || false))
      → is_some (cond t (Some x) (at_key seat_link j (seats ++ y ∷ []))) ≡ (is_some (cond t (Some x) (at_key seat_link j seats)) || (eqb (seat_link y) j || false))
  by true more = refl
  by false more = more

below-push : (n : ℕ) (y : SeatView) (seats : List SeatView) → is_open y ≡ true → AreRanked n seats → AreRanked n (seats ++ y ∷ [])
below-push n y [] sits h = (λ shut. absurd (false≢true (sym shut ∙ sits)), tt)
below-push n y (x ∷ seats) sits h = (h.0, below-push n y seats sits h.1)

leaving-push : (y : SeatView) (seats : List SeatView) → is_open y ≡ true → leaving_seats (seats ++ y ∷ []) ≡ leaving_seats seats
leaving-push y [] sits = ap (λ b. cond b [] (put_by_rank y [])) sits
leaving-push y (x ∷ seats) sits = ap (λ l. cond (is_open x) l (put_by_rank x l)) (leaving-push y seats sits)

pub come-begun : (old : ServersView) (server : ServerState) → old.used < 2 ^ 62 → ServersKeep old (begun server old)
come-begun old server few =
    let y : SeatView = new_seat (old.used + 1) server in
    record {
      more = wanted_of (old.used + 1) server ∷ [];
      wanted = refl;
      next = (refl, tt);
      reached = omega arith;
      limited = λ e. omega (arith, few);
      links = λ j. there-push j y old.seats;
      kept = (begun-keeps old server).kept;
      seats = λ are. seats_push old (begun server old) y are refl refl refl;
      order = λ e are.
          let most = are.counted in
          let one = ap length (open-push old.seats (old.used + 1) server) ∙ length-append (open_of old.seats) (record { link = old.used + 1; server = server } ∷ []) in
          record {
            ranked = below-push old.left y old.seats refl are.ranked;
            counted = omega (arith, most, one);
          };
    }

pub order-begun : (old : ServersView) (server : ServerState) → LeaveInOrder old (begun server old) (Connects (old.used + 1) server.address server.name ∷ [])
order-begun old server = λ e are. ap (flat_map parting_of) (leaving-push (new_seat (old.used + 1) server) old.seats refl) ∙ sym (append-nil _)

-- ---- servers are told that the run ends

told-open : (acts : List ServerAct) (x : SeatView) → is_open (told_first acts x) ≡ is_open x
told-open [] x = refl
told-open (act.Open spec ∷ acts) x = refl
told-open (act.On name w ∷ acts) x = refl
told-open (act.Send line ∷ acts) x = refl
told-open (act.Raise signal payload ∷ acts) x = refl
told-open (act.Leave cause ∷ acts) x = refl

quitting-open : (x : SeatView) → is_open (quitting x) ≡ is_open x
quitting-open x = by (is_open x) where
  by : (b : Bool) → is_open (cond b (told_first (quit_line x.server) x) x) ≡ is_open x
  by true = told-open (quit_line x.server) x
  by false = refl

quit-open : (a b : SeatView) → (b ≡ a) ⊎ (b ≡ quitting a) → is_open b ≡ is_open a
quit-open a b (inl e) = ap is_open e
quit-open a b (inr e) = ap is_open e ∙ quitting-open a

quit-shut : (a b : SeatView) → (b ≡ a) ⊎ (b ≡ quitting a) → is_open a ≡ false → b ≡ a
quit-shut a b (inl e) shut = e
quit-shut a b (inr e) shut = e ∙ ap (λ t. cond t (told_first (quit_line a.server) a) a) shut

below-quit : (n : ℕ) (old new : List SeatView) → MayQuit old new → AreRanked n old → AreRanked n new
below-quit n [] [] m h = tt
below-quit n [] (b ∷ new) m h = absurd m
below-quit n (a ∷ old) [] m h = absurd m
below-quit n (a ∷ old) (b ∷ new) m h = (
  λ shut. (let off = sym (quit-open a b m.0) ∙ shut in subst (λ (s : SeatView). s.rank < n) (sym (quit-shut a b m.0 off)) (h.0 off)),
  below-quit n old new m.1 h.1,
)

leaving-quit : (old new : List SeatView) → MayQuit old new → leaving_seats new ≡ leaving_seats old
leaving-quit [] [] m = refl
leaving-quit [] (b ∷ new) m = absurd m
leaving-quit (a ∷ old) [] m = absurd m
leaving-quit (a ∷ old) (b ∷ new) m = by (leaving-quit old new m.1) (is_open a) refl where
  by : leaving_seats new ≡ leaving_seats old → (t : Bool) → is_open a ≡ t → leaving_seats (b ∷ new) ≡ leaving_seats (a ∷ old)
  by more true sits = ap (λ t. cond t (leaving_seats new) (put_by_rank b (leaving_seats new))) (quit-open a b m.0 ∙ sits) ∙ more ∙ sym (ap (λ t. cond t (leaving_seats old) (put_by_rank a (leaving_seats old))) sits)
  by more false shut = ap (λ s. leaving_seats (s ∷ new)) (quit-shut a b m.0 shut) ∙ ap (λ l. cond (is_open a) l (put_by_rank a l)) more

pub come-quit : (old : ServersView) (seats : List SeatView) → MayQuit old.seats seats → ServersKeep old (record old { seats = seats })
come-quit old seats m = record {
  more = [];
  wanted = sym (append-nil _);
  next = tt;
  reached = omega arith;
  limited = λ e. e;
  links = λ j. there-same j seats old.seats (may_quit_links old.seats seats m) ∙ or-none _;
  kept = (quit-keeps old (record old { seats = seats }) m refl).kept;
  seats = λ are. seats_same old (record old { seats = seats }) (may_quit_links old.seats seats m) (omega arith) are;
  order = λ e are. record {
    ranked = below-quit old.left old.seats seats m are.ranked;
    counted = (let most = are.counted in let same = ap length (may_quit_open old.seats seats m) in omega (arith, most, same));
  };
}

line-parts : (k : ℕ) (acts : List ServerAct) → parts_in (first_line k acts) ≡ []
line-parts k [] = refl
line-parts k (act.Open spec ∷ acts) = refl
line-parts k (act.On name w ∷ acts) = refl
line-parts k (act.Send line ∷ acts) = refl
line-parts k (act.Raise signal payload ∷ acts) = refl
line-parts k (act.Leave cause ∷ acts) = refl

quit-parts : (servers : List ServerSeat) → parts_in (flat_map quit_outs servers) ≡ []
quit-parts [] = refl
quit-parts (s ∷ servers) = parts_in-append (quit_outs s) (flat_map quit_outs servers) ∙ ap (λ t. t ++ parts_in (flat_map quit_outs servers)) (line-parts s.link (quit_line s.server)) ∙ quit-parts servers

pub order-quit : (old : ServersView) (seats : List SeatView) → MayQuit old.seats seats → LeaveInOrder old (record old { seats = seats }) (flat_map quit_outs (open_of old.seats))
order-quit old seats m = λ e are. ap (flat_map parting_of) (leaving-quit old.seats seats m) ∙ sym (append-nil _) ∙ ap (λ t. partings_of old.seats ++ t) (sym (quit-parts (open_of old.seats)))

-- ---- what the loop does to servers

pub in_order-used : (servers : ServersView) (link : ℕ) → AreInOrder servers → AreInOrder (used_up link servers)
in_order-used servers link are = record { ranked = are.ranked; counted = (let most = are.counted in omega (arith, most)) }

below-without : (n k : ℕ) (seats : List SeatView) → AreRanked n seats → AreRanked n (without seat_link k seats)
below-without n k [] h = tt
below-without n k (x ∷ seats) h = by (not (eqb (seat_link x) k)) (below-without n k seats h.1) where
  by : (t : Bool) → AreRanked n (without seat_link k seats) → AreRanked n (cond t (x ∷ without seat_link k seats) (without seat_link k seats))
  by true more = (h.0, more)
  by false more = more

count-without : (k : ℕ) (seats : List SeatView) → length (open_of (without seat_link k seats)) ≤ length (open_of seats)
count-without k [] = omega arith
count-without k (x ∷ seats) = by (not (eqb (seat_link x) k)) (count-without k seats) where
  under : (b : Bool) → length (open_of (without seat_link k seats)) ≤ length (open_of seats) → length (open_of (without seat_link k seats)) ≤ length (cond b (seat_of x ∷ open_of seats) (open_of seats))
  under true more = omega (arith, more)
  under false more = more

  same : (b : Bool) → length (open_of (without seat_link k seats)) ≤ length (open_of seats) → length (cond b (seat_of x ∷ open_of (without seat_link k seats)) (open_of (without seat_link k seats))) ≤ length (cond b (seat_of x ∷ open_of seats) (open_of seats))
  same true more = omega (arith, more)
  same false more = more

  by : (t : Bool) → length (open_of (without seat_link k seats)) ≤ length (open_of seats) → length (open_of (cond t (x ∷ without seat_link k seats) (without seat_link k seats))) ≤ length (open_of (x ∷ seats))
  by true more = same (is_open x) more
  by false more = under (is_open x) more

pub in_order-forgotten : (servers : ServersView) (link : ℕ) → AreInOrder servers → AreInOrder (forgotten link servers)
in_order-forgotten servers link are = record {
  ranked = below-without servers.left link servers.seats are.ranked;
  counted = (let most = are.counted in let less = count-without link servers.seats in omega (arith, most, less));
}

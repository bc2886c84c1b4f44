-- The server that began to leave first.
use Rattle.std.proofs.Common.{◌≡◌, Bool, true, false, cond, List, [], ◌∷◌, Option, Some, None, refl, ap, ◌∙◌, arith, nat_lt, nat_le}
use Rattle.std.proofs.lemmas.Bool.Decides.{nat_tests}
use Rattle.wc_servers.specs.Seats.{SeatView, is_open, before_or, earlier_of, first_leaving}

-- one that was found before, and the first of those that are left
abbrev pub found_or : Option SeatView → Option SeatView → Option SeatView
found_or None others = others
found_or (Some first) others = before_or first others

found_none : (first : Option SeatView) → found_or first None ≡ first
found_none None = refl
found_none (Some first) = refl

-- three of them, one after another
before_three : (a b c : SeatView) → cond (nat_lt (cond (nat_lt c.rank b.rank) c b).rank a.rank) (Some (cond (nat_lt c.rank b.rank) c b)) (Some a) ≡ cond (nat_lt c.rank (cond (nat_le a.rank b.rank) a b).rank) (Some c) (Some (cond (nat_le a.rank b.rank) a b))
before_three a b c = grind (arith, nat_tests)

before_pair : (a b : SeatView) → cond (nat_lt b.rank a.rank) (Some b) (Some a) ≡ Some (cond (nat_le a.rank b.rank) a b)
before_pair a b = grind (arith, nat_tests)

some_cond : (t : Bool) (x y : SeatView) → cond t (Some x) (Some y) ≡ Some (cond t x y)
some_cond true x y = refl
some_cond false x y = refl

before_before : (a b : SeatView) (others : Option SeatView) → before_or a (before_or b others) ≡ before_or (earlier_of (Some a) b) others
before_before a b None = before_pair a b
before_before a b (Some c) = ap (before_or a) (some_cond (nat_lt c.rank b.rank) c b) ∙ before_three a b c

-- one more that is leaving
pub found_more : (first : Option SeatView) (seat : SeatView) (seats : List SeatView) → is_open seat ≡ false → found_or first (first_leaving (seat ∷ seats)) ≡ found_or (Some (earlier_of first seat)) (first_leaving seats)
found_more None seat seats leaving = rw leaving refl
found_more (Some a) seat seats leaving = rw leaving (before_before a seat (first_leaving seats))

-- one more that is open
pub found_open : (first : Option SeatView) (seat : SeatView) (seats : List SeatView) → is_open seat ≡ true → found_or first (first_leaving (seat ∷ seats)) ≡ found_or first (first_leaving seats)
found_open first seat seats opened = rw opened refl

pub found_last : (first : Option SeatView) → found_or first (first_leaving []) ≡ first
found_last first = found_none first

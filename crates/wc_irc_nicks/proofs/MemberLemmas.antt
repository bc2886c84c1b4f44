-- What the calls of a list make of it.
use Rattle.std.proofs.Common.{◌≡◌, ◌≢◌, ℕ, zero, suc, ◌+◌, ◌/◌, ◌≤◌, ◌<◌, Bool, true, false, cond, List, [], ◌∷◌, ◌++◌, length, get_or, set, map, Option, Some, None, option_map, refl, ap, sym, ◌∙◌, subst, arith, inl, inr, ◌⊎◌, length-append}
use Rattle.std.specs.Prelude.{not, ◌||◌, find, bytes_eq, is_some, nat_le, slice_set}
use Rattle.std.specs.Cmp.Lexicographic.{bytes_decides}
use Rattle.std.proofs.lemmas.Bool.{cases_lt, false≢true}
use Rattle.std.proofs.lemmas.Bool.Decides.{nat_tests}
use Rattle.std.proofs.lemmas.List.{get_or_past, get_or_append_left, get_or_push, get_or_default, length-map, length-set}
use Rattle.std.proofs.lemmas.Option.{same_Some, none-some}
use Rattle.wc_ircmsg.specs.declared.case_map.CaseMap.{CaseMap}
use Rattle.wc_ircmsg.specs.CaseMaps.{folded_name}
use Rattle.wc_irc_texts.specs.declared.seat.ModeSet.{ModeSet}
use Rattle.wc_irc_texts.specs.declared.seat.Seat.{Seat}
use Rattle.wc_irc_nicks.specs.Kept.{MembersValue, with_seats, filled, seat_at, place_in, under_modes, under_name, IsKept, AreCounted}
use Rattle.wc_irc_texts.specs.Names.{is_same}
use Rattle.wc_irc_nicks.specs.Seats.{is_named, seat_of, has_seat, without_seat, with_modes, with_name, AreApart}
use Rattle.wc_irc_nicks.proofs.KeptLemmas.{seat_inside, key_seat, place_index, none_named, one_named, others_named, filled_none, filled_take, filled_same, filled_changed, filled_push, found_none, found_at, kept_take, kept_put, kept_same, set_here, set_there, same_bytes}

abbrev pub shown : CaseMap → List (Option Seat) → ℕ → MembersValue
shown case_map ps room = record { case_map = case_map; seats = filled ps; room = room }

-- ---- look-ups

pub seat_found : (case_map : CaseMap) (ps : List (Option Seat)) (f : List ℕ → Option ℕ) (nick : List ℕ) (n : ℕ) (o : Option Seat) → IsKept case_map ps f → place_in case_map f nick ≡ Some n → o ≡ get_or ps n o
    → o ≡ seat_of case_map nick (filled ps)
seat_found case_map ps f nick n o kept found is =
    let seat = one_named case_map ps f nick n kept found in
    let here : o ≡ Some seat.0 = is ∙ get_or_default ps n o None (seat_inside ps n seat.0 seat.1) ∙ seat.1 in
    here ∙ sym (found_at (is_named case_map nick) ps n seat.0 seat.1 seat.2 (others_named case_map ps f nick n kept found))

pub seat_missed : (case_map : CaseMap) (ps : List (Option Seat)) (f : List ℕ → Option ℕ) (nick : List ℕ) → IsKept case_map ps f → place_in case_map f nick ≡ None → None ≡ seat_of case_map nick (filled ps)
seat_missed case_map ps f nick kept none = sym (found_none (is_named case_map nick) ps (none_named case_map ps f nick kept none))

pub place_inside : (case_map : CaseMap) (ps : List (Option Seat)) (f : List ℕ → Option ℕ) (nick : List ℕ) (n : ℕ) → IsKept case_map ps f → place_in case_map f nick ≡ Some n → n < length ps
place_inside case_map ps f nick n kept found = let seat = one_named case_map ps f nick n kept found in seat_inside ps n seat.0 seat.1

pub nothing_taken : (case_map : CaseMap) (ps : List (Option Seat)) (f : List ℕ → Option ℕ) (nick : List ℕ) → IsKept case_map ps f → place_in case_map f nick ≡ None → filled ps ≡ without_seat case_map nick (filled ps)
nothing_taken case_map ps f nick kept none = sym (filled_none (is_named case_map nick) ps (none_named case_map ps f nick kept none))

-- ---- other modes

pub modes_missed : (case_map : CaseMap) (ps : List (Option Seat)) (f : List ℕ → Option ℕ) (nick : List ℕ) (modes : ModeSet) (room : ℕ) → IsKept case_map ps f → place_in case_map f nick ≡ None
    → shown case_map ps room ≡ with_seats (with_modes case_map nick modes) (shown case_map ps room)
modes_missed case_map ps f nick modes room kept none =
    let same = filled_same (is_named case_map nick) (under_modes modes) ps (none_named case_map ps f nick kept none) in
    λ i. record { case_map = case_map; seats = same i; room = room }

place_set : (change : Seat → Seat) (ps qs : List (Option Seat)) (n : ℕ) (s : Seat) → seat_at ps n ≡ Some s → qs ≡ slice_set ps n (option_map change (seat_at ps n)) → qs ≡ set ps n (Some (change s))
place_set change ps qs n s at is = is ∙ ap (λ o. set ps n (option_map change o)) at

counted_set : (change : Seat → Seat) (test : Seat → Bool) (ps qs : List (Option Seat)) (n count : ℕ) (s : Seat) → qs ≡ set ps n (Some (change s)) → filled (set ps n (Some (change s))) ≡ map (λ t. cond (test t) (change t) t) (filled ps)
    → AreCounted ps count → AreCounted qs count
counted_set change test ps qs n count s is filled_is counted =
    let size : length qs ≡ length ps = ap (λ (l : List (Option Seat)). length l) is ∙ length-set ps n (Some (change s)) in
    let many : length (filled qs) ≡ length (filled ps) = ap (λ (l : List (Option Seat)). length (filled l)) is ∙ ap (λ (l : List Seat). length l) filled_is ∙ length-map (filled ps) (λ t. cond (test t) (change t) t) in
    record { counted = counted.counted ∙ sym many; dense = subst (λ (k : ℕ). k / 2 ≤ count) (sym size) counted.dense }

pub modes_kept : (case_map : CaseMap) (ps qs : List (Option Seat)) (f : List ℕ → Option ℕ) (nick : List ℕ) (modes : ModeSet) (n count : ℕ) → IsKept case_map ps f → AreCounted ps count → place_in case_map f nick ≡ Some n
    → qs ≡ slice_set ps n (option_map (under_modes modes) (seat_at ps n)) → IsKept case_map qs f × AreCounted qs count
modes_kept case_map ps qs f nick modes n count kept counted found is =
    let seat = one_named case_map ps f nick n kept found in
    let inside = seat_inside ps n seat.0 seat.1 in
    let now = place_set (under_modes modes) ps qs n seat.0 seat.1 is in
    let here : seat_at qs n ≡ Some (under_modes modes seat.0) = ap (λ (l : List (Option Seat)). seat_at l n) now ∙ set_here ps n (Some (under_modes modes seat.0)) inside in
    let same : (m : ℕ) → m ≢ n → seat_at qs m ≡ seat_at ps m = λ m apart. ap (λ (l : List (Option Seat)). seat_at l m) now ∙ set_there ps n (Some (under_modes modes seat.0)) m apart in (
      kept_same case_map ps qs f n seat.0 (under_modes modes seat.0) kept seat.1 here refl same,
      counted_set (under_modes modes) (is_named case_map nick) ps qs n count seat.0 now (filled_changed (is_named case_map nick) (under_modes modes) ps n seat.0 seat.1 seat.2 (others_named case_map ps f nick n kept found)) counted,
    )

pub modes_put : (case_map : CaseMap) (ps qs : List (Option Seat)) (f : List ℕ → Option ℕ) (nick : List ℕ) (modes : ModeSet) (n room left : ℕ) → IsKept case_map ps f → place_in case_map f nick ≡ Some n
    → qs ≡ slice_set ps n (option_map (under_modes modes) (seat_at ps n)) → left ≡ room → shown case_map qs left ≡ with_seats (with_modes case_map nick modes) (shown case_map ps room)
modes_put case_map ps qs f nick modes n room left kept found is same_room =
    let seat = one_named case_map ps f nick n kept found in
    let now = place_set (under_modes modes) ps qs n seat.0 seat.1 is in
    let seats = ap filled now ∙ filled_changed (is_named case_map nick) (under_modes modes) ps n seat.0 seat.1 seat.2 (others_named case_map ps f nick n kept found) in
    λ i. record { case_map = case_map; seats = seats i; room = same_room i }

-- ---- a nick that comes

found_some : (test : Seat → Bool) (ps : List (Option Seat)) (n : ℕ) (s : Seat) → seat_at ps n ≡ Some s → test s ≡ true → is_some (find test (filled ps)) ≡ true
found_some test [] n s at pass = absurd (none-some s at)
found_some test (None ∷ ps) zero s at pass = absurd (none-some s at)
found_some test (None ∷ ps) (suc n) s at pass = found_some test ps n s at pass
found_some test (Some t ∷ ps) zero s at pass = ap (λ b. is_some (cond b (Some t) (find test (filled ps)))) (ap test (same_Some t s at) ∙ pass)
found_some test (Some t ∷ ps) (suc n) s at pass = by (test t) (found_some test ps n s at pass) where
  by : (b : Bool) → is_some (find test (filled ps)) ≡ true → is_some (cond b (Some t) (find test (filled ps))) ≡ true
  by true ih = refl
  by false ih = ih

pub absent_index : (case_map : CaseMap) (ps : List (Option Seat)) (f : List ℕ → Option ℕ) (nick : List ℕ) → IsKept case_map ps f → has_seat case_map nick (filled ps) ≡ false → f (folded_name case_map nick) ≡ None
absent_index case_map ps f nick kept absent = by (f (folded_name case_map nick)) refl where
  by : (o : Option ℕ) → f (folded_name case_map nick) ≡ o → o ≡ None
  by None e = refl
  by (Some n) e =
      let seat = key_seat case_map (folded_name case_map nick) (seat_at ps n) (kept.sound (folded_name case_map nick) n e) in
      let named : is_named case_map nick seat.0 ≡ true = same_bytes (folded_name case_map nick) (folded_name case_map seat.0.nick) (sym seat.2) in
      absurd (false≢true (sym absent ∙ found_some (is_named case_map nick) ps n seat.0 seat.1 named))

pub push_kept : (case_map : CaseMap) (ps qs : List (Option Seat)) (f g : List ℕ → Option ℕ) (n count : ℕ) (s : Seat) (key : List ℕ) → IsKept case_map ps f → AreCounted ps count → qs ≡ ps ++ Some s ∷ [] → n ≡ length ps
    → key ≡ folded_name case_map s.nick → length s.nick ≤ 64 → has_seat case_map s.nick (filled ps) ≡ false → ((q : List ℕ) → g q ≡ cond (bytes_eq key q) (Some n) (f q)) → IsKept case_map qs g × AreCounted qs (count + 1)
push_kept case_map ps qs f g n count s key kept counted is end keyed few absent after = (
  kept_put case_map ps qs f g n s key kept keyed (ap f keyed ∙ absent_index case_map ps f s.nick kept absent) few same here after (get_or_past ps n None (omega arith)),
  counts,
) where
  here : seat_at qs n ≡ Some s
  here = ap (λ (l : List (Option Seat)). seat_at l n) is ∙ get_or_push ps (Some s) None n (sym end)

  same : (m : ℕ) → m ≢ n → seat_at qs m ≡ seat_at ps m
  same m apart = ap (λ (l : List (Option Seat)). seat_at l m) is ∙ by (cases_before m) where
    cases_before : (m : ℕ) → (m < length ps) ⊎ (length ps ≤ m)
    cases_before m = cases_lt m (length ps)

    by : (m < length ps) ⊎ (length ps ≤ m) → seat_at (ps ++ Some s ∷ []) m ≡ seat_at ps m
    by (inl below) = get_or_append_left ps (Some s ∷ []) None m below
    by (inr above) =
        get_or_past (ps ++ Some s ∷ []) m None (omega (arith, length-append ps (Some s ∷ [])))
        ∙ sym (get_or_past ps m None above)

  counts : AreCounted qs (count + 1)
  counts =
      let size : length qs ≡ length ps + 1 = ap (λ (l : List (Option Seat)). length l) is ∙ length-append ps (Some s ∷ []) in
      let many : length (filled qs) ≡ length (filled ps) + 1 = ap (λ (l : List (Option Seat)). length (filled l)) is ∙ ap (λ (l : List Seat). length l) (filled_push ps s) ∙ length-append (filled ps) (s ∷ []) in
      record { counted = omega (arith, counted.counted, many); dense = omega (arith, counted.dense, size) }

-- ---- another name

pub rename_kept : (case_map : CaseMap) (ps qs : List (Option Seat)) (f h g : List ℕ → Option ℕ) (old new key : List ℕ) (n count : ℕ) → IsKept case_map ps f → AreCounted ps count → place_in case_map f old ≡ Some n
    → ((q : List ℕ) → h q ≡ cond (bytes_eq (folded_name case_map old) q) None (f q)) → ((q : List ℕ) → g q ≡ cond (bytes_eq key q) (Some n) (h q)) → key ≡ folded_name case_map new → length new ≤ 64
    → has_seat case_map new (without_seat case_map old (filled ps)) ≡ false → qs ≡ slice_set ps n (option_map (under_name new) (seat_at ps n)) → IsKept case_map qs g × AreCounted qs count
rename_kept case_map ps qs f h g old new key n count kept counted found gone after keyed few absent is =
    let seat = one_named case_map ps f old n kept found in
    let others = others_named case_map ps f old n kept found in
    let inside = seat_inside ps n seat.0 seat.1 in
    let now = place_set (under_name new) ps qs n seat.0 seat.1 is in
    let between = kept_take case_map ps (set ps n None) f h n (folded_name case_map old) kept (place_index case_map f old n found) (set_there ps n None) (set_here ps n None inside) gone in
    let free : has_seat case_map new (filled (set ps n None)) ≡ false = ap (has_seat case_map new) (filled_take (is_named case_map old) ps n seat.0 seat.1 seat.2 others) ∙ absent in
    let here : seat_at qs n ≡ Some (under_name new seat.0) = ap (λ (l : List (Option Seat)). seat_at l n) now ∙ set_here ps n (Some (under_name new seat.0)) inside in
    let same : (m : ℕ) → m ≢ n → seat_at qs m ≡ seat_at (set ps n None) m = λ m apart.
    ap (λ (l : List (Option Seat)). seat_at l m) now ∙ set_there ps n (Some (under_name new seat.0)) m apart ∙ sym (set_there ps n None m apart) in (
      kept_put case_map (set ps n None) qs h g n (under_name new seat.0) key between keyed (ap h keyed ∙ absent_index case_map (set ps n None) h new between free) few same here after (set_here ps n None inside),
      counted_set (under_name new) (is_named case_map old) ps qs n count seat.0 now (filled_changed (is_named case_map old) (under_name new) ps n seat.0 seat.1 seat.2 others) counted,
    )

pub name_put : (case_map : CaseMap) (ps qs : List (Option Seat)) (f : List ℕ → Option ℕ) (old new : List ℕ) (n : ℕ) → IsKept case_map ps f → place_in case_map f old ≡ Some n → qs ≡ slice_set ps n (option_map (under_name new) (seat_at ps n))
    → filled qs ≡ with_name case_map old new (filled ps)
name_put case_map ps qs f old new n kept found is =
    let seat = one_named case_map ps f old n kept found in
    let now = place_set (under_name new) ps qs n seat.0 seat.1 is in
    ap filled now ∙ filled_changed (is_named case_map old) (under_name new) ps n seat.0 seat.1 seat.2 (others_named case_map ps f old n kept found)

-- a list without the nick has no place for it
pub missed : (case_map : CaseMap) (ps : List (Option Seat)) (f : List ℕ → Option ℕ) (nick : List ℕ) → IsKept case_map ps f → place_in case_map f nick ≡ None → has_seat case_map nick (filled ps) ≡ false
missed case_map ps f nick kept none = ap is_some (sym (seat_missed case_map ps f nick kept none))

-- ---- no two nicks are the same

suc_same : (a b : ℕ) → suc a ≡ suc b → a ≡ b
suc_same a b e = omega arith

apart_by : (case_map : CaseMap) (ps : List (Option Seat)) → ((n m : ℕ) (s t : Seat) → seat_at ps n ≡ Some s → seat_at ps m ≡ Some t → is_named case_map s.nick t ≡ true → n ≡ m) → AreApart case_map (filled ps)
apart_by case_map [] one = tt
apart_by case_map (None ∷ ps) one = apart_by case_map ps (λ n m s t at there same. suc_same n m (one (suc n) (suc m) s t at there same))
apart_by case_map (Some s ∷ ps) one = (
  ap is_some (found_none (is_named case_map s.nick) ps others),
  apart_by case_map ps (λ n m s t at there same. suc_same n m (one (suc n) (suc m) s t at there same)),
) where
  others : (m : ℕ) (t : Seat) → seat_at ps m ≡ Some t → is_named case_map s.nick t ≡ false
  others m t at = by (is_named case_map s.nick t) refl where
    by : (b : Bool) → is_named case_map s.nick t ≡ b → b ≡ false
    by true e = let same : zero ≡ suc m = one zero (suc m) s t refl at e in absurd (omega arith)
    by false e = refl

pub kept_apart : (case_map : CaseMap) (ps : List (Option Seat)) (f : List ℕ → Option ℕ) → IsKept case_map ps f → AreApart case_map (filled ps)
kept_apart case_map ps f kept = apart_by case_map ps (λ n m s t at there same.
    let keys = (bytes_decides (folded_name case_map s.nick) (folded_name case_map t.nick)).0 same in
    same_Some n m (sym (kept.complete n s at) ∙ ap f keys ∙ kept.complete m t there))

-- a nick that has a place is no longer than a key may be
pub short_placed : (case_map : CaseMap) (f : List ℕ → Option ℕ) (nick : List ℕ) (n : ℕ) → place_in case_map f nick ≡ Some n → length nick ≤ 64
short_placed case_map f nick n found = by (nat_le (length nick) 64) refl found where
  by : (t : Bool) → nat_le (length nick) 64 ≡ t → cond t (f (folded_name case_map nick)) None ≡ Some n → length nick ≤ 64
  by true e found = grind (arith, nat_tests)
  by false e found = absurd (none-some n found)

-- ---- which names may be given

named_same : (case_map : CaseMap) (old new : List ℕ) (t : Seat) → is_same case_map old new ≡ true → is_named case_map old t ≡ is_named case_map new t
named_same case_map old new t same = ap (λ k. bytes_eq k (folded_name case_map t.nick)) ((bytes_decides (folded_name case_map old) (folded_name case_map new)).0 same)

named_apart : (case_map : CaseMap) (old new : List ℕ) (t : Seat) → is_same case_map old new ≡ false → is_named case_map old t ≡ true → is_named case_map new t ≡ false
named_apart case_map old new t other is = by (is_named case_map new t) refl where
  by : (b : Bool) → is_named case_map new t ≡ b → b ≡ false
  by true e = absurd (false≢true (sym other ∙ same_bytes (folded_name case_map old) (folded_name case_map new)
      ((bytes_decides (folded_name case_map old) (folded_name case_map t.nick)).0 is ∙ sym ((bytes_decides (folded_name case_map new) (folded_name case_map t.nick)).0 e))))
  by false e = refl

left_same : (case_map : CaseMap) (old new : List ℕ) (seats : List Seat) → is_same case_map old new ≡ true → has_seat case_map new (without_seat case_map old seats) ≡ false
left_same case_map old new [] same = refl
left_same case_map old new (t ∷ seats) same = by (is_named case_map old t) refl (left_same case_map old new seats same) where
  by : (b : Bool) → is_named case_map old t ≡ b → has_seat case_map new (without_seat case_map old seats) ≡ false
      → has_seat case_map new (cond (not b) (t ∷ without_seat case_map old seats) (without_seat case_map old seats)) ≡ false
  by true e ih = ih
  by false e ih = ap (λ c. is_some (cond c (Some t) (seat_of case_map new (without_seat case_map old seats)))) (sym (named_same case_map old new t same) ∙ e) ∙ ih

left_apart : (case_map : CaseMap) (old new : List ℕ) (seats : List Seat) → is_same case_map old new ≡ false → has_seat case_map new (without_seat case_map old seats) ≡ has_seat case_map new seats
left_apart case_map old new [] other = refl
left_apart case_map old new (t ∷ seats) other = by (is_named case_map old t) refl (left_apart case_map old new seats other) where
  by : (b : Bool) → is_named case_map old t ≡ b → has_seat case_map new (without_seat case_map old seats) ≡ has_seat case_map new seats
      → has_seat case_map new (cond (not b) (t ∷ without_seat case_map old seats) (without_seat case_map old seats)) ≡ has_seat case_map new (t ∷ seats)
  by true e ih = ih ∙ sym (ap (λ c. is_some (cond c (Some t) (seat_of case_map new seats))) (named_apart case_map old new t other e))
  by false e ih = kept (is_named case_map new t) ih where
    kept : (c : Bool) → has_seat case_map new (without_seat case_map old seats) ≡ has_seat case_map new seats
        → is_some (cond c (Some t) (seat_of case_map new (without_seat case_map old seats))) ≡ is_some (cond c (Some t) (seat_of case_map new seats))
    kept true ih = refl
    kept false ih = ih

pub may_have : (case_map : CaseMap) (old new : List ℕ) (seats : List Seat) → (is_same case_map old new || not (has_seat case_map new seats)) ≡ not (has_seat case_map new (without_seat case_map old seats))
may_have case_map old new seats = by (is_same case_map old new) refl where
  by : (b : Bool) → is_same case_map old new ≡ b → (b || not (has_seat case_map new seats)) ≡ not (has_seat case_map new (without_seat case_map old seats))
  by true e = sym (ap not (left_same case_map old new seats e))
  by false e = sym (ap not (left_apart case_map old new seats e))

-- How the places of nicks, and the index to them, change together.
use Rattle.std.proofs.Common.{◌≡◌, ◌≢◌, ℕ, zero, suc, ◌+◌, ◌≤◌, ◌<◌, Bool, true, false, cond, List, [], ◌∷◌, ◌++◌, length, set, map, filter, Option, Some, None, refl, ap, sym, ◌∙◌, subst, arith, inl, inr}
use Rattle.std.specs.Prelude.{not, find, bytes_eq, is_some, nat_le, IsSome}
use Rattle.std.specs.Cmp.Lexicographic.{bytes_decides}
use Rattle.std.proofs.lemmas.Bool.{cases_eq, false≢true}
use Rattle.std.proofs.lemmas.Bool.Decides.{nat_tests}
use Rattle.std.proofs.lemmas.List.{get_or-set_same, get_or-set_other}
use Rattle.std.proofs.lemmas.Option.{same_Some, none-some}
use Rattle.wc_ircmsg.specs.declared.case_map.CaseMap.{CaseMap}
use Rattle.wc_ircmsg.specs.CaseMaps.{folded_name}
use Rattle.wc_irc_texts.specs.declared.seat.Seat.{Seat}
use Rattle.wc_irc_nicks.specs.Kept.{filled, seat_at, place_in, HasKey, IsKept, CanMove, IsNoted}
use Rattle.wc_irc_nicks.specs.Seats.{is_named}

by_test : {P : Type 0} (b : Bool) → (b ≡ true → P) → (b ≡ false → P) → P
by_test true is other = is refl
by_test false is other = other refl

if_true : {A : Type 0} (b : Bool) (x y : A) → b ≡ true → cond b x y ≡ x
if_true b x y e = ap (λ t. cond t x y) e

if_false : {A : Type 0} (b : Bool) (x y : A) → b ≡ false → cond b x y ≡ y
if_false b x y e = ap (λ t. cond t x y) e

pub same_bytes : (a b : List ℕ) → a ≡ b → bytes_eq a b ≡ true
same_bytes a b e = (bytes_decides a b).1 e

-- ---- places

pub seat_inside : (ps : List (Option Seat)) (n : ℕ) (s : Seat) → seat_at ps n ≡ Some s → n < length ps
seat_inside [] n s at = absurd (cc)
seat_inside (p ∷ ps) zero s at = omega arith
seat_inside (p ∷ ps) (suc n) s at = omega (arith, seat_inside ps n s at)

pub key_seat : (case_map : CaseMap) (key : List ℕ) (o : Option Seat) → HasKey case_map key o → (s : Seat) × (o ≡ Some s) × (folded_name case_map s.nick ≡ key)
key_seat case_map key None has = absurd has
key_seat case_map key (Some s) has = (s, refl, has)

pub key_at : (case_map : CaseMap) (key : List ℕ) (o : Option Seat) (s : Seat) → o ≡ Some s → folded_name case_map s.nick ≡ key → HasKey case_map key o
key_at case_map key o s at keyed = subst (λ (o : Option Seat). HasKey case_map key o) (sym at) keyed

-- ---- the place of a nick

pub place_index : (case_map : CaseMap) (f : List ℕ → Option ℕ) (nick : List ℕ) (n : ℕ) → place_in case_map f nick ≡ Some n → f (folded_name case_map nick) ≡ Some n
place_index case_map f nick n found = by (nat_le (length nick) 64) found where
  by : (t : Bool) → cond t (f (folded_name case_map nick)) None ≡ Some n → f (folded_name case_map nick) ≡ Some n
  by true found = found
  by false found = absurd (none-some n found)

-- where the index finds none, no nick is named so
pub none_named : (case_map : CaseMap) (ps : List (Option Seat)) (f : List ℕ → Option ℕ) (nick : List ℕ) → IsKept case_map ps f → place_in case_map f nick ≡ None
    → (m : ℕ) (t : Seat) → seat_at ps m ≡ Some t → is_named case_map nick t ≡ false
none_named case_map ps f nick kept none m t at = by_test (is_named case_map nick t) named (λ e. e) where
  named : is_named case_map nick t ≡ true → is_named case_map nick t ≡ false
  named e =
      let keys = (bytes_decides (folded_name case_map nick) (folded_name case_map t.nick)).0 e in
      let here : f (folded_name case_map nick) ≡ Some m = ap f keys ∙ kept.complete m t at in
      let size : length nick ≡ length t.nick = lengths nick t.nick keys in
      let few : nat_le (length nick) 64 ≡ true = fits (length nick) (omega (arith, size, kept.short m t at)) in
      absurd (none-some m (sym none ∙ if_true (nat_le (length nick) 64) (f (folded_name case_map nick)) None few ∙ here)) where
        fits : (n : ℕ) → n ≤ 64 → nat_le n 64 ≡ true
        fits n h = grind (arith, nat_tests)

        lengths : (a b : List ℕ) → folded_name case_map a ≡ folded_name case_map b → length a ≡ length b
        lengths a b same = sym (size_of a) ∙ ap length same ∙ size_of b where
          size_of : (a : List ℕ) → length (folded_name case_map a) ≡ length a
          size_of [] = refl
          size_of (x ∷ a) = ap suc (size_of a)

-- the nick that the index finds, and that no other place has
pub one_named : (case_map : CaseMap) (ps : List (Option Seat)) (f : List ℕ → Option ℕ) (nick : List ℕ) (n : ℕ) → IsKept case_map ps f → place_in case_map f nick ≡ Some n
    → (s : Seat) × (seat_at ps n ≡ Some s) × (is_named case_map nick s ≡ true)
one_named case_map ps f nick n kept found =
    let seat = key_seat case_map (folded_name case_map nick) (seat_at ps n) (kept.sound (folded_name case_map nick) n (place_index case_map f nick n found)) in
    (seat.0, seat.1, same_bytes (folded_name case_map nick) (folded_name case_map seat.0.nick) (sym seat.2))

pub others_named : (case_map : CaseMap) (ps : List (Option Seat)) (f : List ℕ → Option ℕ) (nick : List ℕ) (n : ℕ) → IsKept case_map ps f → place_in case_map f nick ≡ Some n
    → (m : ℕ) (t : Seat) → m ≢ n → seat_at ps m ≡ Some t → is_named case_map nick t ≡ false
others_named case_map ps f nick n kept found m t apart at = by_test (is_named case_map nick t) named (λ e. e) where
  named : is_named case_map nick t ≡ true → is_named case_map nick t ≡ false
  named e =
      let keys = (bytes_decides (folded_name case_map nick) (folded_name case_map t.nick)).0 e in
      absurd (apart (same_Some m n (sym (kept.complete m t at) ∙ ap f (sym keys) ∙ place_index case_map f nick n found)))

-- ---- what is at the filled places, by a test that one place passes

pub filled_none : (test : Seat → Bool) (ps : List (Option Seat)) → ((m : ℕ) (t : Seat) → seat_at ps m ≡ Some t → test t ≡ false) → filter (λ t. not (test t)) (filled ps) ≡ filled ps
filled_none test [] fails = refl
filled_none test (None ∷ ps) fails = filled_none test ps (λ m t at. fails (suc m) t at)
filled_none test (Some t ∷ ps) fails =
    if_true (not (test t)) (t ∷ filter (λ t. not (test t)) (filled ps)) (filter (λ t. not (test t)) (filled ps)) (ap not (fails 0 t refl))
    ∙ ap (λ l. t ∷ l) (filled_none test ps (λ m t at. fails (suc m) t at))

zero_apart : (m : ℕ) → suc m ≢ zero
zero_apart m = λ e. absurd (omega arith)

suc_apart : (m n : ℕ) → m ≢ n → suc m ≢ suc n
suc_apart m n apart = λ e. apart (omega arith)

first_apart : (n : ℕ) → zero ≢ suc n
first_apart n = λ e. absurd (omega arith)

pub filled_take : (test : Seat → Bool) (ps : List (Option Seat)) (n : ℕ) (s : Seat) → seat_at ps n ≡ Some s → test s ≡ true → ((m : ℕ) (t : Seat) → m ≢ n → seat_at ps m ≡ Some t → test t ≡ false)
    → filled (set ps n None) ≡ filter (λ t. not (test t)) (filled ps)
filled_take test [] n s at pass fails = absurd (cc)
filled_take test (None ∷ ps) zero s at pass fails = absurd (cc)
filled_take test (Some t ∷ ps) zero s at pass fails =
    sym (if_false (not (test t)) (t ∷ filter (λ t. not (test t)) (filled ps)) (filter (λ t. not (test t)) (filled ps)) (ap (λ u. not (test u)) (same_Some t s at) ∙ ap not pass)
    ∙ filled_none test ps (λ m t at. fails (suc m) t (zero_apart m) at))
filled_take test (None ∷ ps) (suc n) s at pass fails = filled_take test ps n s at pass (λ m t apart at. fails (suc m) t (suc_apart m n apart) at)
filled_take test (Some t ∷ ps) (suc n) s at pass fails =
    ap (λ l. t ∷ l) (filled_take test ps n s at pass (λ m t apart at. fails (suc m) t (suc_apart m n apart) at))
    ∙ sym (if_true (not (test t)) (t ∷ filter (λ t. not (test t)) (filled ps)) (filter (λ t. not (test t)) (filled ps)) (ap not (fails 0 t (first_apart n) refl)))

pub filled_fewer : (ps : List (Option Seat)) (n : ℕ) (s : Seat) → seat_at ps n ≡ Some s → length (filled ps) ≡ length (filled (set ps n None)) + 1
filled_fewer [] n s at = absurd (cc)
filled_fewer (None ∷ ps) zero s at = absurd (cc)
filled_fewer (Some t ∷ ps) zero s at = omega arith
filled_fewer (None ∷ ps) (suc n) s at = filled_fewer ps n s at
filled_fewer (Some t ∷ ps) (suc n) s at = omega (arith, filled_fewer ps n s at)

abbrev changed : (Seat → Bool) → (Seat → Seat) → Seat → Seat
changed test h t = cond (test t) (h t) t

pub filled_same : (test : Seat → Bool) (h : Seat → Seat) (ps : List (Option Seat)) → ((m : ℕ) (t : Seat) → seat_at ps m ≡ Some t → test t ≡ false) → filled ps ≡ map (changed test h) (filled ps)
filled_same test h [] fails = refl
filled_same test h (None ∷ ps) fails = filled_same test h ps (λ m t at. fails (suc m) t at)
filled_same test h (Some t ∷ ps) fails =
    let here : changed test h t ≡ t = if_false (test t) (h t) t (fails 0 t refl) in
    let rest = filled_same test h ps (λ m t at. fails (suc m) t at) in
    λ i. sym here i ∷ rest i

pub filled_changed : (test : Seat → Bool) (h : Seat → Seat) (ps : List (Option Seat)) (n : ℕ) (s : Seat) → seat_at ps n ≡ Some s → test s ≡ true → ((m : ℕ) (t : Seat) → m ≢ n → seat_at ps m ≡ Some t → test t ≡ false)
    → filled (set ps n (Some (h s))) ≡ map (changed test h) (filled ps)
filled_changed test h [] n s at pass fails = absurd (cc)
filled_changed test h (None ∷ ps) zero s at pass fails = absurd (cc)
filled_changed test h (Some t ∷ ps) zero s at pass fails =
    let here : changed test h t ≡ h s = ap (changed test h) (same_Some t s at) ∙ if_true (test s) (h s) s pass in
    let rest = filled_same test h ps (λ m t at. fails (suc m) t (zero_apart m) at) in
    λ i. sym here i ∷ rest i
filled_changed test h (None ∷ ps) (suc n) s at pass fails = filled_changed test h ps n s at pass (λ m t apart at. fails (suc m) t (suc_apart m n apart) at)
filled_changed test h (Some t ∷ ps) (suc n) s at pass fails =
    let here : changed test h t ≡ t = if_false (test t) (h t) t (fails 0 t (first_apart n) refl) in
    let rest = filled_changed test h ps n s at pass (λ m t apart at. fails (suc m) t (suc_apart m n apart) at) in
    λ i. sym here i ∷ rest i

pub found_none : (test : Seat → Bool) (ps : List (Option Seat)) → ((m : ℕ) (t : Seat) → seat_at ps m ≡ Some t → test t ≡ false) → find test (filled ps) ≡ None
found_none test [] fails = refl
found_none test (None ∷ ps) fails = found_none test ps (λ m t at. fails (suc m) t at)
found_none test (Some t ∷ ps) fails = if_false (test t) (Some t) (find test (filled ps)) (fails 0 t refl) ∙ found_none test ps (λ m t at. fails (suc m) t at)

pub found_at : (test : Seat → Bool) (ps : List (Option Seat)) (n : ℕ) (s : Seat) → seat_at ps n ≡ Some s → test s ≡ true → ((m : ℕ) (t : Seat) → m ≢ n → seat_at ps m ≡ Some t → test t ≡ false) → find test (filled ps) ≡ Some s
found_at test [] n s at pass fails = absurd (cc)
found_at test (None ∷ ps) zero s at pass fails = absurd (cc)
found_at test (Some t ∷ ps) zero s at pass fails = if_true (test t) (Some t) (find test (filled ps)) (ap test (same_Some t s at) ∙ pass) ∙ at
found_at test (None ∷ ps) (suc n) s at pass fails = found_at test ps n s at pass (λ m t apart at. fails (suc m) t (suc_apart m n apart) at)
found_at test (Some t ∷ ps) (suc n) s at pass fails =
    if_false (test t) (Some t) (find test (filled ps)) (fails 0 t (first_apart n) refl) ∙ found_at test ps n s at pass (λ m t apart at. fails (suc m) t (suc_apart m n apart) at)

pub filled_push : (ps : List (Option Seat)) (s : Seat) → filled (ps ++ Some s ∷ []) ≡ filled ps ++ s ∷ []
filled_push [] s = refl
filled_push (None ∷ ps) s = filled_push ps s
filled_push (Some t ∷ ps) s = ap (λ l. t ∷ l) (filled_push ps s)

pub filled_le : (ps : List (Option Seat)) → length (filled ps) ≤ length ps
filled_le [] = omega arith
filled_le (None ∷ ps) = omega (arith, filled_le ps)
filled_le (Some t ∷ ps) = omega (arith, filled_le ps)

-- ---- the index after a nick went

pub kept_take : (case_map : CaseMap) (ps qs : List (Option Seat)) (f g : List ℕ → Option ℕ) (n : ℕ) (key : List ℕ) → IsKept case_map ps f → f key ≡ Some n
    → ((m : ℕ) → m ≢ n → seat_at qs m ≡ seat_at ps m) → seat_at qs n ≡ None → ((q : List ℕ) → g q ≡ cond (bytes_eq key q) None (f q)) → IsKept case_map qs g
kept_take case_map ps qs f g n key kept found same gone after = record {
  sound = sound;
  complete = λ m s at. complete m s at (old m s at);
  short = λ m s at. kept.short m s (old m s at).1;
} where
  old : (m : ℕ) (s : Seat) → seat_at qs m ≡ Some s → (m ≢ n) × (seat_at ps m ≡ Some s)
  old m s at =
      let apart : m ≢ n = λ e. none-some s (sym gone ∙ ap (seat_at qs) (sym e) ∙ at) in
      (apart, sym (same m apart) ∙ at)

  complete : (m : ℕ) (s : Seat) → seat_at qs m ≡ Some s → (m ≢ n) × (seat_at ps m ≡ Some s) → g (folded_name case_map s.nick) ≡ Some m
  complete m s at was = by_test (bytes_eq key (folded_name case_map s.nick))
      (λ e. absurd (was.0 (same_Some m n (sym (kept.complete m s was.1) ∙ ap f (sym ((bytes_decides key (folded_name case_map s.nick)).0 e)) ∙ found))))
      (λ e. after (folded_name case_map s.nick) ∙ if_false (bytes_eq key (folded_name case_map s.nick)) None (f (folded_name case_map s.nick)) e ∙ kept.complete m s was.1)

  sound : (q : List ℕ) (m : ℕ) → g q ≡ Some m → HasKey case_map q (seat_at qs m)
  sound q m here = by_test (bytes_eq key q)
      (λ e. absurd (none-some m (sym (if_true (bytes_eq key q) None (f q) e) ∙ sym (after q) ∙ here)))
      (λ e. other e (sym (if_false (bytes_eq key q) None (f q) e) ∙ sym (after q) ∙ here)) where
        other : bytes_eq key q ≡ false → f q ≡ Some m → HasKey case_map q (seat_at qs m)
        other e was = elim (cases_eq m n) [
          | inl same_place ↦
              let first = key_seat case_map q (seat_at ps m) (kept.sound q m was) in
              let second = key_seat case_map key (seat_at ps n) (kept.sound key n found) in
              let one : first.0 ≡ second.0 = same_Some first.0 second.0 (sym first.1 ∙ ap (seat_at ps) same_place ∙ second.1) in
              absurd (false≢true (sym e ∙ same_bytes key q (sym second.2 ∙ ap (λ (s : Seat). folded_name case_map s.nick) (sym one) ∙ first.2)))
          | inr apart ↦ subst (λ (o : Option Seat). HasKey case_map q o) (sym (same m apart)) (kept.sound q m was)
        ]

-- the index after a nick came to a place that was a hole, or the end
pub kept_put : (case_map : CaseMap) (ps qs : List (Option Seat)) (f g : List ℕ → Option ℕ) (n : ℕ) (s : Seat) (key : List ℕ) → IsKept case_map ps f → key ≡ folded_name case_map s.nick → f key ≡ None → length s.nick ≤ 64
    → ((m : ℕ) → m ≢ n → seat_at qs m ≡ seat_at ps m) → seat_at qs n ≡ Some s → ((q : List ℕ) → g q ≡ cond (bytes_eq key q) (Some n) (f q)) → seat_at ps n ≡ None → IsKept case_map qs g
kept_put case_map ps qs f g n s key kept keyed absent few same here after hole = record { sound = sound; complete = complete; short = short } where
  short : (m : ℕ) (t : Seat) → seat_at qs m ≡ Some t → length t.nick ≤ 64
  short m t at = elim (cases_eq m n) [
    | inl e ↦ subst (λ (u : Seat). length u.nick ≤ 64) (same_Some s t (sym here ∙ ap (seat_at qs) (sym e) ∙ at)) few
    | inr apart ↦ kept.short m t (sym (same m apart) ∙ at)
  ]

  complete : (m : ℕ) (t : Seat) → seat_at qs m ≡ Some t → g (folded_name case_map t.nick) ≡ Some m
  complete m t at = elim (cases_eq m n) [
    | inl e ↦
        let one : s ≡ t = same_Some s t (sym here ∙ ap (seat_at qs) (sym e) ∙ at) in
        let keys : key ≡ folded_name case_map t.nick = keyed ∙ ap (λ (u : Seat). folded_name case_map u.nick) one in
        after (folded_name case_map t.nick) ∙ if_true (bytes_eq key (folded_name case_map t.nick)) (Some n) (f (folded_name case_map t.nick)) (same_bytes key (folded_name case_map t.nick) keys) ∙ ap Some (sym e)
    | inr apart ↦ other (sym (same m apart) ∙ at)
  ] where
    other : seat_at ps m ≡ Some t → g (folded_name case_map t.nick) ≡ Some m
    other was = by_test (bytes_eq key (folded_name case_map t.nick))
        (λ e. absurd (none-some m (sym absent ∙ ap f ((bytes_decides key (folded_name case_map t.nick)).0 e) ∙ kept.complete m t was)))
        (λ e. after (folded_name case_map t.nick) ∙ if_false (bytes_eq key (folded_name case_map t.nick)) (Some n) (f (folded_name case_map t.nick)) e ∙ kept.complete m t was)

  sound : (q : List ℕ) (m : ℕ) → g q ≡ Some m → HasKey case_map q (seat_at qs m)
  sound q m found = by_test (bytes_eq key q)
      (λ e.
      let place : n ≡ m = same_Some n m (sym (if_true (bytes_eq key q) (Some n) (f q) e) ∙ sym (after q) ∙ found) in
      key_at case_map q (seat_at qs m) s (ap (seat_at qs) (sym place) ∙ here) (sym keyed ∙ (bytes_decides key q).0 e))
      (λ e. other (sym (if_false (bytes_eq key q) (Some n) (f q) e) ∙ sym (after q) ∙ found)) where
        other : f q ≡ Some m → HasKey case_map q (seat_at qs m)
        other was = elim (cases_eq m n) [
          | inl e ↦ absurd (none_keyed (seat_at ps m) (ap (seat_at ps) e ∙ hole) (kept.sound q m was))
          | inr apart ↦ subst (λ (o : Option Seat). HasKey case_map q o) (sym (same m apart)) (kept.sound q m was)
        ] where
          none_keyed : (o : Option Seat) → o ≡ None → HasKey case_map q o → ⊥
          none_keyed o none has = let seat = key_seat case_map q o has in none-some seat.0 (sym none ∙ seat.1)

-- other modes change no key
pub kept_same : (case_map : CaseMap) (ps qs : List (Option Seat)) (f : List ℕ → Option ℕ) (n : ℕ) (s t : Seat) → IsKept case_map ps f → seat_at ps n ≡ Some s → seat_at qs n ≡ Some t → t.nick ≡ s.nick
    → ((m : ℕ) → m ≢ n → seat_at qs m ≡ seat_at ps m) → IsKept case_map qs f
kept_same case_map ps qs f n s t kept was here nick same = record {
  sound = λ q m found. sound q m (kept.sound q m found);
  complete = complete;
  short = short;
} where
  one : (m : ℕ) (u : Seat) → m ≡ n → seat_at qs m ≡ Some u → u.nick ≡ s.nick
  one m u e at = ap (λ (v : Seat). v.nick) (same_Some u t (sym at ∙ ap (seat_at qs) e ∙ here)) ∙ nick

  short : (m : ℕ) (u : Seat) → seat_at qs m ≡ Some u → length u.nick ≤ 64
  short m u at = elim (cases_eq m n) [
    | inl e ↦ subst (λ (x : List ℕ). length x ≤ 64) (sym (one m u e at)) (kept.short n s was)
    | inr apart ↦ kept.short m u (sym (same m apart) ∙ at)
  ]

  complete : (m : ℕ) (u : Seat) → seat_at qs m ≡ Some u → f (folded_name case_map u.nick) ≡ Some m
  complete m u at = elim (cases_eq m n) [
    | inl e ↦ ap (λ x. f (folded_name case_map x)) (one m u e at) ∙ kept.complete n s was ∙ ap Some (sym e)
    | inr apart ↦ kept.complete m u (sym (same m apart) ∙ at)
  ]

  sound : (q : List ℕ) (m : ℕ) → HasKey case_map q (seat_at ps m) → HasKey case_map q (seat_at qs m)
  sound q m has = elim (cases_eq m n) [
    | inl e ↦
        let seat = key_seat case_map q (seat_at ps m) has in
        let old : seat.0 ≡ s = same_Some seat.0 s (sym seat.1 ∙ ap (seat_at ps) e ∙ was) in
        key_at case_map q (seat_at qs m) t (ap (seat_at qs) e ∙ here) (ap (folded_name case_map) (nick ∙ ap (λ (v : Seat). v.nick) (sym old)) ∙ seat.2)
    | inr apart ↦ subst (λ (o : Option Seat). HasKey case_map q o) (sym (same m apart)) has
  ]

-- ---- one place set

pub set_here : (ps : List (Option Seat)) (n : ℕ) (o : Option Seat) → n < length ps → seat_at (set ps n o) n ≡ o
set_here ps n o inside = get_or-set_same ps n o None inside

pub set_there : (ps : List (Option Seat)) (n : ℕ) (o : Option Seat) (m : ℕ) → m ≢ n → seat_at (set ps n o) m ≡ seat_at ps m
set_there ps n o m apart = get_or-set_other ps n m o None apart

-- ---- holes taken out

abbrev solid : List (Option Seat) → List (Option Seat)
solid ps = filter (is_some {T = Seat}) ps

pub filled-solid : (ps : List (Option Seat)) → filled (solid ps) ≡ filled ps
filled-solid [] = refl
filled-solid (None ∷ ps) = filled-solid ps
filled-solid (Some t ∷ ps) = ap (λ l. t ∷ l) (filled-solid ps)

pub length-solid : (ps : List (Option Seat)) → length (solid ps) ≡ length (filled (solid ps))
length-solid [] = refl
length-solid (None ∷ ps) = length-solid ps
length-solid (Some t ∷ ps) = ap suc (length-solid ps)

-- where a place was before
old_place : List (Option Seat) → ℕ → ℕ
old_place [] m = m
old_place (None ∷ ps) m = suc (old_place ps m)
old_place (Some t ∷ ps) zero = zero
old_place (Some t ∷ ps) (suc m) = suc (old_place ps m)

was_there : (ps : List (Option Seat)) (m : ℕ) (s : Seat) → seat_at (solid ps) m ≡ Some s → seat_at ps (old_place ps m) ≡ Some s
unfolding old_place
was_there [] m s at = absurd (none-some s at)
was_there (None ∷ ps) m s at = was_there ps m s at
was_there (Some t ∷ ps) zero s at = at
was_there (Some t ∷ ps) (suc m) s at = was_there ps m s at

suc_same : (a b : ℕ) → suc a ≡ suc b → a ≡ b
suc_same a b e = omega arith

old_apart : (ps : List (Option Seat)) (m k : ℕ) → old_place ps m ≡ old_place ps k → m ≡ k
unfolding old_place
old_apart [] m k e = e
old_apart (None ∷ ps) m k e = old_apart ps m k (suc_same (old_place ps m) (old_place ps k) e)
old_apart (Some t ∷ ps) zero zero e = refl
old_apart (Some t ∷ ps) zero (suc k) e = absurd (omega arith)
old_apart (Some t ∷ ps) (suc m) zero e = absurd (omega arith)
old_apart (Some t ∷ ps) (suc m) (suc k) e = ap suc (old_apart ps m k (suc_same (old_place ps m) (old_place ps k) e))

new_place : (ps : List (Option Seat)) (k : ℕ) (s : Seat) → seat_at ps k ≡ Some s → (m : ℕ) × (seat_at (solid ps) m ≡ Some s)
new_place [] k s at = absurd (none-some s at)
new_place (None ∷ ps) zero s at = absurd (none-some s at)
new_place (None ∷ ps) (suc k) s at = new_place ps k s at
new_place (Some t ∷ ps) zero s at = (0, at)
new_place (Some t ∷ ps) (suc k) s at = let there = new_place ps k s at in (suc there.0, there.1)

some_found : {A : Type 0} (o : Option A) (x : A) → o ≡ Some x → IsSome o
some_found o x e = subst (λ o. IsSome o) (sym e) refl

can_move : (case_map : CaseMap) (f : List ℕ → Option ℕ) (o : Option Seat) → ((s : Seat) → o ≡ Some s → (length s.nick ≤ 64) × IsSome (f (folded_name case_map s.nick))) → CanMove case_map f o
can_move case_map f None given = tt
can_move case_map f (Some s) given = given s refl

can_seat : (case_map : CaseMap) (f : List ℕ → Option ℕ) (o : Option Seat) (s : Seat) → o ≡ Some s → CanMove case_map f o → (length s.nick ≤ 64) × IsSome (f (folded_name case_map s.nick))
can_seat case_map f o s at can = subst (λ (o : Option Seat). CanMove case_map f o) at can

-- no place is right yet
pub noted_none : (case_map : CaseMap) (ps : List (Option Seat)) (f : List ℕ → Option ℕ) → IsKept case_map ps f → IsNoted case_map (solid ps) f 0
noted_none case_map ps f kept = record { found = found; right = λ n s below at. absurd (omega arith); known = known; apart = apart } where
  found : (n : ℕ) → CanMove case_map f (seat_at (solid ps) n)
  found n = can_move case_map f (seat_at (solid ps) n) (λ s at.
      let was = was_there ps n s at in
      (kept.short (old_place ps n) s was, some_found (f (folded_name case_map s.nick)) (old_place ps n) (kept.complete (old_place ps n) s was)))

  known : (key : List ℕ) (n : ℕ) → f key ≡ Some n → (m : ℕ) × HasKey case_map key (seat_at (solid ps) m)
  known key n here =
      let seat = key_seat case_map key (seat_at ps n) (kept.sound key n here) in
      let there = new_place ps n seat.0 seat.1 in
      (there.0, key_at case_map key (seat_at (solid ps) there.0) seat.0 there.1 seat.2)

  apart : (n m : ℕ) (s t : Seat) → seat_at (solid ps) n ≡ Some s → seat_at (solid ps) m ≡ Some t → folded_name case_map s.nick ≡ folded_name case_map t.nick → n ≡ m
  apart n m s t at there keys = old_apart ps n m (same_Some (old_place ps n) (old_place ps m)
      (sym (kept.complete (old_place ps n) s (was_there ps n s at)) ∙ ap f keys ∙ kept.complete (old_place ps m) t (was_there ps m t there)))

-- each place is right
pub noted_all : (case_map : CaseMap) (ps : List (Option Seat)) (f : List ℕ → Option ℕ) (i : ℕ) → length ps ≤ i → IsNoted case_map ps f i → IsKept case_map ps f
noted_all case_map ps f i whole noted = record {
  sound = sound;
  complete = λ n s at. noted.right n s (omega (arith, seat_inside ps n s at)) at;
  short = λ n s at. (can_seat case_map f (seat_at ps n) s at (noted.found n)).0;
} where
  sound : (key : List ℕ) (n : ℕ) → f key ≡ Some n → HasKey case_map key (seat_at ps n)
  sound key n here =
      let some = noted.known key n here in
      let seat = key_seat case_map key (seat_at ps some.0) some.1 in
      let right : f (folded_name case_map seat.0.nick) ≡ Some some.0 = noted.right some.0 seat.0 (omega (arith, seat_inside ps some.0 seat.0 seat.1)) seat.1 in
      let place : some.0 ≡ n = same_Some some.0 n (sym right ∙ ap f seat.2 ∙ here) in
      subst (λ (k : ℕ). HasKey case_map key (seat_at ps k)) place some.1

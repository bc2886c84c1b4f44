-- How many passes are open, and where a pass can be opened.
use Rattle.std.proofs.Common.{◌≡◌, ℕ, zero, suc, ◌+◌, ◌<◌, ◌≤◌, true, false, not, Option, Some, None, List, [], ◌∷◌, length, take, set, get_or, arith, refl, sym, ap, ◌∙◌, subst}
use Rattle.std.specs.Prelude.{filter, is_some, is_none, position, nat_lt, nat_le, ◌==◌, ◌&&◌, IfSome, if◌then◌else◌}
use Rattle.std.specs.List.{prefix_len, list_any}
use Rattle.std.proofs.lemmas.Bool.{false≢true, true≢false}
use Rattle.std.proofs.lemmas.Bool.Decides.{nat_tests}
use Rattle.std.proofs.lemmas.List.{take-set-le, length-take-le, get_or-take}
use Rattle.wc_hooks.specs.declared.cursor.Cursor.{Cursor}
use Rattle.wc_hooks.specs.declared.kind.HookKind.{HookKind}
use Rattle.wc_hooks.specs.declared.slot.Slot.{Slot}
use Rattle.wc_hooks.specs.Kinds.{is_relay}
use Rattle.wc_hooks.specs.Slots.{going_at, goings}
use Rattle.wc_hooks.specs.Table.{Going, is_place_for, any_open}
use Rattle.wc_hooks.proofs.Lists.{by_bool, open_inside}

-- the passes are seen where cursors are
pub length-goings : (p : ℕ) (xs : List Slot) (cs : List (Option Cursor)) → length (goings p xs cs) ≡ length cs
length-goings p xs [] = refl
length-goings p xs (None ∷ cs) = ap suc (length-goings (p + 1) xs cs)
length-goings p xs (Some c ∷ cs) = ap suc (length-goings (p + 1) xs cs)

pub any-goings : (p : ℕ) (xs : List Slot) (cs : List (Option Cursor)) → any_open (goings p xs cs) ≡ list_any is_some cs
any-goings p xs [] = refl
any-goings p xs (None ∷ cs) = any-goings (p + 1) xs cs
any-goings p xs (Some c ∷ cs) = refl

pub some-goings : (p i : ℕ) (xs : List Slot) (cs : List (Option Cursor)) → is_some (get_or (goings p xs cs) i None) ≡ is_some (get_or cs i None)
some-goings p zero xs [] = refl
some-goings p (suc i) xs [] = refl
some-goings p zero xs (None ∷ cs) = refl
some-goings p zero xs (Some c ∷ cs) = refl
some-goings p (suc i) xs (None ∷ cs) = some-goings (p + 1) i xs cs
some-goings p (suc i) xs (Some c ∷ cs) = some-goings (p + 1) i xs cs

pub count-goings : (p n : ℕ) (xs : List Slot) (cs : List (Option Cursor)) → length (filter is_some (take n (goings p xs cs))) ≡ length (filter is_some (take n cs))
count-goings p zero xs cs = refl
count-goings p (suc n) xs [] = refl
count-goings p (suc n) xs (None ∷ cs) = count-goings (p + 1) n xs cs
count-goings p (suc n) xs (Some c ∷ cs) = ap suc (count-goings (p + 1) n xs cs)

-- with no cursor, slots are not seen
pub none-goings : (p : ℕ) (xs ys : List Slot) (cs : List (Option Cursor)) → list_any is_some cs ≡ false → goings p ys cs ≡ goings p xs cs
none-goings p xs ys [] h = refl
none-goings p xs ys (None ∷ cs) h = ap (λ l. None ∷ l) (none-goings (p + 1) xs ys cs h)
none-goings p xs ys (Some c ∷ cs) h = absurd (true≢false h)

abbrev pub going_of : ℕ → List Slot → Option Cursor → Option Going
going_of p xs None = None
going_of p xs (Some c) = Some (going_at p c xs)

pub goings-set : (p i : ℕ) (xs : List Slot) (cs : List (Option Cursor)) (o : Option Cursor) → goings p xs (set cs i o) ≡ set (goings p xs cs) i (going_of (p + i) xs o)
goings-set p i xs [] o = refl
goings-set p zero xs (None ∷ cs) None = refl
goings-set p zero xs (None ∷ cs) (Some c) = let n : p ≡ p + 0 = omega arith in ap (λ q. Some (going_at q c xs) ∷ goings (p + 1) xs cs) n
goings-set p zero xs (Some d ∷ cs) None = refl
goings-set p zero xs (Some d ∷ cs) (Some c) = let n : p ≡ p + 0 = omega arith in ap (λ q. Some (going_at q c xs) ∷ goings (p + 1) xs cs) n
goings-set p (suc i) xs (None ∷ cs) o = let n : p + 1 + i ≡ p + suc i = omega arith in ap (λ l. None ∷ l) (goings-set (p + 1) i xs cs o ∙ ap (λ q. set (goings (p + 1) xs cs) i (going_of q xs o)) n)
goings-set p (suc i) xs (Some d ∷ cs) o = let n : p + 1 + i ≡ p + suc i = omega arith in ap (λ l. Some (going_at p d xs) ∷ l) (goings-set (p + 1) i xs cs o ∙ ap (λ q. set (goings (p + 1) xs cs) i (going_of q xs o)) n)

pub goings-get : (p i : ℕ) (xs : List Slot) (cs : List (Option Cursor)) → get_or (goings p xs cs) i None ≡ going_of (p + i) xs (get_or cs i None)
goings-get p zero xs [] = refl
goings-get p (suc i) xs [] = refl
goings-get p zero xs (None ∷ cs) = refl
goings-get p zero xs (Some c ∷ cs) = let n : p ≡ p + 0 = omega arith in ap (λ q. Some (going_at q c xs)) n
goings-get p (suc i) xs (None ∷ cs) = goings-get (p + 1) i xs cs ∙ (let n : p + 1 + i ≡ p + suc i = omega arith in ap (λ q. going_of q xs (get_or cs i None)) n)
goings-get p (suc i) xs (Some d ∷ cs) = goings-get (p + 1) i xs cs ∙ (let n : p + 1 + i ≡ p + suc i = omega arith in ap (λ q. going_of q xs (get_or cs i None)) n)

module _ {A : Type 0} where
  abbrev one : Option A → ℕ
  one None = 0
  one (Some a) = 1

  abbrev pub count_of : ℕ → List (Option A) → ℕ
  count_of n places = length (filter is_some (take n places))

  count_cons : (n : ℕ) (o : Option A) (places : List (Option A)) → count_of (suc n) (o ∷ places) ≡ one o + count_of n places
  count_cons n None places = omega arith
  count_cons n (Some a) places = omega arith

  count_set : (n p : ℕ) (places : List (Option A)) (o : Option A) → p < length places → p < n → count_of n (set places p o) + one (get_or places p None) ≡ count_of n places + one o
  count_set n p [] o inside lt = absurd (omega arith)
  count_set zero p (x ∷ xs) o inside lt = absurd (omega arith)
  count_set (suc n) zero (x ∷ xs) o inside lt = let a = count_cons n o xs in let b = count_cons n x xs in omega (arith, a, b)
  count_set (suc n) (suc p) (x ∷ xs) o inside lt =
      let ih = count_set n p xs o (omega (arith, inside)) (omega (arith, lt)) in
      let a = count_cons n x (set xs p o) in
      let b = count_cons n x xs in
      omega (arith, ih, a, b)

  one_open : (o : Option A) → is_some o ≡ true → one o ≡ 1
  one_open None h = absurd (false≢true h)
  one_open (Some a) h = refl

  -- where a pass opens, goes on or closes at a place
  pub count_more : (places : List (Option A)) (place : ℕ) (o : Option A) → place < length places → place < 16 → get_or places place None ≡ None → is_some o ≡ true → count_of 16 (set places place o) ≡ count_of 16 places + 1
  count_more places place o inside lt free h =
      let n = count_set 16 place places o inside lt in
      let z : one (get_or places place None) ≡ 0 = ap one free in
      let u = one_open o h in
      omega (arith, n, z, u)

  pub count_same : (places : List (Option A)) (place : ℕ) (o : Option A) → is_some (get_or places place None) ≡ true → is_some o ≡ true → count_of 16 (set places place o) ≡ count_of 16 places
  count_same places place o held h = by_bool (nat_le 16 place)
      (λ at. let le : 16 ≤ place = grind (arith, nat_tests) in ap (λ l. length (filter is_some l)) (take-set-le 16 places place o le))
      (λ at. let lt : place < 16 = grind (arith, nat_tests) in
      let n = count_set 16 place places o (open_inside places place held) lt in
      let z = one_open (get_or places place None) held in
      let u = one_open o h in
      omega (arith, n, z, u))

  pub count_less : (places : List (Option A)) (place : ℕ) → is_some (get_or places place None) ≡ true → place < 16 → count_of 16 (set places place None) + 1 ≡ count_of 16 places
  count_less places place held lt =
      let n = count_set 16 place places None (open_inside places place held) lt in
      let z = one_open (get_or places place None) held in
      omega (arith, n, z)

  -- the first place where no pass is open
  abbrev taken_front : List (Option A) → ℕ
  taken_front xs = prefix_len (λ x. not (is_none x)) xs

  at_most : (xs : List (Option A)) → length (filter is_some xs) ≤ length xs
  at_most [] = omega arith
  at_most (None ∷ xs) = let h = at_most xs in omega (arith, h)
  at_most (Some a ∷ xs) = let h = at_most xs in omega (arith, h)

  one_free : (xs : List (Option A)) → taken_front xs < length xs → (get_or xs (taken_front xs) None ≡ None) × (length (filter is_some xs) < length xs)
  one_free [] lt = absurd (omega arith)
  one_free (None ∷ xs) lt = let h = at_most xs in (refl, omega (arith, h))
  one_free (Some a ∷ xs) lt =
      let h = one_free xs (omega (arith, lt)) in
      let n = h.1 in
      let next : 1 + taken_front xs ≡ suc (taken_front xs) = omega arith in
      (ap (λ m. get_or (Some a ∷ xs) m None) next ∙ h.0, omega (arith, n))

  none_free : (xs : List (Option A)) → length xs ≤ taken_front xs → length (filter is_some xs) ≡ length xs
  none_free [] le = refl
  none_free (None ∷ xs) le = absurd (omega arith)
  none_free (Some a ∷ xs) le = ap suc (none_free xs (omega (arith, le)))

  found : (xs : List (Option A)) → nat_lt (taken_front xs) (length xs) ≡ true → position is_none xs ≡ Some (taken_front xs)
  found xs t = rw t refl

  missing : (xs : List (Option A)) → nat_lt (taken_front xs) (length xs) ≡ false → position is_none xs ≡ None
  missing xs t = rw t refl

  no_place : (xs : List (Option A)) → is_none (position is_none xs) ≡ (length (filter is_some xs) == length xs)
  no_place xs = by_bool (nat_lt (taken_front xs) (length xs))
      (λ t. let lt : taken_front xs < length xs = grind (arith, nat_tests) in
      let less = (one_free xs lt).1 in
      let other : (length (filter is_some xs) == length xs) ≡ false = grind (arith, nat_tests) in
      ap is_none (found xs t) ∙ sym other)
      (λ t. let le : length xs ≤ taken_front xs = grind (arith, nat_tests) in
      let same : (length (filter is_some xs) == length xs) ≡ true = (let e = none_free xs le in grind (arith, nat_tests)) in
      ap is_none (missing xs t) ∙ sym same)

  is_free : (xs : List (Option A)) → IfSome (position is_none xs) (λ place. (place < length xs) × (get_or xs place None ≡ None))
  is_free xs = by_bool (nat_lt (taken_front xs) (length xs))
      (λ t. let lt : taken_front xs < length xs = grind (arith, nat_tests) in rw t (lt, (one_free xs lt).0))
      (λ t. rw t tt)

-- the place that a pass of this kind gets
abbrev pub place_of : HookKind → List (Option Cursor) → Option ℕ
place_of kind cs = if is_relay kind then Some 16 else position is_none (take 16 cs)

pub place_none : (kind : HookKind) (cs : List (Option Cursor)) → length cs ≡ 17 → is_none (place_of kind cs) ≡ (not (is_relay kind) && (count_of 16 cs == 16))
place_none kind cs places = by_bool (is_relay kind)
    (λ r. rw r refl)
    (λ r. let n : length (take 16 cs) ≡ 16 = length-take-le 16 cs (omega (arith, places)) in
    rw r (no_place (take 16 cs) ∙ (λ i. length (filter is_some (take 16 cs)) == n i)))

pub record IsPlace (kind : HookKind) (cs : List (Option Cursor)) (place : ℕ) : Type 0 where
  pub fits : is_place_for kind place ≡ true
  pub inside : place < 17
  pub free : get_or cs place None ≡ None

fits_relay : (kind : HookKind) → is_relay kind ≡ true → is_place_for kind 16 ≡ true
fits_relay kind r = rw r refl

fits_other : (kind : HookKind) (place : ℕ) → is_relay kind ≡ false → place < 16 → is_place_for kind place ≡ true
fits_other kind place r lt = rw r (grind (arith, nat_tests))

pub place_is : (kind : HookKind) (cs : List (Option Cursor)) → length cs ≡ 17 → (is_relay kind ≡ true → get_or cs 16 None ≡ None) → IfSome (place_of kind cs) (IsPlace kind cs)
place_is kind cs places last = by_bool (is_relay kind)
    (λ r. rw r (record { fits = fits_relay kind r; inside = omega arith; free = last r }))
    (λ r. rw r (other r (position is_none (take 16 cs)) (is_free (take 16 cs)))) where
      other : is_relay kind ≡ false → (o : Option ℕ) → IfSome o (λ place. (place < length (take 16 cs)) × (get_or (take 16 cs) place None ≡ None)) → IfSome o (IsPlace kind cs)
      other r None h = tt
      other r (Some place) h =
          let n : length (take 16 cs) ≡ 16 = length-take-le 16 cs (omega (arith, places)) in
          let lt : place < 16 = (let a = h.0 in omega (arith, n, a)) in
          record { fits = fits_other kind place r lt; inside = omega arith; free = sym (get_or-take 16 cs place None lt) ∙ h.1 }

pub place_at : (kind : HookKind) (cs : List (Option Cursor)) (place : ℕ) → Some place ≡ place_of kind cs → length cs ≡ 17 → (is_relay kind ≡ true → get_or cs 16 None ≡ None) → IsPlace kind cs place
place_at kind cs place e places last = subst (λ (o : Option ℕ). IfSome o (IsPlace kind cs)) (sym e) (place_is kind cs places last)

-- Numbers that hold the first bytes of names, in the names' order.
use Rattle.std.proofs.Common.{◌≡◌, ℕ, zero, suc, ◌+◌, ◌*◌, ◌^◌, ◌++◌, map, ◌<◌, ◌≤◌, Bool, true, false, List, [], ◌∷◌, length, get_or, refl, sym, ap, ◌∙◌, subst, arith, inl, inr, Ordering}
use Rattle.std.specs.Prelude.{nat_lt, nat_le, bytes_eq}
use Rattle.std.specs.declared.cmp.Ordering.TheVariants.{Less, Equal, Greater}
use Rattle.std.specs.Ordering.{nat_cmp, ordering_then, ordering_reverse, is_lt}
use Rattle.std.specs.Cmp.{nat_cmp_is, nat_cmp_total}
use Rattle.std.specs.Cmp.Lexicographic.{slice_cmp}
use Rattle.std.proofs.Math.Nat.{mul-le-mul_right, mul_assoc, pow-suc, one-le-pow, pow-le-pow_right}
use Rattle.std.proofs.lemmas.Bool.{cases_order}
use Rattle.std.proofs.lemmas.Bool.Decides.{nat_tests}
use Rattle.std.proofs.lemmas.Cmp.{tied_itself}
use Rattle.std.specs.Char.{to_ascii_lowercase}
use Rattle.wc_text.specs.Order.{lower_case, fold_order}
use Rattle.wc_nicklist.specs.declared.digest.Digest.{Digest}
use Rattle.wc_nicklist.specs.declared.item.Key.{Key}
use Rattle.wc_nicklist.specs.declared.item.Row.{Row}
use Rattle.wc_nicklist.specs.Digest.{front, bytes_compared, place_of, IsBytes, IsPathDigest}
use Rattle.wc_nicklist.specs.Order.{key_at, key_cmp, kind, group_key, address_of, address_cmp, is_before}
use Rattle.wc_nicklist.proofs.OrderLaws.{bytes_true, by_bool, fold_total, key_total, kind_exact}

-- one byte more comes after those before
pub front_more : (n : ℕ) (xs : List ℕ) → front (suc n) xs ≡ front n xs * 256 + get_or xs n 0
front_more zero [] = refl
front_more zero (x ∷ xs) = omega arith
front_more (suc n) [] = refl
front_more (suc n) (x ∷ xs) =
    let wide : x * 256 ^ suc n ≡ x * 256 ^ n * 256 = ap (λ p. x * p) (pow-suc 256 n) ∙ sym (mul_assoc x (256 ^ n) 256) in
    let more = front_more n xs in
    omega (arith, wide, more)

-- the first n of them are bytes
abbrev pub AreBytes : ℕ → List ℕ → Type 0
AreBytes zero xs = Unit {0}
AreBytes (suc n) [] = Unit {0}
AreBytes (suc n) (x ∷ xs) = (x < 256) × AreBytes n xs

pub are_bytes : (n : ℕ) (xs : List ℕ) → IsBytes xs → AreBytes n xs
are_bytes zero xs h = tt
are_bytes (suc n) [] h = tt
are_bytes (suc n) (x ∷ xs) h = (h 0, are_bytes n xs (λ i. h (suc i)))

lower_small : (x : ℕ) → x < 256 → to_ascii_lowercase x < 256
lower_small x h = by_bool (nat_lt x 65) _
    (λ t. rw t h)
    (λ t. by_bool (nat_lt x 91) _
    (λ u. rw (t, u) (let l : x < 91 = grind (arith, nat_tests) in omega (arith, l)))
    (λ u. rw (t, u) h))

pub folded_bytes : (n : ℕ) (xs : List ℕ) → IsBytes xs → AreBytes n (lower_case xs)
folded_bytes zero xs h = tt
folded_bytes (suc n) [] h = tt
folded_bytes (suc n) (x ∷ xs) h = (lower_small x (h 0), folded_bytes n xs (λ i. h (suc i)))

pub cased_bytes : (n : ℕ) (keeps_case : Bool) (xs : List ℕ) → IsBytes xs → AreBytes n (bytes_compared keeps_case xs)
cased_bytes n true xs h = are_bytes n xs h
cased_bytes n false xs h = folded_bytes n xs h

-- the same at the number that a loop has
pub front_next : (n : ℕ) (xs : List ℕ) → front (n + 1) xs ≡ front n xs * 256 + get_or xs n 0
front_next n xs =
    let P : ℕ → Type 0 = λ m. front m xs ≡ front n xs * 256 + get_or xs n 0 in
    let same : suc n ≡ n + 1 = omega arith in
    subst P same (front_more n xs)

-- a greater digit in base p stands for more, whatever comes after the digits
above : (p x y u v : ℕ) → y < x → v < p → x * p + u ≤ y * p + v → ⊥
above p x y u v h l e = let m : suc y * p ≤ x * p = mul-le-mul_right p h in absurd (omega arith)

pub front_bound : (n : ℕ) (xs : List ℕ) → AreBytes n xs → front n xs < 256 ^ n
front_bound zero xs h = omega arith
front_bound (suc n) [] h =
    let few : zero < 256 = omega arith in
    let some : 1 ≤ 256 ^ n = one-le-pow n 256 few in
    omega (arith, some, pow-suc 256 n)
front_bound (suc n) (x ∷ xs) h =
    let rest = front_bound n xs h.1 in
    let small : x ≤ 255 = omega (arith, h.0) in
    let most : x * 256 ^ n ≤ 255 * 256 ^ n = mul-le-mul_right (256 ^ n) small in
    omega (arith, rest, most, pow-suc 256 n)

-- the number so far has room for one byte more
pub front_fits : (n x y : ℕ) → n < 16 → x < 256 ^ n → y < 256 → x * 256 + y < 340282366920938463463374607431768211456
front_fits n x y h l m =
    let some : zero < 256 = omega arith in
    let at_most : n ≤ 15 = omega (arith, h) in
    let few : 256 ^ n ≤ 256 ^ 15 = pow-le-pow_right some at_most in
    let most : 256 ^ 15 ≡ 1329227995784915872903807060280344576 = refl in
    omega (arith, few, most, l, m)

pub front_less : (n : ℕ) (xs ys : List ℕ) → AreBytes n xs → AreBytes n ys → front n xs < front n ys → slice_cmp nat_cmp xs ys ≡ Less
front_less zero xs ys h l e = absurd (omega arith)
front_less (suc n) [] [] h l e = absurd (omega arith)
front_less (suc n) [] (y ∷ ys) h l e = refl
front_less (suc n) (x ∷ xs) [] h l e = absurd (omega arith)
front_less (suc n) (x ∷ xs) (y ∷ ys) h l e = elim (cases_order x y) [
  | inl same ↦
      (let shift : x * 256 ^ n ≡ y * 256 ^ n = ap (λ z. z * 256 ^ n) same in
      let rest : front n xs < front n ys = omega (arith, e, shift) in
      ap (λ o. ordering_then o (slice_cmp nat_cmp xs ys)) (sym (nat_cmp_is x y Equal same)) ∙ front_less n xs ys h.1 l.1 rest)
  | inr other ↦ elim other [
    | inl less ↦ ap (λ o. ordering_then o (slice_cmp nat_cmp xs ys)) (sym (nat_cmp_is x y Less less))
    | inr more ↦ absurd (above (256 ^ n) x y (front n xs) (front n ys) more (front_bound n ys l.1) (omega (arith, e)))
  ]
]

pub front_same : (n : ℕ) (xs ys : List ℕ) → AreBytes n xs → AreBytes n ys → length xs ≤ n → length xs ≡ length ys → front n xs ≡ front n ys → xs ≡ ys
front_same n [] [] h l s i e = refl
front_same n [] (y ∷ ys) h l s i e = absurd (omega arith)
front_same n (x ∷ xs) [] h l s i e = absurd (omega arith)
front_same zero (x ∷ xs) (y ∷ ys) h l s i e = absurd (omega arith)
front_same (suc n) (x ∷ xs) (y ∷ ys) h l s i e = elim (cases_order x y) [
  | inl same ↦
      (let shift : x * 256 ^ n ≡ y * 256 ^ n = ap (λ z. z * 256 ^ n) same in
      let rest : front n xs ≡ front n ys = omega (arith, e, shift) in
      let tails = front_same n xs ys h.1 l.1 (omega (arith, s)) (omega (arith, i)) rest in
      λ j. same j ∷ tails j)
  | inr other ↦ elim other [
    | inl less ↦ absurd (above (256 ^ n) y x (front n ys) (front n xs) less (front_bound n xs h.1) (omega (arith, e)))
    | inr more ↦ absurd (above (256 ^ n) x y (front n xs) (front n ys) more (front_bound n ys l.1) (omega (arith, e)))
  ]
]

kind_small : (g : Bool) → kind g ≤ 1
kind_small false = omega arith
kind_small true = omega arith

Same : List (List ℕ) → List (List ℕ) → Bool → Bool → Type 0
Same p q g h = (p ≡ q) × (g ≡ h)

one_one : (n m : List ℕ) (g h : Bool) → AreBytes 15 n → AreBytes 15 m → length n ≤ 15 → length m ≤ 15 → front 15 n * 256 + (2 + 2 * length n + kind g) ≡ front 15 m * 256 + (2 + 2 * length m + kind h) → Same (n ∷ []) (m ∷ []) g h
unfolding Same
one_one n m g h a b s t e =
    let x = kind_small g in
    let y = kind_small h in
    let fronts : front 15 n ≡ front 15 m = omega (arith, e, x, y, s, t) in
    let lengths : length n ≡ length m = omega (arith, e, x, y, fronts) in
    let names = front_same 15 n m a b s lengths fronts in
    (λ i. names i ∷ [], kind_exact g h (omega (arith, e, fronts, lengths)))

-- what the place is of
pub place_none : (p : List (List ℕ)) (g : Bool) → length p < 1 → kind g ≡ place_of p g
unfolding place_of
place_none [] g h = refl
place_none (n ∷ ns) g h = absurd (omega arith)

pub place_short : (n : List ℕ) (g : Bool) → length n ≤ 15 → front 15 n * 256 + (2 + 2 * length n + kind g) ≡ place_of (n ∷ []) g
unfolding place_of
place_short n g h = let t : nat_le (length n) 15 ≡ true = grind (arith, nat_tests) in rw t refl

pub place_long : (n : List ℕ) (g : Bool) → 15 < length n → 255 ≡ place_of (n ∷ []) g
unfolding place_of
place_long n g h = let t : nat_le (length n) 15 ≡ false = grind (arith, nat_tests) in rw t refl

pub place_far : (p : List (List ℕ)) (g : Bool) → 2 ≤ length p → 255 ≡ place_of p g
unfolding place_of
place_far [] g h = absurd (omega arith)
place_far (n ∷ []) g h = absurd (omega arith)
place_far (n ∷ m ∷ ms) g h = refl

pub one_name : (p : List (List ℕ)) (n : List ℕ) → 1 ≤ length p → length p < 2 → get_or p 0 n ≡ n → n ∷ [] ≡ p
one_name [] n h l e = absurd (omega arith)
one_name (m ∷ []) n h l e = ap (λ z. z ∷ []) (sym e)
one_name (m ∷ k ∷ ks) n h l e = absurd (omega arith)

-- the name of a path of one name has bytes
abbrev PathBytes : List (List ℕ) → Type 0
PathBytes p = (n : List ℕ) → p ≡ n ∷ [] → IsBytes n

-- rows of one place, but for the last, are below the same groups
pub place_same : (p q : List (List ℕ)) (g h : Bool) → PathBytes p → PathBytes q → place_of p g ≡ place_of q h → (place_of p g ≡ 255 → ⊥) → (p ≡ q) × (g ≡ h)
unfolding place_of Same
place_same [] [] g h a b e n = (refl, kind_exact g h e)
place_same [] (m ∷ []) g h a b e n = by_bool (nat_le (length m) 15) _
    (λ t. let i : kind g ≡ front 15 m * 256 + (2 + 2 * length m + kind h) = rw t at e in absurd (omega (arith, i, kind_small g)))
    (λ t. let i : kind g ≡ 255 = rw t at e in absurd (n i))
place_same [] (m ∷ k ∷ ks) g h a b e n = absurd (n e)
place_same (m ∷ []) [] g h a b e n = by_bool (nat_le (length m) 15) _
    (λ t. let i : front 15 m * 256 + (2 + 2 * length m + kind g) ≡ kind h = rw t at e in absurd (omega (arith, i, kind_small h)))
    (λ t. absurd (n (rw t refl)))
place_same (m ∷ []) (k ∷ []) g h a b e n = by_bool (nat_le (length m) 15) _
    (λ t. by_bool (nat_le (length k) 15) _
    (λ u. let i : front 15 m * 256 + (2 + 2 * length m + kind g) ≡ front 15 k * 256 + (2 + 2 * length k + kind h) = rw (t, u) at e in one_one m k g h (are_bytes 15 m (a m refl)) (are_bytes 15 k (b k refl)) (grind (arith, nat_tests)) (grind (arith, nat_tests)) i)
    (λ u. let i : place_of (m ∷ []) g ≡ 255 = e ∙ rw u refl in absurd (n i)))
    (λ t. absurd (n (rw t refl)))
place_same (m ∷ []) (k ∷ l ∷ ls) g h a b e n = absurd (n e)
place_same (m ∷ l ∷ ls) q g h a b e n = absurd (n refl)

-- the order of what is below the same groups
then_equal : (o : Ordering) → ordering_then o Equal ≡ o
then_equal Less = refl
then_equal Equal = refl
then_equal Greater = refl

ends_decide : (xs : List Key) (j k : Key) → slice_cmp key_cmp (xs ++ j ∷ []) (xs ++ k ∷ []) ≡ key_cmp j k
ends_decide [] j k = then_equal (key_cmp j k)
ends_decide (x ∷ xs) j k = ap (λ o. ordering_then o (slice_cmp key_cmp (xs ++ j ∷ []) (xs ++ k ∷ []))) (tied_itself key_total x) ∙ ends_decide xs j k

pub beside : (r : Row) (path : List (List ℕ)) (g : Bool) (name : List ℕ) → r.path ≡ path → r.item.is_group ≡ g → is_before r (address_of path (key_at g name)) ≡ is_lt (fold_order r.item.name name)
unfolding address_cmp
beside r path g name p k =
    ap (λ a. is_lt (slice_cmp key_cmp a (address_of path (key_at g name)))) (λ i. address_of (p i) (key_at (k i) r.item.name))
    ∙ ap is_lt (ends_decide (map group_key path) (key_at g r.item.name) (key_at g name))
    ∙ ap (λ o. is_lt (ordering_then o (fold_order r.item.name name))) (tied_itself nat_cmp_total (kind g))

fold_less : (a b : List ℕ) → AreBytes 16 (lower_case a) → AreBytes 16 (lower_case b) → front 16 (lower_case a) < front 16 (lower_case b) → fold_order a b ≡ Less
unfolding fold_order
fold_less a b h l e = ap (λ o. ordering_then o (slice_cmp nat_cmp a b)) (front_less 16 (lower_case a) (lower_case b) h l e)

-- names whose first bytes differ are in the order of those
pub fold_told : (a b : List ℕ) → IsBytes a → IsBytes b → (front 16 (lower_case a) ≡ front 16 (lower_case b) → ⊥) → nat_lt (front 16 (lower_case a)) (front 16 (lower_case b)) ≡ is_lt (fold_order a b)
fold_told a b h l n = elim (cases_order (front 16 (lower_case a)) (front 16 (lower_case b))) [
  | inl same ↦ absurd (n same)
  | inr other ↦ elim other [
    | inl less ↦ (let t : nat_lt (front 16 (lower_case a)) (front 16 (lower_case b)) ≡ true = grind (arith, nat_tests) in t ∙ ap is_lt (sym (fold_less a b (folded_bytes 16 a h) (folded_bytes 16 b l) less)))
    | inr more ↦
        (let t : nat_lt (front 16 (lower_case a)) (front 16 (lower_case b)) ≡ false = grind (arith, nat_tests) in
        t ∙ ap is_lt (sym (fold_total.antisymm a b ∙ ap ordering_reverse (fold_less b a (folded_bytes 16 b l) (folded_bytes 16 a h) more))))
  ]
]

-- a name is where it is itself
pub fold_itself : (a b : List ℕ) → bytes_eq a b ≡ true → Equal ≡ fold_order a b
fold_itself a b t = sym (tied_itself fold_total a) ∙ ap (fold_order a) (bytes_true a b t)

-- what digests of one place tell
pub told_place : (r : Row) (path : List (List ℕ)) (g : Bool) (name : List ℕ) (d e : Digest) → IsPathDigest d r.path r.item.is_group r.item.name → IsPathDigest e path g name → d.place ≡ e.place → (d.place ≡ 255 → ⊥) → is_before r (address_of path (key_at g name)) ≡ is_lt (fold_order r.item.name name)
told_place r path g name d e own other same some =
    let p = place_same r.path path r.item.is_group g own.path_bytes other.path_bytes (sym own.place ∙ same ∙ other.place) (λ i. some (own.place ∙ i)) in
    beside r path g name p.0 p.1

pub told_name : (r : Row) (path : List (List ℕ)) (g : Bool) (name : List ℕ) (d e : Digest) → IsPathDigest d r.path r.item.is_group r.item.name → IsPathDigest e path g name → d.place ≡ e.place → (d.place ≡ 255 → ⊥) → (d.name ≡ e.name → ⊥) → nat_lt d.name e.name ≡ is_before r (address_of path (key_at g name))
told_name r path g name d e own other same some differs =
    (λ i. nat_lt (own.name i) (other.name i))
    ∙ fold_told r.item.name name own.name_bytes other.name_bytes (λ i. differs (own.name ∙ i ∙ sym other.name))
    ∙ sym (told_place r path g name d e own other same some)

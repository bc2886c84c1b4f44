-- How many bytes spell pointers.
use Rattle.std.proofs.Common.{◌≡◌, ℕ, zero, suc, ◌+◌, ◌*◌, ◌/◌, ◌^◌, ◌<◌, ◌≤◌, false, eqb, nat_lt, List, [], ◌∷◌, length, set, get_or, replicate, arith, refl, sym, ap, subst, ◌∙◌, length-append}
use Rattle.std.specs.List.{All, AllByRecursion, flat_map}
use Rattle.std.specs.Int.Digits.{digits_of}
use Rattle.std.proofs.lemmas.Bool.Decides.{nat_tests}
use Rattle.std.proofs.lemmas.Int.Digits.{length-digits_of_step, length-digits_of-le}
use Rattle.std.proofs.lemmas.List.{get_or_default, length-map}
use Rattle.std.proofs.lemmas.List.Elements.{All-from_recursion, recursion_from_All}
use Rattle.std.proofs.lemmas.List.Folds.{length-flat_map-take}
use Rattle.wc_buffers.proofs.GroupLaws.{by_bool}
use Rattle.wc_objects.specs.Hex.{glyph, hex}
use Rattle.wc_objects.specs.Spelling.{pointer_bytes}
use Rattle.wc_objects.proofs.Pointers.{hex_short}
use Rattle.wc_hdata.specs.Pointers.{IsPointer}
use Rattle.wc_hdata.specs.WalkBytes.{pointers_bytes}

-- ---- one pointer

-- one digit
pub hex_one : (n : ℕ) → n < 16 → length (hex n) ≡ 1
unfolding hex
hex_one n small = by_bool (eqb n 0) _
    (λ t. rw t refl)
    (λ f.
    let p : 0 < n = grind (arith, nat_tests) in
    let step = length-digits_of_step 16 n (omega arith) p in
    let none = length-digits_of-le 16 0 (n / 16) (omega arith) (omega (arith, small)) in
    rw f (omega (arith, length-map (digits_of 16 n) glyph, step, none)))

-- one digit more
pub hex_more : (n : ℕ) → 16 ≤ n → length (hex n) ≡ length (hex (n / 16)) + 1
unfolding hex
hex_more n big =
    let no : eqb n 0 ≡ false = grind (arith, nat_tests) in
    let no_left : eqb (n / 16) 0 ≡ false = grind (arith, nat_tests) in
    let step = length-digits_of_step 16 n (omega arith) (omega (arith, big)) in
    rw no (rw no_left (omega (arith, length-map (digits_of 16 n) glyph, length-map (digits_of 16 (n / 16)) glyph, step)))

-- numbers that differ in their last digits alone are as long
pub as_long : (m n : ℕ) → m / 16 ≡ n / 16 → length (hex m) ≡ length (hex n)
as_long m n same = by_bool (nat_lt m 16) _
    (λ t.
    let small : m < 16 = grind (arith, nat_tests) in
    omega (arith, hex_one m small, hex_one n (omega (arith, same, small))))
    (λ f.
    let big : 16 ≤ m = grind (arith, nat_tests) in
    let part = ap (λ (k : ℕ). length (hex k)) same in
    omega (arith, part, hex_more m big, hex_more n (omega (arith, same, big))))

pub few_bytes : (n : ℕ) → n < 2 ^ 64 → length (pointer_bytes n) ≤ 17
few_bytes n small = let short = hex_short n small in omega (arith, short.1)

-- ---- several

set_length : (f : ℕ → List ℕ) (xs : List ℕ) (i y : ℕ) → i < length xs → length (flat_map f (set xs i y)) + length (f (get_or xs i 0)) ≡ length (flat_map f xs) + length (f y)
set_length f [] i y within = absurd (omega (arith, within))
set_length f (x ∷ xs) zero y within = omega (arith, length-append (f y) (flat_map f xs), length-append (f x) (flat_map f xs))
set_length f (x ∷ xs) (suc i) y within =
    let on = set_length f xs i y (omega (arith, within)) in
    omega (arith, on, length-append (f x) (flat_map f xs), length-append (f x) (flat_map f (set xs i y)))

-- the bytes after a pointer is put
pub put_length : (xs : List ℕ) (i y : ℕ) → i < length xs → length (pointers_bytes (set xs i y)) + length (pointer_bytes (get_or xs i 0)) ≡ length (pointers_bytes xs) + length (pointer_bytes y)
put_length xs i y within = set_length pointer_bytes xs i y within

-- those of one are among those of all
pub one_length : (xs : List ℕ) (i : ℕ) → i < length xs → length (pointer_bytes (get_or xs i 0)) ≤ length (pointers_bytes xs)
one_length xs i within = omega (arith, length-flat_map-take pointer_bytes xs i 0 within)

few_each : (f : ℕ → List ℕ) (most : ℕ) (xs : List ℕ) → AllByRecursion (λ x. length (f x) ≤ most) xs → length (flat_map f xs) ≤ most * length xs
few_each f most [] a = omega arith
few_each f most (x ∷ xs) a =
    let first = a.0 in
    let on = few_each f most xs a.1 in
    let parts = length-append (f x) (flat_map f xs) in
    omega (arith, first, on, parts)

weaken : (xs : List ℕ) → AllByRecursion IsPointer xs → AllByRecursion (λ x. length (pointer_bytes x) ≤ 17) xs
weaken [] a = tt
weaken (x ∷ xs) a = (few_bytes x a.0, weaken xs a.1)

pub few_all : (xs : List ℕ) → All IsPointer xs → length (pointers_bytes xs) ≤ 17 * length xs
few_all xs a = few_each pointer_bytes 17 xs (weaken xs (recursion_from_All IsPointer xs a))

pub less_fits : (xs : List ℕ) (bytes i y d : ℕ) → bytes ≡ length (pointers_bytes xs) → i < length xs → length xs ≤ 2 ^ 32 → All IsPointer xs → y < 2 ^ 64
    → (length (pointer_bytes (get_or xs i d)) ≤ bytes) × (bytes + length (pointer_bytes y) < 2 ^ 64)
less_fits xs bytes i y d all within few numbers small =
    let same = ap (λ (p : ℕ). length (pointer_bytes p)) (get_or_default xs i d 0 within) in
    let less = one_length xs i within in
    let most = few_all xs numbers in
    let one = few_bytes y small in
    (omega (arith, same, less, all), omega (arith, few, most, one, all))

-- what is counted after a pointer is put
pub put_bytes : (xs : List ℕ) (bytes after i y d : ℕ) → bytes ≡ length (pointers_bytes xs) → i < length xs → after + length (pointer_bytes (get_or xs i d)) ≡ bytes + length (pointer_bytes y) → after ≡ length (pointers_bytes (set xs i y))
put_bytes xs bytes after i y d all within is =
    let same = ap (λ (p : ℕ). length (pointer_bytes p)) (get_or_default xs i d 0 within) in
    let change = put_length xs i y within in
    omega (arith, same, change, all, is)

-- ---- none but 0

pub none_length : (count : ℕ) → length (pointers_bytes (replicate count 0)) ≡ 2 * count
none_length zero = refl
none_length (suc count) =
    let on = none_length count in
    let one = hex_one 0 (omega arith) in
    let parts = length-append (pointer_bytes 0) (pointers_bytes (replicate count 0)) in
    omega (arith, on, one, parts)

none_numbers : (count : ℕ) → AllByRecursion IsPointer (replicate count 0)
none_numbers zero = tt
none_numbers (suc count) = (omega arith, none_numbers count)

pub none_bytes : (items : List ℕ) (count : ℕ) → items ≡ replicate count 0 → 2 * count ≡ length (pointers_bytes items)
none_bytes items count is = sym (ap (λ xs. length (pointers_bytes xs)) is ∙ none_length count)

pub none_pointers : (items : List ℕ) (count : ℕ) → items ≡ replicate count 0 → All IsPointer items
none_pointers items count is = subst (All IsPointer) (sym is) (All-from_recursion IsPointer (replicate count 0) (none_numbers count))

-- Tests of all bytes of a text.
use Rattle.std.proofs.Common.{ℕ, zero, suc, ◌≡◌, ◌<◌, Bool, true, false, not, ◌&&◌, List, [], ◌∷◌, ◌++◌, refl, arith}
use Rattle.std.specs.Prelude.{◌==◌, nat_lt}
use Rattle.std.specs.List.{list_all}
use Rattle.std.specs.Str.{IsUtf8, IsAscii}
use Rattle.std.proofs.lemmas.Bool.Decides.{nat_tests}
use Rattle.std.proofs.lemmas.Str.{IsUtf8-from_ascii}

-- ---- tests of all bytes

pub and-first : (a b : Bool) → (a && b) ≡ true → a ≡ true
and-first true b h = refl
and-first false b h = cc

pub and-second : (a b : Bool) → (a && b) ≡ true → b ≡ true
and-second true b h = h
and-second false b h = cc

pub list_all-append : (p : ℕ → Bool) (xs ys : List ℕ) → list_all p xs ≡ true → list_all p ys ≡ true → list_all p (xs ++ ys) ≡ true
list_all-append p [] ys h k = k
list_all-append p (x ∷ xs) ys h k =
    rw (and-first (p x) (list_all p xs) h) (list_all-append p xs ys (and-second (p x) (list_all p xs) h) k)

pub list_all-weaken : (p q : ℕ → Bool) → ((x : ℕ) → p x ≡ true → q x ≡ true) → (xs : List ℕ) → list_all p xs ≡ true → list_all q xs ≡ true
list_all-weaken p q more [] h = refl
list_all-weaken p q more (x ∷ xs) h =
    rw (more x (and-first (p x) (list_all p xs) h)) (list_all-weaken p q more xs (and-second (p x) (list_all p xs) h))

pub not-true : (b : Bool) → not b ≡ true → b ≡ false
not-true true h = cc
not-true false h = refl

-- a byte other than LF, other than a blank, other than a dot
abbrev pub no_lf : ℕ → Bool
no_lf byte = not (byte == 10)

abbrev pub no_blank : ℕ → Bool
no_blank byte = not (byte == 32)

abbrev pub no_dot : ℕ → Bool
no_dot byte = not (byte == 46)

-- ---- ASCII

abbrev pub is_ascii : ℕ → Bool
is_ascii byte = nat_lt byte 128

ascii-below : (byte : ℕ) → is_ascii byte ≡ true → byte < 128
ascii-below byte h = grind (arith, nat_tests)

all-ascii : (text : List ℕ) → list_all is_ascii text ≡ true → IsAscii text
all-ascii [] h i = omega arith
all-ascii (byte ∷ text) h zero = ascii-below byte (and-first (is_ascii byte) (list_all is_ascii text) h)
all-ascii (byte ∷ text) h (suc i) = all-ascii text (and-second (is_ascii byte) (list_all is_ascii text) h) i

pub text-from_ascii : (text : List ℕ) → list_all is_ascii text ≡ true → IsUtf8 text
text-from_ascii text h = IsUtf8-from_ascii text (all-ascii text h)

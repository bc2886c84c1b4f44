-- What is before and after the first element that passes a test, element by element.
use Rattle.std.proofs.Common.{ℕ, ◌≡◌, ◌+◌, Bool, true, false, List, [], ◌∷◌, take, drop, arith, suc}
use Rattle.std.proofs.Math.Numerals.{one-add}
use Rattle.std.specs.List.{before_first, after_first, prefix_len}

take-one-add : {X : Type 0} (n : ℕ) (x : X) (xs : List X) → take (1 + n) (x ∷ xs) ≡ x ∷ take n xs
take-one-add n x xs = rw one-add

drop-one-add : {X : Type 0} (n : ℕ) (x : X) (xs : List X) → drop (1 + n + 1) (x ∷ xs) ≡ drop (n + 1) xs
drop-one-add n x xs = let e : 1 + n + 1 ≡ suc (n + 1) = omega arith in rw e

pub before_first-hit : {X : Type 0} (p : X → Bool) (x : X) (xs : List X) → p x ≡ true → before_first p (x ∷ xs) ≡ []
before_first-hit p x xs e = rw e

pub before_first-miss : {X : Type 0} (p : X → Bool) (x : X) (xs : List X) → p x ≡ false → before_first p (x ∷ xs) ≡ x ∷ before_first p xs
before_first-miss p x xs e = rw e (take-one-add _ x xs)

pub after_first-hit : {X : Type 0} (p : X → Bool) (x : X) (xs : List X) → p x ≡ true → after_first p (x ∷ xs) ≡ xs
after_first-hit p x xs e = rw e

pub after_first-miss : {X : Type 0} (p : X → Bool) (x : X) (xs : List X) → p x ≡ false → after_first p (x ∷ xs) ≡ after_first p xs
after_first-miss p x xs e = rw e (drop-one-add _ x xs)

-- The last of a list, where its oldest goes.
use Rattle.std.proofs.Common.{◌≡◌, ℕ, suc, ◌-◌, ◌<◌, ◌≤◌, List, [], ◌∷◌, length, length-drop, drop, sym, ap, arith}
use Rattle.wc_lines.specs.Ring.{last_of}

pub last_all : {X : Type 0} (n : ℕ) (xs : List X) → length xs ≤ n → last_of n xs ≡ xs
last_all n xs l = let e : length xs - n ≡ 0 = omega arith in ap (λ k. drop k xs) e

pub last_shorter : {X : Type 0} (n : ℕ) (xs : List X) → n < length xs → last_of n (drop 1 xs) ≡ last_of n xs
last_shorter n [] l = absurd (omega arith)
last_shorter n (x ∷ xs) l = let e : length (x ∷ xs) - n ≡ suc (length xs - n) = omega arith in ap (λ k. drop k (x ∷ xs)) (sym e)

-- what `keep_last` needs
pub ruleset keep_last_facts = (last_all, last_shorter)

-- no more are left than may be
pub last_short : {X : Type 0} (n : ℕ) (xs : List X) → length (last_of n xs) ≤ n
last_short n xs = omega (arith, length-drop (length xs - n) xs)

pub few : {X : Type 0} (n count : ℕ) (old new : List X) → count ≡ length new → new ≡ last_of n old → count ≤ n
few n count old new c e = omega (arith, c, ap length e, last_short n old)

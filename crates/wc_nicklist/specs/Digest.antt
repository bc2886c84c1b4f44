-- The front of an address as two numbers.
use Rattle.std.specs.Prelude.{◌≡◌, ℕ, suc, zero, ◌+◌, ◌*◌, ◌^◌, ◌<◌, Bool, true, false, List}
use Rattle.std.specs.Prelude.{[], ◌∷◌, length, if◌then◌else◌, nat_le, get_or}
use Rattle.wc_text.specs.Order.{lower_case}
use Rattle.wc_nicklist.specs.declared.digest.Digest.{Digest}
use Rattle.wc_nicklist.specs.Order.{kind}

-- the first n bytes as one number, the first of them highest, with zeros after the last
abbrev pub front : ℕ → List ℕ → ℕ
front zero xs = 0
front (suc n) [] = 0
front (suc n) (x ∷ xs) = x * 256 ^ n + front n xs

abbrev pub IsBytes : List ℕ → Type 0
IsBytes xs = (i : ℕ) → get_or xs i 0 < 256

-- the bytes of a text, in lower case where its case is not kept
abbrev pub bytes_compared : Bool → List ℕ → List ℕ
bytes_compared true bytes = bytes
bytes_compared false bytes = lower_case bytes

-- The kind and the path in one number, where the path has no name or one that is short; and else
-- 255.
unfoldable pub place_of : List (List ℕ) → Bool → ℕ
place_of [] g = kind g
place_of (n ∷ []) g = if nat_le (length n) 15
    then front 15 n * 256 + (2 + 2 * length n + kind g) else 255
place_of (n ∷ m ∷ ms) g = 255

-- the numbers of an address
pub record IsPathDigest (d : Digest) (groups : List (List ℕ)) (g : Bool) (bytes : List ℕ) :
    Type 0 where
  pub place : d.place ≡ place_of groups g
  pub path_bytes : (n : List ℕ) → groups ≡ n ∷ [] → IsBytes n
  pub name : d.name ≡ front 16 (lower_case bytes)
  pub name_bytes : IsBytes bytes

-- digests of one place with other names, which tell the order of their addresses
pub record Tells (d e : Digest) : Type 0 where
  pub place : d.place ≡ e.place
  pub some : d.place ≡ 255 → ⊥
  pub name : d.name ≡ e.name → ⊥

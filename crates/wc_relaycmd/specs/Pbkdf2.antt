-- HMAC (RFC 2104) and the first block of PBKDF2 (RFC 8018), over a hash of blocks of some size.
use Rattle.std.specs.Prelude.{ℕ, zero, suc, ◌-◌, List, [], ◌∷◌, ◌++◌, map, length, replicate}
use Rattle.std.specs.Prelude.{bit_xor, nat_lt, if◌then◌else◌}
use Rattle.sha2.specs.Sha256.{sha256}
use Rattle.sha2.specs.Sha512.{sha512}

-- a text with zeros after it, up to a whole block
abbrev pub with_zeros : ℕ → List ℕ → List ℕ
with_zeros size text = text ++ replicate (size - length text) 0

-- the block of a key
abbrev pub key_block : (List ℕ → List ℕ) → ℕ → List ℕ → List ℕ
key_block hash size key = with_zeros size (if nat_lt size (length key) then hash key else key)

-- each byte of a block with a pad
abbrev pub with_pad : ℕ → List ℕ → List ℕ
with_pad pad block = map (λ b. bit_xor b pad) block

-- the code of a text under the block of a key
unfoldable pub hmac_of_block : (List ℕ → List ℕ) → List ℕ → List ℕ → List ℕ
hmac_of_block hash block text = hash (with_pad 0x5C block ++ hash (with_pad 0x36 block ++ text))

-- the value of the round that comes after n others
abbrev pub round_after : (List ℕ → List ℕ) → List ℕ → List ℕ → ℕ → List ℕ
round_after hash block salt zero = hmac_of_block hash block (salt ++ 0 ∷ 0 ∷ 0 ∷ 1 ∷ [])
round_after hash block salt (suc n) = hmac_of_block hash block (round_after hash block salt n)

-- two texts byte by byte
unfoldable pub xor_each : List ℕ → List ℕ → List ℕ
xor_each [] ys = []
xor_each (x ∷ xs) [] = x ∷ xs
xor_each (x ∷ xs) (y ∷ ys) = bit_xor x y ∷ xor_each xs ys

-- the values of the first n + 1 rounds, byte by byte
abbrev pub rounds_up_to : (List ℕ → List ℕ) → List ℕ → List ℕ → ℕ → List ℕ
rounds_up_to hash block salt zero = round_after hash block salt zero
rounds_up_to hash block salt (suc n) =
    xor_each (rounds_up_to hash block salt n) (round_after hash block salt (suc n))

unfoldable pub pbkdf2 : (List ℕ → List ℕ) → ℕ → List ℕ → List ℕ → ℕ → List ℕ
pbkdf2 hash size password salt rounds =
    rounds_up_to hash (key_block hash size password) salt (rounds - 1)

-- by SHA-256, which has blocks of 64 bytes
abbrev pub sha256_key : List ℕ → List ℕ → ℕ → List ℕ
sha256_key password salt rounds = pbkdf2 sha256 64 password salt rounds

-- by SHA-512, which has blocks of 128 bytes
abbrev pub sha512_key : List ℕ → List ℕ → ℕ → List ℕ
sha512_key password salt rounds = pbkdf2 sha512 128 password salt rounds

-- Who is let in.
use Rattle.std.specs.Prelude.{◌≡◌, ◌≢◌, ◌^◌, ℕ, ℤ, pos, negsuc, List, [], ◌∷◌, ◌++◌}
use Rattle.std.specs.Prelude.{Option, Some, None, nat_lt}
use Rattle.std.specs.Prelude.{option_map, option_and_then, MatchOption, codes, if◌then◌else◌, ◌==◌}
use Rattle.std.specs.Result.{result_ok}
use Rattle.std.specs.Str.{bytes_eq}
use Rattle.std.specs.List.{slice_split}
use Rattle.sha2.specs.Sha256.{sha256}
use Rattle.sha2.specs.Sha512.{sha512}
use Rattle.hex.specs.Hex.{decode_of}
use Rattle.wc_text.specs.declared.names.Pair.{Pair}
use Rattle.wc_text.specs.Integer.{integer_of}
use Rattle.wc_relaycmd.specs.declared.algorithm.Algorithm.{Algorithm}
use Rattle.wc_relaycmd.specs.declared.algorithm.Algorithm.TheVariants as a
use Rattle.wc_relaycmd.specs.declared.login.Login.{Login}
use Rattle.wc_relaycmd.specs.declared.login.HashLogin.{HashLogin}
use Rattle.wc_relaycmd.specs.Choices.{algorithm_name}
use Rattle.wc_relaycmd.specs.Lists.{last_value}
use Rattle.wc_relaycmd.specs.Pbkdf2.{sha256_key, sha512_key}

-- the algorithm of that name, of those that hash once
abbrev pub hash_named : List ℕ → Option Algorithm
hash_named name =
    if bytes_eq name (algorithm_name a.Sha256) then Some a.Sha256 else (
    if bytes_eq name (algorithm_name a.Sha512) then Some a.Sha512 else None)

-- the algorithm of that name, of those that hash in rounds
abbrev pub rounds_named : List ℕ → Option Algorithm
rounds_named name =
    if bytes_eq name (algorithm_name a.Pbkdf2Sha256) then Some a.Pbkdf2Sha256 else (
    if bytes_eq name (algorithm_name a.Pbkdf2Sha512) then Some a.Pbkdf2Sha512 else None)

abbrev pub rounds_by : Option ℤ → Option ℕ
rounds_by (Some (pos n)) = if nat_lt n (2 ^ 32) then Some n else None
rounds_by (Some (negsuc n)) = None
rounds_by None = None

-- the rounds that a text counts, of at most 32 bits
unfoldable pub rounds_in : List ℕ → Option ℕ
rounds_in text = rounds_by (integer_of text)

-- the bytes that hex digits write
abbrev pub bytes_in : List ℕ → Option (List ℕ)
bytes_in digits = result_ok (decode_of digits)

-- the algorithm, the rounds, and two texts as the salt and the hash of a login
unfoldable pub hash_from : Option Algorithm → Option ℕ → List ℕ → List ℕ → Option HashLogin
hash_from named counted salt hash =
    option_and_then (λ algorithm.
    option_and_then (λ rounds.
    option_and_then (λ salt_bytes.
    option_map (λ hash_bytes. record {
      algorithm = algorithm;
      rounds = rounds;
      salt = salt_bytes;
      hash = hash_bytes;
    })
    (bytes_in hash)) (bytes_in salt)) counted) named

abbrev pub hash_of_parts : List (List ℕ) → Option HashLogin
hash_of_parts [] = None
hash_of_parts (name ∷ []) = None
hash_of_parts (name ∷ salt ∷ []) = None
hash_of_parts (name ∷ salt ∷ hash ∷ []) = hash_from (hash_named name) (Some 0) salt hash
hash_of_parts (name ∷ salt ∷ rounds ∷ hash ∷ []) =
    hash_from (rounds_named name) (rounds_in rounds) salt hash
hash_of_parts (name ∷ salt ∷ rounds ∷ hash ∷ more ∷ parts) = None

-- `algorithm:salt:hash` or `algorithm:salt:rounds:hash`, the salt and the hash in hex
unfoldable pub hash_of : List ℕ → Option HashLogin
hash_of text = hash_of_parts (slice_split (λ b. b == 58) text)

abbrev pub login_with : Option (List ℕ) → Option (List ℕ) → Option Login
login_with password None = Some (record { password = password; hash = None })
login_with password (Some text) =
    option_map (λ hash. record { password = password; hash = Some hash }) (hash_of text)

-- the login of the pairs of `init`
unfoldable pub login_of : List Pair → Option Login
login_of pairs = login_with (last_value (codes "password") pairs)
    (last_value (codes "password_hash") pairs)

-- how many rounds are hashed, where an algorithm hashes in rounds
abbrev pub round_count : ℕ
round_count = 100000

-- these bytes are the digest of the salt and the password, in so many rounds
abbrev pub IsDigestOf : Algorithm → List ℕ → List ℕ → ℕ → List ℕ → Type 0
IsDigestOf a.Plain salt password rounds digest = ⊥
IsDigestOf a.Sha256 salt password rounds digest = digest ≡ sha256 (salt ++ password)
IsDigestOf a.Sha512 salt password rounds digest = digest ≡ sha512 (salt ++ password)
IsDigestOf a.Pbkdf2Sha256 salt password rounds digest =
    (rounds ≡ round_count) × (digest ≡ sha256_key password salt rounds)
IsDigestOf a.Pbkdf2Sha512 salt password rounds digest =
    (rounds ≡ round_count) × (digest ≡ sha512_key password salt rounds)

-- a salt begins with the nonce and has more after it
abbrev pub IsSalted : List ℕ → List ℕ → Type 0
IsSalted salt nonce = (more : List ℕ) × (salt ≡ nonce ++ more) × (more ≢ [])

-- A hash login is made with the chosen algorithm and a salt for this nonce, and its hash is that of
-- the salt and the password.
pub record Proves (login : HashLogin) (password nonce : List ℕ) (chosen : Algorithm) : Type 0 where
  pub algorithm : login.algorithm ≡ chosen
  pub salted : IsSalted login.salt nonce
  pub hashed : IsDigestOf chosen login.salt password login.rounds login.hash

-- Where the password is empty nobody is let in. Where a hash is given it alone decides; else the
-- plain password does, where `plain` was chosen.
abbrev pub LetsIn : Login → List ℕ → List ℕ → Algorithm → Type 0
LetsIn login password nonce chosen =
    (password ≢ []) × MatchOption login.hash ((chosen ≡ a.Plain) × (login.password ≡ Some password))
    (λ hash. Proves hash password nonce chosen)

-- Who is let in, as a test.
use Rattle.std.specs.Prelude.{ℕ, ◌==◌, Bool, true, false, ◌&&◌, nat_lt, List, ◌++◌, length, take, Option}
use Rattle.std.specs.Prelude.{Some, None}
use Rattle.std.specs.Str.{bytes_eq}
use Rattle.sha2.specs.Sha256.{sha256}
use Rattle.sha2.specs.Sha512.{sha512}
use Rattle.wc_text.specs.declared.names.Pair.{Pair}
use Rattle.wc_relaycmd.specs.declared.algorithm.Algorithm.{Algorithm}
use Rattle.wc_relaycmd.specs.declared.algorithm.Algorithm.TheVariants as a
use Rattle.wc_relaycmd.specs.declared.login.Login.{Login}
use Rattle.wc_relaycmd.specs.declared.login.HashLogin.{HashLogin}
use Rattle.wc_relaycmd.specs.Logins.{login_of, round_count}
use Rattle.wc_relaycmd.specs.Pbkdf2.{sha256_key, sha512_key}

abbrev pub same_algorithm : Algorithm → Algorithm → Bool
same_algorithm a.Plain a.Plain = true
same_algorithm a.Sha256 a.Sha256 = true
same_algorithm a.Sha512 a.Sha512 = true
same_algorithm a.Pbkdf2Sha256 a.Pbkdf2Sha256 = true
same_algorithm a.Pbkdf2Sha512 a.Pbkdf2Sha512 = true
same_algorithm _ _ = false

abbrev pub is_digest : Algorithm → List ℕ → List ℕ → ℕ → List ℕ → Bool
is_digest a.Plain salt password rounds digest = false
is_digest a.Sha256 salt password rounds digest = bytes_eq digest (sha256 (salt ++ password))
is_digest a.Sha512 salt password rounds digest = bytes_eq digest (sha512 (salt ++ password))
is_digest a.Pbkdf2Sha256 salt password rounds digest = (rounds == round_count)
    && bytes_eq digest (sha256_key password salt rounds)
is_digest a.Pbkdf2Sha512 salt password rounds digest = (rounds == round_count)
    && bytes_eq digest (sha512_key password salt rounds)

-- a salt begins with the nonce and has more after it
abbrev pub is_salted : List ℕ → List ℕ → Bool
is_salted salt nonce = bytes_eq (take (length nonce) salt) nonce && nat_lt (length nonce)
    (length salt)

abbrev pub hash_proves : HashLogin → List ℕ → List ℕ → Algorithm → Bool
hash_proves login password nonce chosen =
    same_algorithm login.algorithm chosen && is_salted login.salt nonce
    && is_digest chosen login.salt password login.rounds login.hash

abbrev pub is_password : Option (List ℕ) → List ℕ → Bool
is_password None password = false
is_password (Some given) password = bytes_eq given password

-- a hash alone decides where it is given
abbrev pub login_proves : Option (List ℕ) → Option HashLogin → List ℕ → List ℕ → Algorithm → Bool
login_proves given None password nonce chosen = same_algorithm chosen a.Plain
    && is_password given password
login_proves given (Some hash) password nonce chosen = hash_proves hash password nonce chosen

-- nobody is let in where the password is empty
unfoldable pub lets_in : Login → List ℕ → List ℕ → Algorithm → Bool
lets_in login password nonce chosen = nat_lt 0 (length password)
    && login_proves login.password login.hash password nonce chosen

abbrev pub login_lets_in : Option Login → List ℕ → List ℕ → Option Algorithm → Bool
login_lets_in None password nonce chosen = false
login_lets_in (Some login) password nonce None = false
login_lets_in (Some login) password nonce (Some chosen) = lets_in login password nonce chosen

-- the pairs of `init` let in, where an algorithm was chosen and their hash, if one is given, is
-- well formed
unfoldable pub pairs_let_in : List Pair → List ℕ → List ℕ → Option Algorithm → Bool
pairs_let_in pairs password nonce chosen = login_lets_in (login_of pairs) password nonce chosen

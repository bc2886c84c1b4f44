-- What a login by SASL PLAIN says (RFC 4616), and the lines that it is said in (IRCv3).
use Rattle.std.specs.Prelude.{ℕ, zero, suc, ◌/◌, List, [], ◌∷◌, ◌++◌, length, take, drop, codes}
use Rattle.base64.specs.Engines.{standard}
use Rattle.base64.specs.GeneralPurpose.{encode_of}

-- no other name to act for, and after a NUL each the name and the password
abbrev pub credentials : List ℕ → List ℕ → List ℕ
credentials user password = 0 ∷ user ++ 0 ∷ password

-- the same by base64 (RFC 4648)
abbrev pub response : List ℕ → List ℕ → List ℕ
response user password = encode_of standard (credentials user password)

-- the last piece, which a `+` stands for where it is empty
abbrev pub last_piece : List ℕ → List ℕ
last_piece [] = codes "+"
last_piece (b ∷ text) = b ∷ text

-- so many pieces of 400 bytes, and what is left
abbrev pub cut : ℕ → List ℕ → List (List ℕ)
cut zero text = last_piece text ∷ []
cut (suc n) text = take 400 text ∷ cut n (drop 400 text)

-- all whole pieces, and the last one, which is shorter
unfoldable pub response_pieces : List ℕ → List (List ℕ)
response_pieces text = cut (length text / 400) text

abbrev pub login_pieces : List ℕ → List ℕ → List (List ℕ)
login_pieces user password = response_pieces (response user password)

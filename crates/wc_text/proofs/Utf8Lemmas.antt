-- Where UTF-8 may be parted: at an ASCII byte, before it and after it.
use Rattle.std.proofs.Common.{◌≡◌, ℕ, suc, ◌+◌, ◌<◌, List, [], ◌∷◌, ◌++◌, length, get_or, take, drop, IsUtf8, refl, sym, ap, subst, ◌∙◌, arith}
use Rattle.std.proofs.lemmas.Str.{IsUtf8-append, IsUtf8-take, IsUtf8-drop, IsUtf8-from_ascii, IsCharBoundary-before_ascii, IsCharBoundary-after_ascii}
use Rattle.std.proofs.lemmas.Str.Ascii.{IsAscii-cons, IsAscii-nil}
use Rattle.std.proofs.lemmas.List.{length-append}

-- the front before an ASCII byte
pub utf8_before_ascii : (bytes : List ℕ) (i : ℕ) → IsUtf8 bytes → i < length bytes → get_or bytes i 0 < 128 → IsUtf8 (take i bytes)
utf8_before_ascii bytes i u h a = IsUtf8-take bytes i u (IsCharBoundary-before_ascii bytes i h a)

-- the rest from it on
pub utf8_from_ascii : (bytes : List ℕ) (i : ℕ) → IsUtf8 bytes → i < length bytes → get_or bytes i 0 < 128 → IsUtf8 (drop i bytes)
utf8_from_ascii bytes i u h a = IsUtf8-drop bytes i u (IsCharBoundary-before_ascii bytes i h a)

-- the front with it
pub utf8_with_ascii : (bytes : List ℕ) (i : ℕ) → IsUtf8 bytes → i < length bytes → get_or bytes i 0 < 128 → IsUtf8 (take (i + 1) bytes)
utf8_with_ascii bytes i u h a = IsUtf8-take bytes (i + 1) u (IsCharBoundary-after_ascii bytes i u h a)

-- the rest after it
pub utf8_after_ascii : (bytes : List ℕ) (i : ℕ) → IsUtf8 bytes → i < length bytes → get_or bytes i 0 < 128 → IsUtf8 (drop (i + 1) bytes)
utf8_after_ascii bytes i u h a = IsUtf8-drop bytes (i + 1) u (IsCharBoundary-after_ascii bytes i u h a)

-- one ASCII byte is a text
pub utf8_one : (b : ℕ) → b < 128 → IsUtf8 (b ∷ [])
utf8_one b a = IsUtf8-from_ascii (b ∷ []) (IsAscii-cons b [] a IsAscii-nil)

-- an ASCII byte before a text
pub utf8_cons : (b : ℕ) (bytes : List ℕ) → b < 128 → IsUtf8 bytes → IsUtf8 (b ∷ bytes)
utf8_cons b bytes a u = IsUtf8-append (b ∷ []) bytes (utf8_one b a) u

-- two texts with an ASCII byte between them
pub utf8_joined : (front : List ℕ) (b : ℕ) (rest : List ℕ) → b < 128 → IsUtf8 front → IsUtf8 rest → IsUtf8 (front ++ b ∷ rest)
utf8_joined front b rest a u v = IsUtf8-append front (b ∷ rest) u (utf8_cons b rest a v)

byte_at : (front : List ℕ) (b : ℕ) (rest : List ℕ) → get_or (front ++ b ∷ rest) (length front) 0 ≡ b
byte_at [] b rest = refl
byte_at (x ∷ front) b rest = byte_at front b rest

front_of : (front more : List ℕ) → take (length front) (front ++ more) ≡ front
front_of [] more = refl
front_of (x ∷ front) more = ap (λ bytes. x ∷ bytes) (front_of front more)

rest_of : (front : List ℕ) (b : ℕ) (rest : List ℕ) → drop (suc (length front)) (front ++ b ∷ rest) ≡ rest
rest_of [] b rest = refl
rest_of (x ∷ front) b rest = rest_of front b rest

-- the two sides of an ASCII byte
pub utf8_parts : (front : List ℕ) (b : ℕ) (rest : List ℕ) → b < 128 → IsUtf8 (front ++ b ∷ rest) → IsUtf8 front × IsUtf8 rest
utf8_parts front b rest a u =
    let n = length front in
    let bytes = front ++ b ∷ rest in
    let inside : n < length bytes = omega (arith, length-append front (b ∷ rest)) in
    let low : get_or bytes n 0 < 128 = let P : ℕ → Type 0 = λ x. x < 128 in subst P (sym (byte_at front b rest)) a in
    let next : n + 1 ≡ suc n = omega arith in (
      subst IsUtf8 (front_of front (b ∷ rest)) (utf8_before_ascii bytes n u inside low),
      subst IsUtf8 (ap (λ k. drop k bytes) next ∙ rest_of front b rest) (utf8_after_ascii bytes n u inside low),
    )

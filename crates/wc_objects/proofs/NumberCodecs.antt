-- Numbers and the letters of types, each read as it is spelt.
use Rattle.std.proofs.Common.{◌≡◌, ℕ, zero, suc, ◌<◌, ◌^◌, Bool, true, false, cond, List, [], ◌∷◌, length, drop, get_or, Option, Some, None, refl, sym, ap, subst, ◌∙◌, arith}
use Rattle.std.specs.Prelude.{ℤ, pos, negsuc}
use Rattle.std.specs.Int.{w8, w32, w64, cast_signed, cast_unsigned}
use Rattle.std.specs.Int.RustNames.{FitsSigned}
use Rattle.std.specs.Fmt.{decimal, signed_decimal}
use Rattle.std.proofs.lemmas.Fmt.{length_signed_le}
use Rattle.std.specs.Str.{bytes_eq}
use Rattle.std.proofs.Math.Facts.{Fits-of_z, sfits_to_z}
use Rattle.std.proofs.lemmas.Int.{of_z-to_z, to_z-of_z}
use Rattle.std.proofs.lemmas.Slice.Eq.{bytes_eq-Decides}
use Rattle.wc_objects.specs.declared.kind.Kind.{Kind}
use Rattle.wc_objects.specs.declared.kind.Kind.TheVariants.{Chr, Int, Lon, Str, Buf, Ptr, Tim, Htb, Hda, Inf, Inl, Arr}
use Rattle.wc_objects.specs.Kinds.{letters}
use Rattle.wc_objects.specs.Hex.{hex, hex_number}
use Rattle.wc_objects.specs.Forms.{kind_among, kinds, named_kind, only_if}
use Rattle.wc_objects.specs.Spelling.{be32, short_bytes, pointer_bytes}
use Rattle.wc_objects.specs.Reading.{◌>>=◌, made_of, bytes_at, number_at, byte_at, int_at, short_at, decimal_at, decimal_number, pointer_at, kind_by}
use Rattle.wc_objects.proofs.Codecs.{IsBytes, Codec, mapped, refit}
use Rattle.wc_objects.proofs.FieldCodecs.{same_bytes, AreBytes, IsNumber, bytes_codec, long_codec, number_codec}
use Rattle.wc_objects.proofs.ShortCodecs.{one_byte, parsed, IsShortText, short_codec}
use Rattle.wc_objects.proofs.Decimals.{begins_digit, decimal_again, decimal_only}
use Rattle.wc_objects.proofs.Pointers.{hex_only, hex_again, hex_small, hex_short}

-- ---- a signed byte, and four of them

abbrev pub spelt_byte : ℤ → List ℕ
spelt_byte n = cast_unsigned w8 n ∷ []

abbrev of_byte : List ℕ → ℤ
of_byte a = cast_signed w8 (get_or a 0 0)

pub byte_codec : Codec byte_at spelt_byte (λ n. FitsSigned w8 n)
unfolding byte_at
byte_codec =
    refit (λ bytes. bytes_at 1 bytes >>= made_of of_byte) spelt_byte (λ n. (a : List ℕ) × (n ≡ of_byte a) × AreBytes 1 a) (λ n. FitsSigned w8 n)
    (λ n f. subst (λ z. FitsSigned w8 z) (sym f.1) (sfits_to_z (record { fits = f.2.1 0 })))
    (λ n f. (spelt_byte n, sym (to_z-of_z w8 n f), (refl, one_fits (cast_unsigned w8 n) (Fits-of_z f).fits)))
    (mapped (bytes_at 1) same_bytes (AreBytes 1) of_byte spelt_byte (bytes_codec 1) (λ a f. ap (λ (k : ℕ). k ∷ []) (of_z-to_z w8 (get_or a 0 0) (f.1 0)) ∙ sym (one_byte a f.0)))
  where
    one_fits : (n : ℕ) → n < 256 → IsBytes (n ∷ [])
    one_fits n h zero = h
    one_fits n h (suc i) = omega arith

abbrev pub spelt_int : ℤ → List ℕ
spelt_int n = be32 (cast_unsigned w32 n)

pub int_codec : Codec int_at spelt_int (λ n. FitsSigned w32 n)
unfolding int_at
int_codec =
    refit (λ bytes. number_at bytes >>= made_of (cast_signed w32)) spelt_int (λ n. (a : ℕ) × (n ≡ cast_signed w32 a) × IsNumber a) (λ n. FitsSigned w32 n)
    (λ n f. subst (λ z. FitsSigned w32 z) (sym f.1) (sfits_to_z (record { fits = f.2 })))
    (λ n f. (cast_unsigned w32 n, sym (to_z-of_z w32 n f), (Fits-of_z f).fits))
    (mapped number_at be32 IsNumber (cast_signed w32) spelt_int number_codec (λ a f. ap be32 (of_z-to_z w32 a f)))

-- ---- numbers in text

abbrev pub spelt_decimal : ℤ → List ℕ
spelt_decimal n = short_bytes (signed_decimal n)

some_text : (text : List ℕ) → 0 < get_or text 0 0 → 0 < length text
some_text [] h = absurd (omega arith)
some_text (c ∷ text) h = omega arith

decimal_some : (n : ℤ) → FitsSigned w64 n → 0 < length (signed_decimal n)
decimal_some (pos n) f = some_text (decimal n) (omega (arith, begins_digit n (omega (arith, f.sfits))))
decimal_some (negsuc n) f = omega arith

decimal_short : (n : ℤ) → FitsSigned w64 n → IsShortText 20 (signed_decimal n)
decimal_short n f = (decimal_some n f, length_signed_le 19 n (omega (arith, f.sfits)) f.sfits)

pub decimal_codec : Codec decimal_at spelt_decimal (λ n. FitsSigned w64 n)
unfolding decimal_at
decimal_codec =
    parsed (short_at 20) short_bytes (IsShortText 20) (drop 1) decimal_number signed_decimal (λ n. FitsSigned w64 n) (short_codec 20 (omega arith))
    (λ text n f e. decimal_only text n e)
    (λ n f. (decimal_short n f, decimal_again n (signed_decimal n) f refl))

pub pointer_codec : Codec pointer_at pointer_bytes (λ n. n < 2 ^ 64)
unfolding pointer_at
pointer_codec =
    parsed (short_at 16) short_bytes (IsShortText 16) (drop 1) hex_number hex (λ n. n < 2 ^ 64) (short_codec 16 (omega arith))
    (λ text n f e. (hex_only text n e, hex_small text n f.1 e))
    (λ n f. (hex_short n f, hex_again n f))

-- ---- letters

first_or : (first kind : Kind) (text : List ℕ) (rest : Option Kind) → (rest ≡ Some kind → text ≡ letters kind) → (b : Bool) → bytes_eq (letters first) text ≡ b → cond b (Some first) rest ≡ Some kind → text ≡ letters kind
first_or first kind text rest others true t e = let same : first ≡ kind = cc in sym ((bytes_eq-Decides (letters first) text).0 t) ∙ ap letters same
first_or first kind text rest others false t e = others e

among_only : (some : List Kind) (text : List ℕ) (kind : Kind) → kind_among some text ≡ Some kind → text ≡ letters kind
among_only [] text kind e = absurd cc
among_only (first ∷ others) text kind e = first_or first kind text (kind_among others text) (among_only others text kind) (bytes_eq (letters first) text) refl e

pub named_again : (kind : Kind) → named_kind (letters kind) ≡ Some kind
unfolding named_kind
named_again Chr = refl
named_again Int = refl
named_again Lon = refl
named_again Str = refl
named_again Buf = refl
named_again Ptr = refl
named_again Tim = refl
named_again Htb = refl
named_again Hda = refl
named_again Inf = refl
named_again Inl = refl
named_again Arr = refl

only_some : (test : Kind → Bool) (o : Option Kind) (kind : Kind) → only_if test o ≡ Some kind → (o ≡ Some kind) × (test kind ≡ true)
only_some test None kind e = absurd cc
only_some test (Some first) kind e = by_test (test first) refl e
  where
    by_test : (b : Bool) → test first ≡ b → cond b (Some first) None ≡ Some kind → (Some first ≡ Some kind) × (test kind ≡ true)
    by_test true t e = let same : first ≡ kind = cc in (e, ap test (sym same) ∙ t)
    by_test false t e = absurd cc

named_only : (test : Kind → Bool) (text : List ℕ) (kind : Kind) → only_if test (named_kind text) ≡ Some kind → (text ≡ letters kind) × (test kind ≡ true)
unfolding named_kind
named_only test text kind e = let p = only_some test (kind_among kinds text) kind e in (among_only kinds text kind p.0, p.1)

pub three_letters : (kind : Kind) → length (letters kind) ≡ 3
three_letters Chr = refl
three_letters Int = refl
three_letters Lon = refl
three_letters Str = refl
three_letters Buf = refl
three_letters Ptr = refl
three_letters Tim = refl
three_letters Htb = refl
three_letters Hda = refl
three_letters Inf = refl
three_letters Inl = refl
three_letters Arr = refl

pub kind_codec : (test : Kind → Bool) → Codec (kind_by test) letters (λ kind. test kind ≡ true)
unfolding kind_by
kind_codec test =
    parsed (bytes_at 3) same_bytes (λ text. length text ≡ 3) (λ bytes. bytes) (λ text. only_if test (named_kind text)) letters (λ kind. test kind ≡ true) (long_codec 3)
    (λ text kind f e. named_only test text kind e)
    (λ kind f. (three_letters kind, rw (named_again kind, f) refl))

-- Fields that a short text spells: decimals, pointers and the letters of types.
use Rattle.std.proofs.Common.{◌≡◌, ℕ, zero, suc, ◌<◌, ◌≤◌, ◌^◌, Bool, true, false, cond, ltb, leb, ◌&&◌, List, [], ◌∷◌, ◌++◌, length, get_or, Option, Some, None, refl, sym, ap, subst, ◌∙◌, arith}
use Rattle.std.proofs.lemmas.Bool.{and_parts, and_from, ltb-true, lt-ltb, leb-true, le-leb}
use Rattle.wc_objects.specs.Spelling.{short_bytes}
use Rattle.wc_objects.specs.Reading.{Read, ◌>>=◌, broken_at, spelt_value, bytes_at, short_at}
use Rattle.wc_objects.proofs.Codecs.{IsBytes, Codec, done, bind_ok, value_is, rest_is, chain, refit}
use Rattle.wc_objects.proofs.FieldCodecs.{same_bytes, AreBytes, bytes_codec, long_codec}

-- a value that is read only where a test holds
pub when : {A : Type 0} (b : Bool) (whole : List ℕ) (read : List ℕ → Read A) (spell : A → List ℕ) (F : A → Type 0) → Codec read spell F
    → Codec (λ bytes. cond b (read bytes) (broken_at whole)) spell (λ x. (b ≡ true) × F x)
when {A} true whole read spell F c = refit read spell F (λ x. (true ≡ true) × F x) (λ x f. (refl, f)) (λ x f. f.1) c
when {A} false whole read spell F c = record {
  takes = λ bytes x rest fits e. absurd (let k : broken_at whole ≡ done x rest = e in cc);
  again = λ x rest fits short. absurd (let k : false ≡ true = fits.0 in cc);
}

-- a value that a text spells, where only that text does
pub parsed : {A B : Type 0} (ra : List ℕ → Read A) (sa : A → List ℕ) (FA : A → Type 0) (place : List ℕ → List ℕ) (parse : A → Option B) (print : B → A) (F : B → Type 0)
    → Codec ra sa FA → ((a : A) (b : B) → FA a → parse a ≡ Some b → (a ≡ print b) × F b) → ((b : B) → F b → FA (print b) × (parse (print b) ≡ Some b))
    → Codec (λ bytes. ra bytes >>= λ x. spelt_value (place bytes) x.1 (parse x.0)) (λ b. sa (print b)) F
parsed {A} {B} ra sa FA place parse print F ca only both = record { takes = takes_it; again = again_it }
  where
    found : (whole left : List ℕ) (o : Option B) (y : B) (rest : List ℕ) → spelt_value whole left o ≡ done y rest → (o ≡ Some y) × (left ≡ rest)
    found whole left None y rest e = absurd cc
    found whole left (Some z) y rest e = (ap Some (value_is z y left rest e), rest_is z y left rest e)

    takes_it : (bytes : List ℕ) (y : B) (rest : List ℕ) → IsBytes bytes → (ra bytes >>= λ x. spelt_value (place bytes) x.1 (parse x.0)) ≡ done y rest → (bytes ≡ sa (print y) ++ rest) × IsBytes rest × F y
    takes_it bytes y rest fits e =
        let p = bind_ok (ra bytes) (λ x. spelt_value (place bytes) x.1 (parse x.0)) (y, rest) e in
        let t = ca.takes bytes p.0.0 p.0.1 fits p.1 in
        let g = found (place bytes) p.0.1 (parse p.0.0) y rest p.2 in
        let o = only p.0.0 y t.2 g.0 in
        (t.0 ∙ ap (λ (a : A). sa a ++ p.0.1) o.0 ∙ ap (λ (r : List ℕ). sa (print y) ++ r) g.1, subst IsBytes g.1 t.1, o.1)

    again_it : (y : B) (rest : List ℕ) → F y → length (sa (print y)) < 2 ^ 31 → (ra (sa (print y) ++ rest) >>= λ x. spelt_value (place (sa (print y) ++ rest)) x.1 (parse x.0)) ≡ done y rest
    again_it y rest fits short =
        let b = both y fits in
        let one = ca.again (print y) rest b.0 short in
        ap (λ (r : Read A). r >>= λ x. spelt_value (place (sa (print y) ++ rest)) x.1 (parse x.0)) one ∙ ap (λ (q : Option B). spelt_value (place (sa (print y) ++ rest)) rest q) b.1

-- ---- a text after one byte of length

pub one_byte : (a : List ℕ) → length a ≡ 1 → a ≡ get_or a 0 0 ∷ []
one_byte [] e = absurd (omega arith)
one_byte (x ∷ []) e = refl
one_byte (x ∷ (y ∷ a)) e = absurd (omega arith)

abbrev pub IsShortText : ℕ → List ℕ → Type 0
IsShortText most text = (0 < length text) × (length text ≤ most)

abbrev first_byte : List ℕ → List ℕ
first_byte text = length text ∷ []

abbrev sized : ℕ → ℕ → Bool
sized most size = ltb 0 size && leb size most

pub short_codec : (most : ℕ) → most < 256 → Codec (short_at most) short_bytes (IsShortText most)
unfolding short_at
short_codec most small =
    refit (λ bytes. bytes_at 1 bytes >>= λ n. following bytes n.0 n.1) short_bytes (λ text. AreBytes 1 (first_byte text) × IsShortText most text) (IsShortText most)
    (λ text f. f.1)
    (λ text f. ((refl, one_small text (omega (arith, f.1))), f))
    (chain (bytes_at 1) same_bytes (AreBytes 1) (λ whole n rest. following whole n rest) same_bytes (IsShortText most) first_byte (bytes_codec 1)
    (λ whole n h. refit (following whole n) same_bytes (λ text. (sized most (get_or n 0 0) ≡ true) × (length text ≡ get_or n 0 0)) (λ text. (first_byte text ≡ n) × IsShortText most text)
    (λ text f. let p = and_parts (ltb 0 (get_or n 0 0)) (leb (get_or n 0 0) most) f.0 in
    (ap (λ (k : ℕ). k ∷ []) f.1 ∙ sym (one_byte n h.0), (omega (arith, ltb-true 0 (get_or n 0 0) p.0, f.1), omega (arith, leb-true (get_or n 0 0) most p.1, f.1))))
    (λ text f. let size : length text ≡ get_or n 0 0 = ap (λ (a : List ℕ). get_or a 0 0) f.0 in
    (and_from (ltb 0 (get_or n 0 0)) (leb (get_or n 0 0) most) (lt-ltb 0 (get_or n 0 0) (omega (arith, f.1.0, size))) (le-leb (get_or n 0 0) most (omega (arith, f.1.1, size))), size))
    (when (sized most (get_or n 0 0)) whole (bytes_at (get_or n 0 0)) same_bytes (λ text. length text ≡ get_or n 0 0) (long_codec (get_or n 0 0)))))
  where
    following : List ℕ → List ℕ → List ℕ → Read (List ℕ)
    following whole n rest = cond (ltb 0 (get_or n 0 0) && leb (get_or n 0 0) most) (bytes_at (get_or n 0 0) rest) (broken_at whole)

    one_small : (text : List ℕ) → length text < 256 → IsBytes (first_byte text)
    one_small text h zero = h
    one_small text h (suc i) = omega arith

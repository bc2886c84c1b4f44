-- The fields of a message, each read as it is spelt.
use Rattle.std.proofs.Common.{◌≡◌, ℕ, zero, suc, ◌+◌, ◌<◌, ◌≤◌, ◌^◌, Bool, true, false, cond, ltb, eqb, List, [], ◌++◌, length, take, drop, Option, Some, None, Result, Ok, refl, sym, ap, subst, ◌∙◌, ◌⊎◌, arith, inl, inr}
use Rattle.std.specs.Int.{w32, from_be_bytes}
use Rattle.std.proofs.lemmas.Bool.{cases_lt, ltb-false, ltb-true, le-ltb, lt-ltb, eqb-true, eq-eqb, ne_eqb}
use Rattle.std.proofs.lemmas.List.{take_at, drop_at, take-append-drop, length-append, length-take, get_or-drop, get_or-take, get_or_past}
use Rattle.std.proofs.lemmas.Nat.{be_bytes_4, from_be_bytes-to_be_bytes_4}
use Rattle.wc_objects.specs.Spelling.{be32, text_bytes}
use Rattle.wc_objects.specs.Reading.{Read, ◌>>=◌, broken_at, made_of, bytes_at, number_at, count_at, tested_at, name_by, some_text_at, text_by}
use Rattle.wc_objects.proofs.Codecs.{IsBytes, Codec, done, bind_ok, value_is, rest_is, chain, mapped, refit, refit_short, respell}

-- a test that did not fail
pub guard_ok : {A : Type 0} (b : Bool) (f g y : Result A ℕ) → cond b f g ≡ y → ((b ≡ true) × (f ≡ y)) ⊎ ((b ≡ false) × (g ≡ y))
guard_ok true f g y e = inl (refl, e)
guard_ok false f g y e = inr (refl, e)

pub IsBytes-take : (n : ℕ) (bytes : List ℕ) → IsBytes bytes → IsBytes (take n bytes)
IsBytes-take n bytes h i =
    elim (cases_lt i n) [
      | inl lt ↦ rw (get_or-take n bytes i 0 lt) (h i)
      | inr le ↦ rw (get_or_past (take n bytes) i 0 (omega (arith, length-take n bytes))) (omega arith)
    ]

IsBytes-drop : (n : ℕ) (bytes : List ℕ) → IsBytes bytes → IsBytes (drop n bytes)
IsBytes-drop n bytes h i = rw get_or-drop (h (n + i))

abbrev pub same_bytes : List ℕ → List ℕ
same_bytes bytes = bytes

abbrev pub AreBytes : ℕ → List ℕ → Type 0
AreBytes n text = (length text ≡ n) × IsBytes text

bytes_again : (n : ℕ) (text rest : List ℕ) → length text ≡ n → bytes_at n (text ++ rest) ≡ done text rest
bytes_again n text rest long =
    let enough : ltb (length (text ++ rest)) n ≡ false = le-ltb _ _ (omega (arith, length-append text rest, long)) in
    rw (enough, take_at text rest n long, drop_at text rest n long) refl

pub bytes_codec : (n : ℕ) → Codec (bytes_at n) same_bytes (AreBytes n)
bytes_codec n = record { takes = takes_bytes; again = λ text rest fits short. bytes_again n text rest fits.0 }
  where
    takes_bytes : (bytes text rest : List ℕ) → IsBytes bytes → bytes_at n bytes ≡ done text rest → (bytes ≡ text ++ rest) × IsBytes rest × AreBytes n text
    takes_bytes bytes text rest fits e =
        elim (guard_ok (ltb (length bytes) n) (broken_at bytes) (Ok (take n bytes, drop n bytes)) (done text rest) e) [
          | inl short ↦ absurd (let k = short.1 in cc)
          | inr long ↦
              let t : take n bytes ≡ text = value_is (take n bytes) text (drop n bytes) rest long.1 in
              let r : drop n bytes ≡ rest = rest_is (take n bytes) text (drop n bytes) rest long.1 in
              let enough : n ≤ length bytes = ltb-false (length bytes) n long.0 in (
                sym (take-append-drop n bytes) ∙ ap (λ (x : List ℕ). x ++ drop n bytes) t ∙ ap (λ (x : List ℕ). text ++ x) r,
                subst IsBytes r (IsBytes-drop n bytes fits),
                (omega (arith, ap length t, length-take n bytes), subst IsBytes t (IsBytes-take n bytes fits)),
              )
        ]

-- a value of which a test holds
pub guarded : {A : Type 0} (read : List ℕ → Read A) (spell : A → List ℕ) (F : A → Type 0) (test : A → Bool) → Codec read spell F
    → Codec (λ bytes. read bytes >>= λ x. cond (test x.0) (Ok x) (broken_at bytes)) spell (λ x. F x × (test x ≡ true))
guarded {A} read spell F test c = record { takes = takes_some; again = some_again }
  where
    takes_some : (bytes : List ℕ) (y : A) (rest : List ℕ) → IsBytes bytes → (read bytes >>= λ x. cond (test x.0) (Ok x) (broken_at bytes)) ≡ done y rest → (bytes ≡ spell y ++ rest) × IsBytes rest × (F y × (test y ≡ true))
    takes_some bytes y rest fits e =
        let p = bind_ok (read bytes) (λ x. cond (test x.0) (Ok x) (broken_at bytes)) (y, rest) e in
        elim (guard_ok (test p.0.0) (Ok p.0) (broken_at bytes) (done y rest) p.2) [
          | inl yes' ↦
              let v : p.0.0 ≡ y = value_is p.0.0 y p.0.1 rest yes'.1 in
              let r : p.0.1 ≡ rest = rest_is p.0.0 y p.0.1 rest yes'.1 in
              let t = c.takes bytes p.0.0 p.0.1 fits p.1 in
              (t.0 ∙ ap (λ (x : A). spell x ++ p.0.1) v ∙ ap (λ (x : List ℕ). spell y ++ x) r, subst IsBytes r t.1, (subst F v t.2, ap test (sym v) ∙ yes'.0))
          | inr no' ↦ absurd (let k = no'.1 in cc)
        ]

    some_again : (y : A) (rest : List ℕ) → F y × (test y ≡ true) → length (spell y) < 2 ^ 31 → ((read (spell y ++ rest) >>= λ x. cond (test x.0) (Ok x) (broken_at (spell y ++ rest))) ≡ done y rest)
    some_again y rest fits short = rw (c.again y rest fits.0 short, fits.1) refl

be32-bytes : (n : ℕ) → IsBytes (be32 n)
unfolding be32
be32-bytes n zero = omega arith
be32-bytes n (suc zero) = omega arith
be32-bytes n (suc (suc zero)) = omega arith
be32-bytes n (suc (suc (suc zero))) = omega arith
be32-bytes n (suc (suc (suc (suc i)))) = omega arith

front_back : (front : List ℕ) → AreBytes 4 front → be32 (from_be_bytes w32 front) ≡ front
unfolding be32
front_back front fits = be_bytes_4 front _ fits.0 fits.1 refl

number_below : (front : List ℕ) → IsBytes front → from_be_bytes w32 front < 2 ^ 32
number_below front fits = omega (arith, fits 0, fits 1, fits 2, fits 3)

number_back : (n : ℕ) → n < 2 ^ 32 → from_be_bytes w32 (be32 n) ≡ n
unfolding be32
number_back n h = from_be_bytes-to_be_bytes_4 n h

length-be32 : (n : ℕ) → length (be32 n) ≡ 4
unfolding be32
length-be32 n = refl

abbrev pub IsNumber : ℕ → Type 0
IsNumber n = n < 2 ^ 32

pub number_codec : Codec number_at be32 IsNumber
unfolding number_at
number_codec =
    refit (λ bytes. bytes_at 4 bytes >>= made_of (from_be_bytes w32)) be32 (λ n. (front : List ℕ) × (n ≡ from_be_bytes w32 front) × AreBytes 4 front) IsNumber
    (λ n f. subst IsNumber (sym f.1) (number_below f.0 f.2.1))
    (λ n h. (be32 n, sym (number_back n h), (length-be32 n, be32-bytes n)))
    (mapped (bytes_at 4) same_bytes (AreBytes 4) (from_be_bytes w32) be32 (bytes_codec 4) front_back)

abbrev pub IsCount : ℕ → Type 0
IsCount n = n < 2 ^ 31

pub count_codec : Codec count_at be32 IsCount
unfolding count_at
count_codec =
    refit (λ bytes. number_at bytes >>= λ n. cond (ltb n.0 (2 ^ 31)) (Ok n) (broken_at bytes)) be32 (λ n. IsNumber n × (ltb n (2 ^ 31) ≡ true)) IsCount
    (λ n f. ltb-true n (2 ^ 31) f.1)
    (λ n h. (omega arith, lt-ltb n (2 ^ 31) h))
    (guarded number_at be32 IsNumber (λ n. ltb n (2 ^ 31)) number_codec)

-- ---- texts

pub long_codec : (n : ℕ) → Codec (bytes_at n) same_bytes (λ text. length text ≡ n)
long_codec n = record {
  takes = λ bytes text rest fits e. let t = (bytes_codec n).takes bytes text rest fits e in (t.0, t.1, t.2.0);
  again = λ text rest long short. bytes_again n text rest long;
}

pub tested_codec : (test : List ℕ → Bool) (n : ℕ) → Codec (tested_at test n) same_bytes (λ text. (length text ≡ n) × (test text ≡ true))
unfolding tested_at
tested_codec test n = guarded (bytes_at n) same_bytes (λ text. length text ≡ n) test (long_codec n)

abbrev pub Passes : (List ℕ → Bool) → List ℕ → Type 0
Passes test text = test text ≡ true

-- a text after its length
abbrev pub spelt_name : List ℕ → List ℕ
spelt_name text = be32 (length text) ++ text

name_short : (text : List ℕ) → length (spelt_name text) < 2 ^ 31 → length text < 2 ^ 31
name_short text short = omega (arith, length-append (be32 (length text)) text, short)

pub name_codec : (test : List ℕ → Bool) → Codec (name_by test) spelt_name (Passes test)
unfolding name_by
name_codec test =
    refit_short (λ bytes. count_at bytes >>= λ n. tested_at test n.0 n.1) spelt_name (λ text. IsCount (length text) × Passes test text) (Passes test)
    (λ text f. f.1)
    (λ text f short. (name_short text short, f))
    (chain count_at be32 IsCount (λ whole n rest. tested_at test n rest) same_bytes (Passes test) length count_codec (λ whole n h. tested_codec test n))

-- a text that may be null is told by its length, and null by a length of its own
abbrev pub text_first : Option (List ℕ) → ℕ
text_first None = 4294967295
text_first (Some text) = length text

abbrev pub text_body : Option (List ℕ) → List ℕ
text_body None = []
text_body (Some text) = text

abbrev pub IsShort : (List ℕ → Bool) → Option (List ℕ) → Type 0
IsShort test None = Unit {0}
IsShort test (Some text) = (length text < 2 ^ 31) × Passes test text

-- null, or a text that passes a test
abbrev pub IsText : (List ℕ → Bool) → Option (List ℕ) → Type 0
IsText test None = Unit {0}
IsText test (Some text) = Passes test text

some_codec : (test : List ℕ → Bool) (n : ℕ) → Codec (some_text_at test n) text_body (λ b. (text : List ℕ) × (b ≡ Some text) × ((length text ≡ n) × Passes test text))
unfolding some_text_at
some_codec test n = mapped (tested_at test n) same_bytes (λ text. (length text ≡ n) × Passes test text) Some text_body (tested_codec test n) (λ text f. refl)

abbrev Told : (List ℕ → Bool) → ℕ → Option (List ℕ) → Type 0
Told test n b = (text_first b ≡ n) × IsShort test b

abbrev pub after_length : (List ℕ → Bool) → List ℕ → ℕ → List ℕ → Read (Option (List ℕ))
after_length test whole n rest = cond (eqb n 4294967295) (Ok (None, rest)) (cond (ltb n (2 ^ 31)) (some_text_at test n rest) (broken_at whole))

told_takes : (test : List ℕ → Bool) (whole : List ℕ) (n : ℕ) (bytes : List ℕ) (y : Option (List ℕ)) (rest : List ℕ) → IsBytes bytes → after_length test whole n bytes ≡ done y rest
    → (bytes ≡ text_body y ++ rest) × IsBytes rest × Told test n y
told_takes test whole n bytes y rest fits e =
    elim (guard_ok (eqb n 4294967295) (done None bytes) (cond (ltb n (2 ^ 31)) (some_text_at test n bytes) (broken_at whole)) (done y rest) e) [
      | inl null ↦
          let v : None ≡ y = value_is None y bytes rest null.1 in
          let r : bytes ≡ rest = rest_is None y bytes rest null.1 in
          subst (λ (b : Option (List ℕ)). (bytes ≡ text_body b ++ rest) × IsBytes rest × Told test n b) v (r, subst IsBytes r fits, (sym (eqb-true n 4294967295 null.0), tt))
      | inr other ↦
          elim (guard_ok (ltb n (2 ^ 31)) (some_text_at test n bytes) (broken_at whole) (done y rest) other.1) [
            | inl some ↦
                let t = (some_codec test n).takes bytes y rest fits some.1 in
                let small = ltb-true n (2 ^ 31) some.0 in
                let text = t.2.0 in
                let named : Told test n (Some text) = (t.2.2.0, (omega (arith, t.2.2.0), t.2.2.1)) in
                (t.0, t.1, subst (λ (b : Option (List ℕ)). Told test n b) (sym t.2.1) named)
            | inr long ↦ absurd (let k = long.1 in cc)
          ]
    ]

pub told_again : (test : List ℕ → Bool) (whole : List ℕ) (n : ℕ) (y : Option (List ℕ)) (rest : List ℕ) → Told test n y → length (text_body y) < 2 ^ 31 → after_length test whole n (text_body y ++ rest) ≡ done y rest
told_again test whole n None rest fits short = rw (eq-eqb n 4294967295 (sym fits.0)) refl
told_again test whole n (Some text) rest fits short =
    let small : ltb n (2 ^ 31) ≡ true = lt-ltb n (2 ^ 31) (omega (arith, fits.0, short)) in
    let other : eqb n 4294967295 ≡ false = ne_eqb n 4294967295 (λ e. omega (arith, fits.0, short)) in
    rw (other, small) ((some_codec test n).again (Some text) rest (text, refl, (fits.0, fits.1.1)) short)

pub text_spelt : (b : Option (List ℕ)) → be32 (text_first b) ++ text_body b ≡ text_bytes b
unfolding text_bytes be32
text_spelt None = refl
text_spelt (Some text) = refl

text_short : (test : List ℕ → Bool) (b : Option (List ℕ)) → IsText test b → length (be32 (text_first b) ++ text_body b) < 2 ^ 31 → IsNumber (text_first b) × IsShort test b
text_short test None fits short = (omega arith, tt)
text_short test (Some text) fits short = let small = name_short text short in (omega arith, (small, fits))

text_fits : (test : List ℕ → Bool) (b : Option (List ℕ)) → IsShort test b → IsText test b
text_fits test None fits = tt
text_fits test (Some text) fits = fits.1

-- the length, and what comes after it
pub told_codec : (test : List ℕ → Bool) → Codec (λ bytes. number_at bytes >>= λ n. after_length test bytes n.0 n.1) (λ b. be32 (text_first b) ++ text_body b) (λ b. IsNumber (text_first b) × IsShort test b)
told_codec test =
    chain number_at be32 IsNumber (λ whole n rest. after_length test whole n rest) text_body (IsShort test) text_first number_codec
    (λ whole n h. record { takes = told_takes test whole n; again = told_again test whole n })

pub text_codec : (test : List ℕ → Bool) → Codec (text_by test) text_bytes (IsText test)
unfolding text_by
text_codec test =
    respell (λ bytes. number_at bytes >>= λ n. after_length test bytes n.0 n.1) (λ b. be32 (text_first b) ++ text_body b) text_bytes (IsText test) (λ b f. text_spelt b)
    (refit_short (λ bytes. number_at bytes >>= λ n. after_length test bytes n.0 n.1) (λ b. be32 (text_first b) ++ text_body b) (λ b. IsNumber (text_first b) × IsShort test b) (IsText test)
    (λ b f. text_fits test b f.1)
    (λ b f short. text_short test b f short)
    (told_codec test))

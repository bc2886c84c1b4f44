-- A value that is read is spelt by the bytes it took, and what spells a value is read as it.
use Rattle.std.proofs.Common.{◌≡◌, ℕ, zero, suc, ◌+◌, ◌<◌, ◌^◌, List, [], ◌∷◌, ◌++◌, length, drop, get_or, Result, Ok, Err, refl, sym, ap, subst, ◌∙◌, append_assoc, arith}
use Rattle.std.specs.List.{flat_map, AllByRecursion}
use Rattle.std.proofs.lemmas.List.{length-append, get_or-drop}
use Rattle.std.proofs.lemmas.List.Concat.{flat_map-cons}
use Rattle.wc_objects.specs.Reading.{Read, ◌>>=◌, made_of, times}

abbrev pub IsBytes : List ℕ → Type 0
IsBytes bytes = (i : ℕ) → get_or bytes i 0 < 256

IsBytes-drop : (n : ℕ) (bytes : List ℕ) → IsBytes bytes → IsBytes (drop n bytes)
IsBytes-drop n bytes h i = rw get_or-drop (h (n + i))

abbrev pub done : {A : Type 0} → A → List ℕ → Read A
done x rest = Ok (x, rest)

-- reading, its spelling, and the values that have one
pub record Codec {A : Type 0} (read : List ℕ → Read A) (spell : A → List ℕ) (Fits : A → Type 0) : Type 0 where
  pub takes : (bytes : List ℕ) (x : A) (rest : List ℕ) → IsBytes bytes → read bytes ≡ done x rest → (bytes ≡ spell x ++ rest) × IsBytes rest × Fits x
  pub again : (x : A) (rest : List ℕ) → Fits x → length (spell x) < 2 ^ 31 → read (spell x ++ rest) ≡ done x rest

pub bind_ok : {A B : Type 0} (r : Result A ℕ) (f : A → Result B ℕ) (y : B) → (r >>= f) ≡ Ok y → (x : A) × (r ≡ Ok x) × (f x ≡ Ok y)
bind_ok (Ok x) f y e = (x, refl, e)
bind_ok (Err d) f y e = absurd cc

abbrev okay : {A : Type 0} → A × List ℕ → Read A
okay x = Ok x

both_are : {A : Type 0} (x y : A × List ℕ) → okay x ≡ okay y → x ≡ y
both_are x y e = cc

pub value_is : {A : Type 0} (x y : A) (r s : List ℕ) → done x r ≡ done y s → x ≡ y
value_is x y r s e = ap (λ p. p.0) (both_are (x, r) (y, s) e)

pub rest_is : {A : Type 0} (x y : A) (r s : List ℕ) → done x r ≡ done y s → r ≡ s
rest_is x y r s e = ap (λ p. p.1) (both_are (x, r) (y, s) e)

-- first one value, and then another that may depend on it and tells it
pub chain : {A B : Type 0} (ra : List ℕ → Read A) (sa : A → List ℕ) (FA : A → Type 0) (rb : List ℕ → A → List ℕ → Read B) (sb : B → List ℕ) (FB : B → Type 0) (first : B → A)
    → Codec ra sa FA → ((whole : List ℕ) (a : A) → FA a → Codec (rb whole a) sb (λ b. (first b ≡ a) × FB b))
    → Codec (λ bytes. ra bytes >>= λ x. rb bytes x.0 x.1) (λ b. sa (first b) ++ sb b) (λ b. FA (first b) × FB b)
chain {A} {B} ra sa FA rb sb FB first ca cb = record {
  takes = λ bytes y rest fits e.
      let p = bind_ok (ra bytes) (λ x. rb bytes x.0 x.1) (y, rest) e in
      let t = ca.takes bytes p.0.0 p.0.1 fits p.1 in
      let u = (cb bytes p.0.0 t.2).takes p.0.1 y rest t.1 p.2 in
      let spelt : bytes ≡ (sa (first y) ++ sb y) ++ rest = t.0 ∙ ap (λ (r : List ℕ). sa p.0.0 ++ r) u.0 ∙ ap (λ (a : A). sa a ++ (sb y ++ rest)) (sym u.2.0) ∙ sym (append_assoc (sa (first y)) (sb y) rest) in
      (spelt, u.1, (subst FA (sym u.2.0) t.2, u.2.1));
  again = λ y rest fits short.
      let one = ca.again (first y) (sb y ++ rest) fits.0 (omega (arith, length-append (sa (first y)) (sb y), short)) in
      let whole = sa (first y) ++ (sb y ++ rest) in
      let two = (cb whole (first y) fits.0).again y rest (refl, fits.1) (omega (arith, length-append (sa (first y)) (sb y), short)) in
      ap (λ (bytes : List ℕ). ra bytes >>= λ x. rb bytes x.0 x.1) (append_assoc (sa (first y)) (sb y) rest) ∙ ap (λ (r : Read A). r >>= λ x. rb whole x.0 x.1) one ∙ two;
}

-- the same values, seen otherwise
pub mapped : {A B : Type 0} (ra : List ℕ → Read A) (sa : A → List ℕ) (FA : A → Type 0) (f : A → B) (sb : B → List ℕ)
    → Codec ra sa FA → ((a : A) → FA a → sb (f a) ≡ sa a) → Codec (λ bytes. ra bytes >>= made_of f) sb (λ b. (a : A) × (b ≡ f a) × FA a)
mapped {A} {B} ra sa FA f sb ca same = record {
  takes = λ bytes y rest fits e.
      let p = bind_ok (ra bytes) (made_of f) (y, rest) e in
      let t = ca.takes bytes p.0.0 p.0.1 fits p.1 in
      let is : f p.0.0 ≡ y = value_is (f p.0.0) y p.0.1 rest p.2 in
      let left : p.0.1 ≡ rest = rest_is (f p.0.0) y p.0.1 rest p.2 in
      (t.0 ∙ ap (λ (x : List ℕ). x ++ p.0.1) (sym (same p.0.0 t.2)) ∙ ap (λ (b : B). sb b ++ p.0.1) is ∙ ap (λ (r : List ℕ). sb y ++ r) left, subst IsBytes left t.1, (p.0.0, sym is, t.2));
  again = λ y rest fits short.
      let spelling : sb y ≡ sa fits.0 = ap sb fits.1 ∙ same fits.0 fits.2 in
      let one = ca.again fits.0 rest fits.2 (omega (arith, ap length spelling, short)) in
      ap (λ (x : List ℕ). ra (x ++ rest) >>= made_of f) spelling ∙ ap (λ (r : Read A). r >>= made_of f) one ∙ ap (λ (b : B). done b rest) (sym fits.1);
}

pub refit : {A : Type 0} (read : List ℕ → Read A) (spell : A → List ℕ) (F G : A → Type 0) → ((x : A) → F x → G x) → ((x : A) → G x → F x) → Codec read spell F → Codec read spell G
refit read spell F G to from c = record {
  takes = λ bytes x rest fits e. let t = c.takes bytes x rest fits e in (t.0, t.1, to x t.2);
  again = λ x rest fits short. c.again x rest (from x fits) short;
}

pub refit_short : {A : Type 0} (read : List ℕ → Read A) (spell : A → List ℕ) (F G : A → Type 0) → ((x : A) → F x → G x) → ((x : A) → G x → length (spell x) < 2 ^ 31 → F x) → Codec read spell F → Codec read spell G
refit_short read spell F G to from c = record {
  takes = λ bytes x rest fits e. let t = c.takes bytes x rest fits e in (t.0, t.1, to x t.2);
  again = λ x rest fits short. c.again x rest (from x fits short) short;
}

pub respell : {A : Type 0} (read : List ℕ → Read A) (spell other : A → List ℕ) (F : A → Type 0) → ((x : A) → F x → spell x ≡ other x) → Codec read spell F → Codec read other F
respell read spell other F same c = record {
  takes = λ bytes x rest fits e. let t = c.takes bytes x rest fits e in (t.0 ∙ ap (λ (front : List ℕ). front ++ rest) (same x t.2), t.1, t.2);
  again = λ x rest fits short. ap (λ (front : List ℕ). read (front ++ rest)) (sym (same x fits)) ∙ c.again x rest fits (omega (arith, ap length (same x fits), short));
}

-- the same where what the second is depends on the first
pub chain_tied : {A B : Type 0} (ra : List ℕ → Read A) (sa : A → List ℕ) (FA : A → Type 0) (rb : List ℕ → A → List ℕ → Read B) (sb : B → List ℕ) (G : A → B → Type 0) (first : B → A)
    → ((a : A) (b : B) → G a b → first b ≡ a) → Codec ra sa FA → ((whole : List ℕ) (a : A) → FA a → Codec (rb whole a) sb (G a))
    → Codec (λ bytes. ra bytes >>= λ x. rb bytes x.0 x.1) (λ b. sa (first b) ++ sb b) (λ b. FA (first b) × G (first b) b)
chain_tied {A} {B} ra sa FA rb sb G first tells ca cb =
    chain ra sa FA rb sb (λ b. G (first b) b) first ca
    (λ whole a h. refit (rb whole a) sb (G a) (λ b. (first b ≡ a) × G (first b) b)
    (λ b g. (tells a b g, subst (λ (z : A). G z b) (sym (tells a b g)) g))
    (λ b g. subst (λ (z : A). G z b) g.0 g.1)
    (cb whole a h))

-- values one after the other
abbrev pub AreAll : {A : Type 0} → ℕ → (A → Type 0) → List A → Type 0
AreAll n F xs = (length xs ≡ n) × AllByRecursion F xs

none_again : {A : Type 0} (read : List ℕ → Read A) (spell : A → List ℕ) (F : A → Type 0) (xs : List A) (rest : List ℕ) → AreAll 0 F xs → times 0 read (flat_map spell xs ++ rest) ≡ done xs rest
unfolding times
none_again read spell F [] rest fits = refl
none_again read spell F (x ∷ xs) rest fits = absurd (omega (arith, fits.0))

none_takes : {A : Type 0} (read : List ℕ → Read A) (spell : A → List ℕ) (F : A → Type 0) (bytes : List ℕ) (xs : List A) (rest : List ℕ) → IsBytes bytes → times 0 read bytes ≡ done xs rest
    → (bytes ≡ flat_map spell xs ++ rest) × IsBytes rest × AreAll 0 F xs
unfolding times
none_takes {A} read spell F bytes xs rest fits e =
    let none : [] ≡ xs = value_is [] xs bytes rest e in
    let left : bytes ≡ rest = rest_is [] xs bytes rest e in
    (left ∙ ap (λ (all : List A). flat_map spell all ++ rest) none, subst IsBytes left fits, subst (λ (all : List A). AreAll 0 F all) none (refl, tt))

abbrev more : {A : Type 0} → ℕ → (List ℕ → Read A) → A × List ℕ → Read (List A)
more n read first = times n read first.1 >>= λ others. Ok (first.0 ∷ others.0, others.1)

some_takes : {A : Type 0} (n : ℕ) (read : List ℕ → Read A) (spell : A → List ℕ) (F : A → Type 0) → Codec read spell F → Codec (times n read) (flat_map spell) (AreAll n F)
    → (bytes : List ℕ) (xs : List A) (rest : List ℕ) → IsBytes bytes → times (suc n) read bytes ≡ done xs rest → (bytes ≡ flat_map spell xs ++ rest) × IsBytes rest × AreAll (suc n) F xs
unfolding times
some_takes {A} n read spell F c others bytes xs rest fits e =
    let p = bind_ok (read bytes) (more n read) (xs, rest) e in
    let q = bind_ok (times n read p.0.1) (λ (x : List A × List ℕ). Ok (p.0.0 ∷ x.0, x.1)) (xs, rest) p.2 in
    let t = c.takes bytes p.0.0 p.0.1 fits p.1 in
    let u = others.takes p.0.1 q.0.0 q.0.1 t.1 q.1 in
    let is : p.0.0 ∷ q.0.0 ≡ xs = value_is (p.0.0 ∷ q.0.0) xs q.0.1 rest q.2 in
    let left : q.0.1 ≡ rest = rest_is (p.0.0 ∷ q.0.0) xs q.0.1 rest q.2 in
    let spelt : bytes ≡ flat_map spell (p.0.0 ∷ q.0.0) ++ q.0.1 =
    t.0 ∙ ap (λ (r : List ℕ). spell p.0.0 ++ r) u.0 ∙ sym (append_assoc (spell p.0.0) (flat_map spell q.0.0) q.0.1) ∙ ap (λ (r : List ℕ). r ++ q.0.1) (sym (flat_map-cons spell p.0.0 q.0.0)) in (
      spelt ∙ ap (λ (all : List A). flat_map spell all ++ q.0.1) is ∙ ap (λ (r : List ℕ). flat_map spell xs ++ r) left,
      subst IsBytes left u.1,
      subst (λ (all : List A). AreAll (suc n) F all) is (ap suc u.2.0, (t.2, u.2.1)),
    )

some_again : {A : Type 0} (n : ℕ) (read : List ℕ → Read A) (spell : A → List ℕ) (F : A → Type 0) → Codec read spell F → Codec (times n read) (flat_map spell) (AreAll n F)
    → (xs : List A) (rest : List ℕ) → AreAll (suc n) F xs → length (flat_map spell xs) < 2 ^ 31 → times (suc n) read (flat_map spell xs ++ rest) ≡ done xs rest
unfolding times
some_again n read spell F c others [] rest fits short = absurd (omega (arith, fits.0))
some_again {A} n read spell F c others (x ∷ xs) rest fits short =
    let long = length-append (spell x) (flat_map spell xs) in
    let parts = ap length (flat_map-cons spell x xs) in
    let one = c.again x (flat_map spell xs ++ rest) fits.1.0 (omega (arith, long, parts, short)) in
    let two = others.again xs rest (omega (arith, fits.0), fits.1.1) (omega (arith, long, parts, short)) in
    let regrouped : flat_map spell (x ∷ xs) ++ rest ≡ spell x ++ (flat_map spell xs ++ rest) = ap (λ (r : List ℕ). r ++ rest) (flat_map-cons spell x xs) ∙ append_assoc (spell x) (flat_map spell xs) rest in
    ap (λ (bytes : List ℕ). read bytes >>= more n read) regrouped ∙ ap (λ (r : Read A). r >>= more n read) one
    ∙ ap (λ (r : Read (List A)). r >>= λ others. Ok (x ∷ others.0, others.1)) two

pub all_times : {A : Type 0} (n : ℕ) (read : List ℕ → Read A) (spell : A → List ℕ) (F : A → Type 0) → Codec read spell F → Codec (times n read) (flat_map spell) (AreAll n F)
all_times zero read spell F c = record { takes = none_takes read spell F; again = λ xs rest fits short. none_again read spell F xs rest fits }
all_times (suc n) read spell F c = record { takes = some_takes n read spell F c (all_times n read spell F c); again = some_again n read spell F c (all_times n read spell F c) }

-- Values after their count.
use Rattle.std.proofs.Common.{◌≡◌, ℕ, ◌<◌, ◌≤◌, Bool, true, List, [], ◌∷◌, length, refl, ap, arith}
use Rattle.std.specs.List.{flat_map, list_all, AllByRecursion}
use Rattle.std.proofs.lemmas.Bool.{and_parts, and_from}
use Rattle.std.proofs.lemmas.List.{length-append}
use Rattle.std.proofs.lemmas.List.Concat.{flat_map-cons}
use Rattle.wc_objects.specs.Spelling.{be32, with_count}
use Rattle.wc_objects.specs.Reading.{Read, ◌>>=◌, count_at, times, counted_at}
use Rattle.wc_objects.proofs.Codecs.{Codec, chain, all_times, refit_short}
use Rattle.wc_objects.proofs.FieldCodecs.{IsCount, count_codec}

count_le : {A : Type 0} (spell : A → List ℕ) (F : A → Type 0) → ((x : A) → F x → 0 < length (spell x)) → (xs : List A) → AllByRecursion F xs → length xs ≤ length (flat_map spell xs)
count_le spell F some [] fits = omega arith
count_le spell F some (x ∷ xs) fits =
    omega (arith, ap length (flat_map-cons spell x xs), length-append (spell x) (flat_map spell xs), some x fits.0, count_le spell F some xs fits.1)

-- each value takes a byte at least, so that the count is small
pub counted_codec : {A : Type 0} (read : List ℕ → Read A) (spell : A → List ℕ) (F : A → Type 0) → ((x : A) → F x → 0 < length (spell x)) → Codec read spell F → Codec (counted_at read) (with_count spell) (AllByRecursion F)
unfolding counted_at
counted_codec {A} read spell F some c =
    refit_short (λ bytes. count_at bytes >>= λ n. times n.0 read n.1) (with_count spell) (λ xs. IsCount (length xs) × AllByRecursion F xs) (AllByRecursion F)
    (λ xs f. f.1)
    (λ xs f short. (omega (arith, count_le spell F some xs f, length-append (be32 (length xs)) (flat_map spell xs), short), f))
    (chain count_at be32 IsCount (λ whole n rest. times n read rest) (flat_map spell) (AllByRecursion F) length count_codec (λ whole n h. all_times n read spell F c))

-- a test and a fact of each value
abbrev pub Both : {A : Type 0} → (A → Bool) → (A → Type 0) → A → Type 0
Both test F x = (test x ≡ true) × F x

pub each_both : {A : Type 0} (test : A → Bool) (F : A → Type 0) (xs : List A) → list_all test xs ≡ true → AllByRecursion F xs → AllByRecursion (Both test F) xs
each_both test F [] t f = tt
each_both test F (x ∷ xs) t f = let p = and_parts (test x) (list_all test xs) t in ((p.0, f.0), each_both test F xs p.1 f.1)

pub both_tests : {A : Type 0} (test : A → Bool) (F : A → Type 0) (xs : List A) → AllByRecursion (Both test F) xs → list_all test xs ≡ true
both_tests test F [] f = refl
both_tests test F (x ∷ xs) f = and_from (test x) (list_all test xs) f.0.0 (both_tests test F xs f.1)

pub both_facts : {A : Type 0} (test : A → Bool) (F : A → Type 0) (xs : List A) → AllByRecursion (Both test F) xs → AllByRecursion F xs
both_facts test F [] f = tt
both_facts test F (x ∷ xs) f = (f.0.1, both_facts test F xs f.1)

pub each_as : {A : Type 0} (F G : A → Type 0) → ((x : A) → F x → G x) → (xs : List A) → AllByRecursion F xs → AllByRecursion G xs
each_as F G to [] f = tt
each_as F G to (x ∷ xs) f = (to x f.0, each_as F G to xs f.1)

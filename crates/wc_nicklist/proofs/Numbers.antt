-- Short names are under their numbers, and the others under their bytes.
use Rattle.std.proofs.Common.{◌≡◌, ℕ, zero, suc, ◌+◌, ◌*◌, ◌<◌, ◌≤◌, Bool, true, false, cond, Option, None, List, [], ◌∷◌, length, refl, sym, ap, ◌∙◌, arith}
use Rattle.std.specs.Prelude.{bytes_eq, nat_eq, nat_le, nat_lt, ◌&&◌}
use Rattle.std.specs.HashMap.{IsEmpty}
use Rattle.std.specs.Map.{lookup}
use Rattle.std.specs.Cmp.Lexicographic.{bytes_decides}
use Rattle.std.proofs.lemmas.Bool.{true≢false, cond-false}
use Rattle.std.proofs.lemmas.Bool.Decides.{nat_tests}
use Rattle.wc_nicklist.specs.declared.store.RowId.{RowId}
use Rattle.wc_nicklist.specs.declared.by_name.IdsByName.{IdsByName}
use Rattle.wc_nicklist.specs.Digest.{front, IsBytes}
use Rattle.wc_nicklist.specs.Index.{are_bytes, is_short, number, at_short, at_long, at_name}
use Rattle.wc_nicklist.proofs.Digests.{AreBytes, front_same}
use Rattle.wc_nicklist.proofs.OrderLaws.{by_bool, bytes_true}

and_left : (a b : Bool) → a && b ≡ true → a ≡ true
and_left true b e = refl
and_left false b e = e

and_right : (a b : Bool) → a && b ≡ true → b ≡ true
and_right true b e = e
and_right false b e = absurd (true≢false (sym e))

-- what is short
all_bytes : (n : ℕ) (xs : List ℕ) → are_bytes xs ≡ true → AreBytes n xs
all_bytes zero xs h = tt
all_bytes (suc n) [] h = tt
all_bytes (suc n) (x ∷ xs) h =
    let t : nat_lt x 256 ≡ true = and_left (nat_lt x 256) (are_bytes xs) h in
    (grind (arith, nat_tests), all_bytes n xs (and_right (nat_lt x 256) (are_bytes xs) h))

bytes_all : (xs : List ℕ) → IsBytes xs → are_bytes xs ≡ true
bytes_all [] h = refl
bytes_all (x ∷ xs) h =
    let l : x < 256 = h 0 in
    let t : nat_lt x 256 ≡ true = grind (arith, nat_tests) in
    rw t (bytes_all xs (λ i. h (suc i)))

pub short_is : (name : List ℕ) → IsBytes name → length name ≤ 15 → is_short name ≡ true
unfolding is_short
short_is name h l =
    let t : nat_le (length name) 15 ≡ true = grind (arith, nat_tests) in
    rw t (bytes_all name h)

pub long_is : (name : List ℕ) → 15 < length name → is_short name ≡ false
unfolding is_short
long_is name l = let t : nat_le (length name) 15 ≡ false = grind (arith, nat_tests) in rw t refl

pub number_is : (name : List ℕ) → front 15 name * 256 + length name ≡ number name
unfolding number
number_is name = refl

-- a short name is told by its number
one_number : (a b : List ℕ) → is_short a ≡ true → is_short b ≡ true → number a ≡ number b → a ≡ b
unfolding is_short number
one_number a b s t e =
    let u : nat_le (length a) 15 ≡ true = and_left (nat_le (length a) 15) (are_bytes a) s in
    let v : nat_le (length b) 15 ≡ true = and_left (nat_le (length b) 15) (are_bytes b) t in
    let l : length a ≤ 15 = grind (arith, nat_tests) in
    let m : length b ≤ 15 = grind (arith, nat_tests) in
    let fronts : front 15 a ≡ front 15 b = omega (arith, e, l, m) in
    let lengths : length a ≡ length b = omega (arith, e, fronts) in
    front_same 15 a b (all_bytes 15 a (and_right (nat_le (length a) 15) (are_bytes a) s)) (all_bytes 15 b (and_right (nat_le (length b) 15) (are_bytes b) t)) l lengths fronts

eq_true : (n m : ℕ) → nat_eq n m ≡ true → n ≡ m
eq_true n m t = grind (arith, nat_tests)

eq_false : (n m : ℕ) → (n ≡ m → ⊥) → nat_eq n m ≡ false
eq_false n m h = by_bool (nat_eq n m) _ (λ t. absurd (h (eq_true n m t))) (λ f. f)

eq_same : (n m : ℕ) → n ≡ m → nat_eq n m ≡ true
eq_same n m e = grind (arith, nat_tests)

pub by_number : (a b : List ℕ) → is_short a ≡ true → is_short b ≡ true → nat_eq (number a) (number b) ≡ bytes_eq a b
by_number a b s t = by_bool (bytes_eq a b) _
    (λ y. eq_same (number a) (number b) (ap number (bytes_true a b y)) ∙ sym y)
    (λ n. eq_false (number a) (number b) (λ e. true≢false (sym (itself a b (one_number a b s t e)) ∙ n)) ∙ sym n)
  where
    itself : (x y : List ℕ) → x ≡ y → bytes_eq x y ≡ true
    itself x y e = (bytes_decides x y).1 e

differ : (a b : List ℕ) (x y : Bool) → is_short a ≡ x → is_short b ≡ y → (x ≡ y → ⊥) → bytes_eq a b ≡ false
differ a b x y s t n = by_bool (bytes_eq a b) _
    (λ e. absurd (n (sym s ∙ ap is_short (bytes_true a b e) ∙ t)))
    (λ e. e)

-- what an update under a name leaves under any name
pub short_update : (a : List ℕ) (n : ℕ) (p : IdsByName) (short : _) (w : Option RowId) → is_short a ≡ true → n ≡ number a → ((m : ℕ) → at_short short m ≡ cond (nat_eq n m) w (at_short p.short m)) → (q : List ℕ) → at_name (record { short = short; long = p.long }) q ≡ cond (bytes_eq a q) w (at_name p q)
unfolding at_name
short_update a n p short w s e h q = by_bool (is_short q) _
    (λ t. rw t (h (number q) ∙ ap (λ b. cond b w (at_short p.short (number q))) (ap (λ k. nat_eq k (number q)) e ∙ by_number a q s t)))
    (λ t. rw t (sym (cond-false (bytes_eq a q) w (at_long p.long q) (differ a q true false s t true≢false))))

pub long_update : (a : List ℕ) (p : IdsByName) (long : _) (w : Option RowId) → is_short a ≡ false → ((m : List ℕ) → at_long long m ≡ cond (bytes_eq a m) w (at_long p.long m)) → (q : List ℕ) → at_name (record { short = p.short; long = long }) q ≡ cond (bytes_eq a q) w (at_name p q)
unfolding at_name
long_update a p long w s h q = by_bool (is_short q) _
    (λ t. rw t (sym (cond-false (bytes_eq a q) w (at_short p.short (number q)) (differ a q false true s t (λ e. true≢false (sym e))))))
    (λ t. rw t (h q))

-- maps with the same under each number and each name
pub name_same : (p : IdsByName) (short : _) (long : _) → ((n : ℕ) → at_short short n ≡ at_short p.short n) → ((m : List ℕ) → at_long long m ≡ at_long p.long m) → (q : List ℕ) → at_name (record { short = short; long = long }) q ≡ at_name p q
unfolding at_name
name_same p short long h l q = by_bool (is_short q) _ (λ t. rw t (h (number q))) (λ t. rw t (l q))

pub name_short : (p : IdsByName) (q : List ℕ) → is_short q ≡ true → at_short p.short (number q) ≡ at_name p q
unfolding at_name
name_short p q t = rw t refl

pub name_long : (p : IdsByName) (q : List ℕ) → is_short q ≡ false → at_long p.long q ≡ at_name p q
unfolding at_name
name_long p q t = rw t refl

pub name_none : (p : IdsByName) → IsEmpty p.short → IsEmpty p.long → (q : List ℕ) → at_name p q ≡ None
unfolding at_name
name_none p s l q = by_bool (is_short q) _
    (λ t. rw t (ap (λ es. lookup (λ k. nat_eq (number q) k) es) s))
    (λ t. rw t (ap (λ es. lookup (λ k. bytes_eq q k.items) es) l))

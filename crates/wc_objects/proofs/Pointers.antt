-- A pointer's text is read as the number that it was written of, and only that text is.
use Rattle.std.proofs.Common.{◌≡◌, ℕ, suc, ◌+◌, ◌*◌, ◌/◌, ◌%◌, ◌<◌, ◌≤◌, ◌^◌, Bool, true, false, cond, not, ◌&&◌, ◌||◌, Some, None, List, [], ◌∷◌, ◌++◌, map, length, get_or, reverse, refl, sym, ap, ◌∙◌, subst, arith, eqb, ltb, leb}
use Rattle.std.specs.List.{list_all}
use Rattle.std.specs.Int.Digits.{digits_of, number_from_digits, AllBelowBase}
use Rattle.std.proofs.lemmas.Bool.{and_parts, and_from, eqb-true, le-leb, lt-ltb, ne_eqb}
use Rattle.std.proofs.lemmas.Bool.Decides.{nat_tests}
use Rattle.std.proofs.lemmas.List.{reverse-append, reverse-reverse, length-map}
use Rattle.std.proofs.Math.Nat.{pow-le-pow_right}
use Rattle.std.proofs.lemmas.Int.Digits.{digits_of_step, number_push, number_digits_of, first_digits_of, all_below_base_digits_of, length-digits_of-le, number_lt}
use Rattle.wc_objects.specs.Hex.{glyph, is_hex, digit, hex, hex_number}

by_bool : (b : Bool) (P : Type 0) → (b ≡ true → P) → (b ≡ false → P) → P
by_bool true P t f = t refl
by_bool false P t f = f refl

-- digits from the least on
value : List ℕ → ℕ
value [] = 0
value (d ∷ ds) = value ds * 16 + d

Low : List ℕ → Type 0
Low [] = Unit {0}
Low (d ∷ ds) = (d < 16) × Low ds

-- the greatest digit is not 0
Top : List ℕ → Type 0
Top [] = ⊥
Top (d ∷ []) = 0 < d
Top (d ∷ (e ∷ ds)) = Top (e ∷ ds)

positive : (ds : List ℕ) → Top ds → 0 < value ds
unfolding Top value
positive [] t = absurd t
positive (d ∷ []) t = omega arith
positive (d ∷ (e ∷ ds)) t = let p = positive (e ∷ ds) t in omega arith

reverse_cons : (d : ℕ) (ds : List ℕ) → reverse (d ∷ ds) ≡ reverse ds ++ d ∷ []
reverse_cons d ds = reverse-append (d ∷ []) ds

quotient : (v d : ℕ) → d < 16 → ((v * 16 + d) / 16 ≡ v) × ((v * 16 + d) % 16 ≡ d)
quotient v d l = (omega arith, omega arith)

digits_of_value : (ds : List ℕ) → Low ds → Top ds → digits_of 16 (value ds) ≡ reverse ds
unfolding Low Top value
digits_of_value [] l t = absurd t
digits_of_value (d ∷ []) l t =
    let q = quotient 0 d l.0 in
    digits_of_step 16 (0 * 16 + d) (omega arith) (omega arith) ∙ rw (q.0, q.1) refl
digits_of_value (d ∷ (e ∷ ds)) l t =
    let v = value (e ∷ ds) in
    let q = quotient v d l.0 in
    digits_of_step 16 (v * 16 + d) (omega arith) (let p = positive (e ∷ ds) t in omega arith)
    ∙ ap (λ z. digits_of 16 z ++ ((v * 16 + d) % 16) ∷ []) q.0 ∙ ap (λ z. digits_of 16 v ++ z ∷ []) q.1
    ∙ ap (λ z. z ++ d ∷ []) (digits_of_value (e ∷ ds) l.1 t) ∙ sym (reverse_cons d (e ∷ ds))

number_value : (ds : List ℕ) → number_from_digits 16 (reverse ds) ≡ value ds
unfolding value
number_value [] = refl
number_value (d ∷ ds) = ap (number_from_digits 16) (reverse_cons d ds) ∙ number_push 16 (reverse ds) d ∙ ap (λ n. n * 16 + d) (number_value ds)

-- from a text
top_push : (ds : List ℕ) (d : ℕ) → 0 < d → Top (ds ++ d ∷ [])
unfolding Top
top_push [] d l = l
top_push (e ∷ []) d l = l
top_push (e ∷ (f ∷ ds)) d l = top_push (f ∷ ds) d l

low_push : (ds : List ℕ) (d : ℕ) → Low ds → d < 16 → Low (ds ++ d ∷ [])
unfolding Low
low_push [] d h l = (l, tt)
low_push (e ∷ ds) d h l = (h.0, low_push ds d h.1 l)

digit_low : (c : ℕ) → is_hex c ≡ true → digit c < 16
digit_low c h = grind (arith, nat_tests)

glyph-digit : (c : ℕ) → is_hex c ≡ true → glyph (digit c) ≡ c
glyph-digit c h = grind (arith, nat_tests)

digit-glyph : (d : ℕ) → d < 16 → digit (glyph d) ≡ d
digit-glyph d h = grind (arith, nat_tests)

is_hex-glyph : (d : ℕ) → d < 16 → is_hex (glyph d) ≡ true
is_hex-glyph d h = grind (arith, nat_tests)

low_nil : Low []
unfolding Low
low_nil = tt

low_digits : (cs : List ℕ) → list_all is_hex cs ≡ true → Low (reverse (map digit cs))
low_digits [] h = low_nil
low_digits (c ∷ cs) h =
    let p = and_parts (is_hex c) (list_all is_hex cs) h in
    subst Low (sym (reverse_cons (digit c) (map digit cs))) (low_push (reverse (map digit cs)) (digit c) (low_digits cs p.1) (digit_low c p.0))

glyphs : (cs : List ℕ) → list_all is_hex cs ≡ true → map glyph (map digit cs) ≡ cs
glyphs [] h = refl
glyphs (c ∷ cs) h =
    let p = and_parts (is_hex c) (list_all is_hex cs) h in
    λ i. glyph-digit c p.0 i ∷ glyphs cs p.1 i

back : (cs : List ℕ) → reverse (reverse (map digit cs)) ≡ map digit cs
back cs = reverse-reverse (map digit cs)

spelt : (c : ℕ) (cs : List ℕ) → list_all is_hex (c ∷ cs) ≡ true → 0 < digit c → hex (number_from_digits 16 (map digit (c ∷ cs))) ≡ c ∷ cs
unfolding hex
spelt c cs h l =
    let ds = reverse (map digit (c ∷ cs)) in
    let top : Top ds = subst Top (sym (reverse_cons (digit c) (map digit cs))) (top_push (reverse (map digit cs)) (digit c) l) in
    let n : number_from_digits 16 (map digit (c ∷ cs)) ≡ value ds = ap (number_from_digits 16) (sym (back (c ∷ cs))) ∙ number_value ds in
    let p = positive ds top in
    let z : eqb (value ds) 0 ≡ false = ne_eqb (value ds) 0 (λ e. omega arith) in
    ap hex n ∙ rw z (ap (map glyph) (digits_of_value ds (low_digits (c ∷ cs) h) top ∙ back (c ∷ cs)) ∙ glyphs (c ∷ cs) h)

chosen : (b : Bool) (x n : ℕ) → cond b (Some x) None ≡ Some n → (b ≡ true) × (x ≡ n)
chosen true x n e = (refl, cc)
chosen false x n e = absurd cc

-- only the one text
pub hex_only : (cs : List ℕ) (n : ℕ) → hex_number cs ≡ Some n → cs ≡ hex n
unfolding hex hex_number
hex_only [] n e = absurd cc
hex_only (c ∷ cs) n e =
    let g = chosen (list_all is_hex (c ∷ cs) && ltb 0 (length (c ∷ cs)) && leb (length (c ∷ cs)) 16 && (not (eqb c 48) || eqb (length (c ∷ cs)) 1)) (number_from_digits 16 (map digit (c ∷ cs))) n e in
    let p = and_parts (list_all is_hex (c ∷ cs) && ltb 0 (length (c ∷ cs)) && leb (length (c ∷ cs)) 16) (not (eqb c 48) || eqb (length (c ∷ cs)) 1) g.0 in
    let q = and_parts (list_all is_hex (c ∷ cs) && ltb 0 (length (c ∷ cs))) (leb (length (c ∷ cs)) 16) p.0 in
    let r = and_parts (list_all is_hex (c ∷ cs)) (ltb 0 (length (c ∷ cs))) q.0 in
    let hc = (and_parts (is_hex c) (list_all is_hex cs) r.0).0 in
    by_bool (eqb c 48) _
    (λ t.
    let one : eqb (length (c ∷ cs)) 1 ≡ true = (let y = p.1 in rw t at y) in
    single c cs n (eqb-true c 48 t) (eqb-true (length (c ∷ cs)) 1 one) g.1)
    (λ t. sym (spelt c cs r.0 (grind (arith, nat_tests))) ∙ ap hex g.1)
  where
    single : (c : ℕ) (cs : List ℕ) (n : ℕ) → c ≡ 48 → length (c ∷ cs) ≡ 1 → number_from_digits 16 (map digit (c ∷ cs)) ≡ n → c ∷ cs ≡ hex n
    single c [] n a b d = let z : number_from_digits 16 (digit 48 ∷ []) ≡ n = ap (λ x. number_from_digits 16 (digit x ∷ [])) (sym a) ∙ d in ap (λ x. x ∷ []) a ∙ ap hex z
    single c (x ∷ xs) n a b d = absurd (omega arith)

-- and it is read again
all_hex : (ds : List ℕ) → AllBelowBase 16 ds → list_all is_hex (map glyph ds) ≡ true
all_hex [] h = refl
all_hex (d ∷ ds) h = and_from _ _ (is_hex-glyph d h.0) (all_hex ds h.1)

digits_back : (ds : List ℕ) → AllBelowBase 16 ds → map digit (map glyph ds) ≡ ds
digits_back [] h = refl
digits_back (d ∷ ds) h = λ i. digit-glyph d h.0 i ∷ digits_back ds h.1 i

read_digits : (ds : List ℕ) → AllBelowBase 16 ds → 0 < get_or ds 0 0 → length ds ≤ 16 → hex_number (map glyph ds) ≡ Some (number_from_digits 16 ds)
unfolding hex_number
read_digits [] h l k = absurd (omega arith)
read_digits (d ∷ ds) h l k =
    let a = all_hex (d ∷ ds) h in
    let len : length (map glyph (d ∷ ds)) ≡ length (d ∷ ds) = map_long (d ∷ ds) in
    let b : leb (length (map glyph (d ∷ ds))) 16 ≡ true = le-leb _ _ (omega arith) in
    let c : eqb (glyph d) 48 ≡ false = grind (arith, nat_tests) in
    let low : ltb 0 (length (map glyph (d ∷ ds))) ≡ true = lt-ltb _ _ (omega arith) in
    rw (a, low, b, c) (ap (λ x. Some (number_from_digits 16 x)) (digits_back (d ∷ ds) h))
  where
    map_long : (xs : List ℕ) → length (map glyph xs) ≡ length xs
    map_long [] = refl
    map_long (x ∷ xs) = ap suc (map_long xs)

pub hex_again : (n : ℕ) → n < 2 ^ 64 → hex_number (hex n) ≡ Some n
unfolding hex hex_number
hex_again n l = by_bool (eqb n 0) _
    (λ t. rw t (ap Some (sym (eqb-true n 0 t))))
    (λ t.
    let p : 0 < n = grind (arith, nat_tests) in
    rw t (read_digits (digits_of 16 n) (all_below_base_digits_of 16 n (omega arith)) (first_digits_of 16 n (omega arith) p) (length-digits_of-le 16 16 n (omega arith) l) ∙ ap Some (number_digits_of 16 n (omega arith))))

-- a pointer is a number of 64 bits, and its text is short
digits_low : (cs : List ℕ) → list_all is_hex cs ≡ true → AllBelowBase 16 (map digit cs)
digits_low [] h = tt
digits_low (c ∷ cs) h = let p = and_parts (is_hex c) (list_all is_hex cs) h in (digit_low c p.0, digits_low cs p.1)

sixteen_digits : (ds : List ℕ) → AllBelowBase 16 ds → length ds ≤ 16 → number_from_digits 16 ds < 2 ^ 64
sixteen_digits ds low short =
    let most : 16 ^ length ds ≤ 16 ^ 16 = pow-le-pow_right {n = 16} (omega arith) {i = length ds} {j = 16} short in
    omega (arith, number_lt 16 ds low, most)

pub hex_small : (cs : List ℕ) (n : ℕ) → length cs ≤ 16 → hex_number cs ≡ Some n → n < 2 ^ 64
unfolding hex_number
hex_small cs n short e =
    let g = chosen (list_all is_hex cs && ltb 0 (length cs) && leb (length cs) 16 && (not (eqb (get_or cs 0 0) 48) || eqb (length cs) 1)) (number_from_digits 16 (map digit cs)) n e in
    let p = and_parts (list_all is_hex cs && ltb 0 (length cs) && leb (length cs) 16) (not (eqb (get_or cs 0 0) 48) || eqb (length cs) 1) g.0 in
    let q = and_parts (list_all is_hex cs && ltb 0 (length cs)) (leb (length cs) 16) p.0 in
    let r = and_parts (list_all is_hex cs) (ltb 0 (length cs)) q.0 in
    omega (arith, sixteen_digits (map digit cs) (digits_low cs r.0) (omega (arith, length-map cs digit)), g.1)

some_digit : (ds : List ℕ) → 0 < get_or ds 0 0 → 0 < length ds
some_digit [] h = absurd (omega arith)
some_digit (d ∷ ds) h = omega arith

pub hex_short : (n : ℕ) → n < 2 ^ 64 → (0 < length (hex n)) × (length (hex n) ≤ 16)
unfolding hex
hex_short n l = by_bool (eqb n 0) _
    (λ t. rw t (omega arith, omega arith))
    (λ t.
    let p : 0 < n = grind (arith, nat_tests) in
    let some = some_digit (digits_of 16 n) (first_digits_of 16 n (omega arith) p) in
    let few = length-digits_of-le 16 16 n (omega arith) l in
    rw t (omega (arith, length-map (digits_of 16 n) glyph, some), omega (arith, length-map (digits_of 16 n) glyph, few)))

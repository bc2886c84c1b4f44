-- What is made of bytes, character by character.
use Rattle.std.proofs.Common.{◌≡◌, ℕ, zero, suc, ◌+◌, ◌-◌, ◌*◌, ◌/◌, ◌<◌, ◌≤◌, Bool, true, false, cond, ◌&&◌, List, [], ◌∷◌, ◌++◌, length, take, drop, IsUtf8, refl, sym, ap, subst, ◌∙◌, arith, append_assoc, append-nil, ◌⊎◌, inl, inr}
use Rattle.std.specs.Prelude.{◌==◌}
use Rattle.std.specs.Int.{is_in_range}
use Rattle.std.specs.Str.{IsValidUpTo}
use Rattle.std.specs.Str.Lossy.{second_byte_min, second_byte_max, replacement_bytes}
use Rattle.std.proofs.lemmas.Str.{IsUtf8-append, IsUtf8-nil}
use Rattle.std.proofs.lemmas.List.{take-append-drop, length-drop}
use Rattle.std.proofs.lemmas.Bool.{cases_lt, cases_eq, and_parts}
use Rattle.std.proofs.lemmas.Bool.Decides.{nat_tests}
use lib.Utf8.{scalar, scalars, next, encode, encodes, scalar_cases}
use Rattle.std.proofs.str.Laws.{one, two, three, four}
use Rattle.std.proofs.str.Valid.{of_one, of_two, of_three, of_four, longer}
use Rattle.wc_text.specs.Lossy.{ends_char, char_len, lossy_after, lossy_of}

-- ---- the table and the encoding agree
len_one : (x : ℕ) (bytes : List ℕ) → x < 128 → char_len (x ∷ bytes) ≡ 1
len_one x bytes h = grind (arith, nat_tests)

len_two : (x y : ℕ) (bytes : List ℕ) → 194 ≤ x → x < 224 → 128 ≤ y → y < 192 → char_len (x ∷ y ∷ bytes) ≡ 2
len_two x y bytes a b c d = grind (arith, nat_tests)

len_three : (x y z : ℕ) (bytes : List ℕ) → 224 ≤ x → x < 240 → second_byte_min x ≤ y → y ≤ second_byte_max x → 128 ≤ z → z < 192 → char_len (x ∷ y ∷ z ∷ bytes) ≡ 3
len_three x y z bytes a b c d e f = grind (arith, nat_tests)

len_four : (x y z w : ℕ) (bytes : List ℕ) → 240 ≤ x → x < 245 → second_byte_min x ≤ y → y ≤ second_byte_max x → 128 ≤ z → z < 192 → 128 ≤ w → w < 192
    → char_len (x ∷ y ∷ z ∷ w ∷ bytes) ≡ 4
len_four x y z w bytes a b c d e f g h = grind (arith, nat_tests)

-- ---- bytes that are kept
within : (front rest : List ℕ) → lossy_after (length front) (front ++ rest) ≡ front ++ lossy_after 0 rest
within [] rest = refl
within (b ∷ front) rest = ap (λ bytes. b ∷ bytes) (within front rest)

kept : (n b : ℕ) (bytes : List ℕ) → cond (suc n == 0) (replacement_bytes ++ lossy_after 0 bytes) (b ∷ lossy_after (suc n - 1) bytes) ≡ b ∷ lossy_after n bytes
kept n b bytes =
    let other : (suc n == 0) ≡ false = grind (arith, nat_tests) in
    let less : suc n - 1 ≡ n = omega arith in
    rw (other, less) refl

kept_by : (n b : ℕ) (bytes : List ℕ) → char_len (b ∷ bytes) ≡ suc n → lossy_after 0 (b ∷ bytes) ≡ b ∷ lossy_after n bytes
kept_by n b bytes e =
    ap (λ k. cond (k == 0) (replacement_bytes ++ lossy_after 0 bytes) (b ∷ lossy_after (k - 1) bytes)) e ∙ kept n b bytes

-- a character at the front is kept
keeps_front : (front rest : List ℕ) → 0 < length front → char_len (front ++ rest) ≡ length front → lossy_after 0 (front ++ rest) ≡ front ++ lossy_after 0 rest
keeps_front [] rest some e = absurd (omega arith)
keeps_front (b ∷ front) rest some e = kept_by (length front) b (front ++ rest) e ∙ ap (λ bytes. b ∷ bytes) (within front rest)

-- a byte with which no character begins is replaced
pub replaced : (b : ℕ) (bytes : List ℕ) → char_len (b ∷ bytes) ≡ 0 → lossy_of (b ∷ bytes) ≡ replacement_bytes ++ lossy_of bytes
unfolding lossy_of
replaced b bytes e = rw e refl

-- ---- what is encoded is well-formed
abbrev Starts : List ℕ → List ℕ → Type 0
Starts front rest = (0 < length front) × (char_len (front ++ rest) ≡ length front)

below_surrogates : (c : ℕ) → scalar c ≡ true → c < 65536 → c < 55296 ⊎ (57344 ≤ c)
below_surrogates c e h = elim (scalar_cases c e) [ inl low ↦ inl low | inr high ↦ inr high.0 ]

starts_two : (c : ℕ) (rest : List ℕ) → 128 ≤ c → c < 2048 → Starts ((192 + c / 64) ∷ next c ∷ []) rest
starts_two c rest l h = (omega arith, len_two (192 + c / 64) (next c) rest (omega arith) (omega arith) (omega arith) (omega arith))

least_second : (c : ℕ) → 2048 ≤ c → c < 65536 → second_byte_min (224 + c / 4096) ≤ next (c / 64)
least_second c l h = grind (arith, nat_tests)

greatest_second : (c : ℕ) → 2048 ≤ c → c < 65536 → c < 55296 ⊎ (57344 ≤ c) → next (c / 64) ≤ second_byte_max (224 + c / 4096)
greatest_second c l h (inl low) = grind (arith, nat_tests)
greatest_second c l h (inr high) = grind (arith, nat_tests)

starts_three : (c : ℕ) (rest : List ℕ) → scalar c ≡ true → 2048 ≤ c → c < 65536 → Starts ((224 + c / 4096) ∷ next (c / 64) ∷ next c ∷ []) rest
starts_three c rest e l h = (
  omega arith,
  len_three (224 + c / 4096) (next (c / 64)) (next c) rest (omega arith) (omega arith)
      (least_second c l h) (greatest_second c l h (below_surrogates c e h)) (omega arith) (omega arith),
)

least_of_four : (c : ℕ) → 65536 ≤ c → c < 1114112 → second_byte_min (240 + c / 262144) ≤ next (c / 4096)
least_of_four c l h = grind (arith, nat_tests)

greatest_of_four : (c : ℕ) → 65536 ≤ c → c < 1114112 → next (c / 4096) ≤ second_byte_max (240 + c / 262144)
greatest_of_four c l h = grind (arith, nat_tests)

starts_four : (c : ℕ) (rest : List ℕ) → 65536 ≤ c → c < 1114112 → Starts ((240 + c / 262144) ∷ next (c / 4096) ∷ next (c / 64) ∷ next c ∷ []) rest
starts_four c rest l h = (
  omega arith,
  len_four (240 + c / 262144) (next (c / 4096)) (next (c / 64)) (next c) rest (omega arith) (omega arith)
      (least_of_four c l h) (greatest_of_four c l h) (omega arith) (omega arith) (omega arith) (omega arith),
)

starts_char : (c : ℕ) (rest : List ℕ) → scalar c ≡ true → Starts (encode c) rest
starts_char c rest e =
    let P : List ℕ → Type 0 = λ front. Starts front rest in
    elim (cases_lt c 128) [
      | inl small ↦ subst P (sym (one c small)) (omega arith, len_one c rest small)
      | inr big ↦ elim (cases_lt c 2048) [
        | inl small ↦ subst P (sym (two c big small)) (starts_two c rest big small)
        | inr bigger ↦ elim (cases_lt c 65536) [
          | inl small ↦ subst P (sym (three c bigger small)) (starts_three c rest e bigger small)
          | inr biggest ↦ subst P (sym (four c biggest)) (starts_four c rest biggest (elim (scalar_cases c e) [ inl low ↦ absurd (omega arith) | inr high ↦ high.1 ]))
        ]
      ]
    ]

keeps_char : (c : ℕ) (rest : List ℕ) → scalar c ≡ true → lossy_after 0 (encode c ++ rest) ≡ encode c ++ lossy_after 0 rest
keeps_char c rest e = let starts = starts_char c rest e in keeps_front (encode c) rest starts.0 starts.1

keeps_chars : (cs rest : List ℕ) → scalars cs ≡ true → lossy_after 0 (encodes cs ++ rest) ≡ encodes cs ++ lossy_after 0 rest
keeps_chars [] rest e = refl
keeps_chars (c ∷ cs) rest e =
    let both = and_parts (scalar c) (scalars cs) e in
    ap (lossy_after 0) (append_assoc (encode c) (encodes cs) rest)
    ∙ keeps_char c (encodes cs ++ rest) both.0
    ∙ ap (λ bytes. encode c ++ bytes) (keeps_chars cs rest both.1)
    ∙ sym (append_assoc (encode c) (encodes cs) (lossy_after 0 rest))

-- text at the front stays as it is
pub lossy_of_append : (valid rest : List ℕ) → IsUtf8 valid → lossy_of (valid ++ rest) ≡ valid ++ lossy_of rest
unfolding lossy_of
lossy_of_append valid rest u =
    let P : List ℕ → Type 0 = λ front. lossy_after 0 (front ++ rest) ≡ front ++ lossy_after 0 rest in
    subst P u.1.1 (keeps_chars u.0 rest u.1.0)

-- and so does text that is all there is
pub lossy_of_utf8 : (bytes : List ℕ) → IsUtf8 bytes → lossy_of bytes ≡ bytes
unfolding lossy_of
lossy_of_utf8 bytes u = sym (ap lossy_of (append-nil bytes)) ∙ lossy_of_append bytes [] u ∙ append-nil bytes

-- ---- what is well-formed is text
at_least : (least most x : ℕ) → is_in_range least most x ≡ true → least ≤ x
at_least least most x e = grind (arith, nat_tests)

at_most : (least most x : ℕ) → is_in_range least most x ≡ true → x ≤ most
at_most least most x e = grind (arith, nat_tests)

second_low : (x y : ℕ) → second_byte_min x ≤ y → 128 ≤ y
second_low x y h = grind (arith, nat_tests)

second_high : (x y : ℕ) → y ≤ second_byte_max x → y < 192
second_high x y h = grind (arith, nat_tests)

not_short : (x y : ℕ) → 224 ≤ x → second_byte_min x ≤ y → 2048 ≤ (x - 224) * 4096 + (y - 128) * 64
not_short x y a h = grind (arith, nat_tests)

no_surrogate : (x y z : ℕ) → 224 ≤ x → 128 ≤ y → y < 192 → y ≤ second_byte_max x → 128 ≤ z → z < 192
    → let c = (x - 224) * 4096 + (y - 128) * 64 + (z - 128) in (c < 55296) ⊎ (57344 ≤ c)
no_surrogate x y z a b c h d f = elim (cases_lt x 0xED) [
  | inl less ↦ inl (omega arith)
  | inr more ↦ elim (cases_eq x 0xED) [
    | inl same ↦ let top : y ≤ 0x9F = surrogate_top x y same h in inl (omega arith)
    | inr other ↦ inr (omega arith)
  ]
]
  where
    surrogate_top : (x y : ℕ) → x ≡ 0xED → y ≤ second_byte_max x → y ≤ 0x9F
    surrogate_top x y e h = grind (arith, nat_tests)

four_low : (x y : ℕ) → 240 ≤ x → second_byte_min x ≤ y → 16 ≤ (x - 240) * 64 + (y - 128)
four_low x y a h = grind (arith, nat_tests)

four_high : (x y : ℕ) → 240 ≤ x → x ≤ 244 → 128 ≤ y → y ≤ second_byte_max x → (x - 240) * 64 + (y - 128) < 272
four_high x y a b l h = grind (arith, nat_tests)

one_ok : (x : ℕ) (bytes : List ℕ) → is_in_range 0x00 0x7F x ≡ true → IsUtf8 (take 1 (x ∷ bytes))
one_ok x bytes e = let small = at_most 0x00 0x7F x e in of_one (x ∷ bytes) 0 (omega arith) (omega arith)

two_ok : (x : ℕ) (bytes : List ℕ) → (is_in_range 0xC2 0xDF x && ends_char x 0 bytes) ≡ true → IsUtf8 (take 2 (x ∷ bytes))
two_ok x [] e = let h = and_parts (is_in_range 0xC2 0xDF x) false e in let no : false ≡ true = h.1 in cc
two_ok x (y ∷ bytes) e =
    let h = and_parts (is_in_range 0xC2 0xDF x) _ e in
    let g = and_parts (is_in_range (second_byte_min x) (second_byte_max x) y) _ h.1 in
    let low = at_least 0xC2 0xDF x h.0 in
    let high = at_most 0xC2 0xDF x h.0 in
    let a = second_low x y (at_least _ _ y g.0) in
    let b = second_high x y (at_most _ _ y g.0) in
    of_two (x ∷ y ∷ bytes) 0 (omega arith) (omega arith, omega arith) (a, b)

three_ok : (x : ℕ) (bytes : List ℕ) → (is_in_range 0xE0 0xEF x && ends_char x 1 bytes) ≡ true → IsUtf8 (take 3 (x ∷ bytes))
three_ok x [] e = let h = and_parts (is_in_range 0xE0 0xEF x) false e in let no : false ≡ true = h.1 in cc
three_ok x (y ∷ []) e =
    let h = and_parts (is_in_range 0xE0 0xEF x) (is_in_range (second_byte_min x) (second_byte_max x) y && false) e in
    let g = and_parts (is_in_range (second_byte_min x) (second_byte_max x) y) false h.1 in
    let no : false ≡ true = g.1 in cc
three_ok x (y ∷ z ∷ bytes) e =
    let h = and_parts (is_in_range 0xE0 0xEF x) _ e in
    let g = and_parts (is_in_range (second_byte_min x) (second_byte_max x) y) _ h.1 in
    let k = and_parts (is_in_range 0x80 0xBF z) _ g.1 in
    let low = at_least 0xE0 0xEF x h.0 in
    let high = at_most 0xE0 0xEF x h.0 in
    let least = at_least _ _ y g.0 in
    let most = at_most _ _ y g.0 in
    let a = second_low x y least in
    let b = second_high x y most in
    let c = at_least 0x80 0xBF z k.0 in
    let d : z < 192 = omega (arith, at_most 0x80 0xBF z k.0) in
    let long = not_short x y low least in
    of_three (x ∷ y ∷ z ∷ bytes) 0 (omega arith) (low, omega arith) (a, b) (c, d) (omega arith) (no_surrogate x y z low a b most c d)

four_ok : (x : ℕ) (bytes : List ℕ) → (is_in_range 0xF0 0xF4 x && ends_char x 2 bytes) ≡ true → IsUtf8 (take 4 (x ∷ bytes))
four_ok x [] e = let h = and_parts (is_in_range 0xF0 0xF4 x) false e in let no : false ≡ true = h.1 in cc
four_ok x (y ∷ []) e =
    let h = and_parts (is_in_range 0xF0 0xF4 x) (is_in_range (second_byte_min x) (second_byte_max x) y && false) e in
    let g = and_parts (is_in_range (second_byte_min x) (second_byte_max x) y) false h.1 in
    let no : false ≡ true = g.1 in cc
four_ok x (y ∷ z ∷ []) e =
    let h = and_parts (is_in_range 0xF0 0xF4 x) (is_in_range (second_byte_min x) (second_byte_max x) y && (is_in_range 0x80 0xBF z && false)) e in
    let g = and_parts (is_in_range (second_byte_min x) (second_byte_max x) y) (is_in_range 0x80 0xBF z && false) h.1 in
    let k = and_parts (is_in_range 0x80 0xBF z) false g.1 in
    let no : false ≡ true = k.1 in cc
four_ok x (y ∷ z ∷ w ∷ bytes) e =
    let h = and_parts (is_in_range 0xF0 0xF4 x) _ e in
    let g = and_parts (is_in_range (second_byte_min x) (second_byte_max x) y) _ h.1 in
    let k = and_parts (is_in_range 0x80 0xBF z) _ g.1 in
    let m = and_parts (is_in_range 0x80 0xBF w) _ k.1 in
    let low = at_least 0xF0 0xF4 x h.0 in
    let high = at_most 0xF0 0xF4 x h.0 in
    let least = at_least _ _ y g.0 in
    let most = at_most _ _ y g.0 in
    let a = second_low x y least in
    let b = second_high x y most in
    let c = at_least 0x80 0xBF z k.0 in
    let d : z < 192 = omega (arith, at_most 0x80 0xBF z k.0) in
    let f = at_least 0x80 0xBF w m.0 in
    let q : w < 192 = omega (arith, at_most 0x80 0xBF w m.0) in
    of_four (x ∷ y ∷ z ∷ w ∷ bytes) 0 (omega arith) low (a, b) (c, d) (f, q) (four_low x y low least, four_high x y low high a most)

-- a choice that is not 0
chosen : (test : Bool) (a b n : ℕ) → cond test a b ≡ suc n → ((test ≡ true) × (a ≡ suc n)) ⊎ (b ≡ suc n)
chosen true a b n e = inl (refl, e)
chosen false a b n e = inr e

-- the bytes that the table counts are the UTF-8 of one character
sound : (bytes : List ℕ) (n : ℕ) → char_len bytes ≡ suc n → IsUtf8 (take (suc n) bytes)
sound [] n e = absurd (omega arith)
sound (x ∷ bytes) n e =
    let P : ℕ → Type 0 = λ k. IsUtf8 (take k (x ∷ bytes)) in
    elim (chosen (is_in_range 0x00 0x7F x) 1 _ n e) [
      | inl h ↦ subst P h.1 (one_ok x bytes h.0)
      | inr e ↦ elim (chosen (is_in_range 0xC2 0xDF x && ends_char x 0 bytes) 2 _ n e) [
        | inl h ↦ subst P h.1 (two_ok x bytes h.0)
        | inr e ↦ elim (chosen (is_in_range 0xE0 0xEF x && ends_char x 1 bytes) 3 _ n e) [
          | inl h ↦ subst P h.1 (three_ok x bytes h.0)
          | inr e ↦ elim (chosen (is_in_range 0xF0 0xF4 x && ends_char x 2 bytes) 4 0 n e) [
            | inl h ↦ subst P h.1 (four_ok x bytes h.0)
            | inr e ↦ absurd (omega arith)
          ]
        ]
      ]
    ]

by_len : (bytes : List ℕ) (n : ℕ) → ((k : ℕ) → n ≡ suc k → IsUtf8 (take n bytes) → n ≡ 0) → (char_len bytes ≡ n) → char_len bytes ≡ 0
by_len bytes zero h e = e
by_len bytes (suc k) h e = e ∙ h k refl (sound bytes k e)

-- after the longest front that is text no character begins
pub no_char_after : (bytes : List ℕ) (n : ℕ) → IsValidUpTo bytes n → char_len (drop n bytes) ≡ 0
no_char_after bytes n valid =
    by_len (drop n bytes) (char_len (drop n bytes))
    (λ k is u. absurd (valid.longest (n + char_len (drop n bytes)) (omega arith) (longer bytes n (char_len (drop n bytes)) valid.front u))) refl

-- ---- the turns of the loop
pub next_lossy : (made valid rest following whole : List ℕ) (b : ℕ) → made ++ lossy_of rest ≡ whole → rest ≡ valid ++ (b ∷ following) → IsUtf8 valid → char_len (b ∷ following) ≡ 0
    → ((made ++ valid) ++ replacement_bytes) ++ lossy_of following ≡ whole
next_lossy made valid rest following whole b so_far parts u none =
    append_assoc (made ++ valid) replacement_bytes (lossy_of following)
    ∙ ap (λ bytes. (made ++ valid) ++ bytes) (sym (replaced b following none))
    ∙ append_assoc made valid (lossy_of (b ∷ following))
    ∙ ap (λ bytes. made ++ bytes) (sym (ap lossy_of parts ∙ lossy_of_append valid (b ∷ following) u))
    ∙ so_far

pub end_lossy : (made valid rest others whole : List ℕ) → made ++ lossy_of rest ≡ whole → rest ≡ valid ++ others → IsUtf8 valid → length others ≡ 0 → made ++ valid ≡ whole
end_lossy made valid rest [] whole so_far parts u none =
    ap (λ bytes. made ++ bytes) (sym (ap lossy_of (parts ∙ append-nil valid) ∙ lossy_of_utf8 valid u)) ∙ so_far
end_lossy made valid rest (b ∷ others) whole so_far parts u none = absurd (omega arith)

pub whole_lossy : (bytes valid others : List ℕ) → bytes ≡ valid ++ others → IsUtf8 valid → length others ≡ 0 → bytes ≡ lossy_of bytes
whole_lossy bytes valid [] whole u none =
    let P : List ℕ → Type 0 = λ all. all ≡ lossy_of all in
    subst P (sym (whole ∙ append-nil valid)) (sym (lossy_of_utf8 valid u))
whole_lossy bytes valid (b ∷ others) whole u none = absurd (omega arith)

-- ---- what is made is text
replacement_text : IsUtf8 replacement_bytes
unfolding encode
replacement_text = (0xFFFD ∷ [], (refl, refl))

text_by : (k b : ℕ) (bytes : List ℕ) (n : ℕ) → char_len (b ∷ bytes) ≡ n → ((rest : List ℕ) → length rest ≤ k → IsUtf8 (lossy_of rest)) → length bytes ≤ k → IsUtf8 (lossy_of (b ∷ bytes))
text_by k b bytes zero e ih short =
    subst IsUtf8 (sym (replaced b bytes e)) (IsUtf8-append replacement_bytes (lossy_of bytes) replacement_text (ih bytes short))
text_by k b bytes (suc n) e ih short =
    let front = take (suc n) (b ∷ bytes) in
    let rest = drop (suc n) (b ∷ bytes) in
    let u = sound (b ∷ bytes) n e in
    let less : length rest ≤ k = omega (arith, length-drop n bytes) in
    subst IsUtf8 (sym (lossy_of_append front rest u) ∙ ap lossy_of (take-append-drop (suc n) (b ∷ bytes))) (IsUtf8-append front (lossy_of rest) u (ih rest less))

text_within : (k : ℕ) (bytes : List ℕ) → length bytes ≤ k → IsUtf8 (lossy_of bytes)
unfolding lossy_of
text_within k [] short = IsUtf8-nil
text_within zero (b ∷ bytes) short = absurd (omega arith)
text_within (suc k) (b ∷ bytes) short = text_by k b bytes (char_len (b ∷ bytes)) refl (text_within k) (omega arith)

-- what is made of any bytes is UTF-8
pub lossy_of_is_utf8 : (bytes : List ℕ) → IsUtf8 (lossy_of bytes)
lossy_of_is_utf8 bytes = text_within (length bytes) bytes (omega arith)

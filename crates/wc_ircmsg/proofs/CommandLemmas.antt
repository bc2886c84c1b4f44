-- What commands are made of.
use Rattle.std.proofs.Common.{◌≡◌, ◌≢◌, ℕ, ◌<◌, inl, inr, List, [], ◌∷◌, ◌++◌, refl, ap, sym, ◌∙◌, arith, eqb, length, Bool, true, false, not, ◌||◌}
use Rattle.std.proofs.lemmas.Bool.{false≢true, and_parts, and_from, or_cases}
use Rattle.std.proofs.lemmas.Bool.Decides.{nat_tests}
use Rattle.std.proofs.lemmas.Str.{IsUtf8-nil}
use Rattle.std.specs.List.{list_all}
use Rattle.std.specs.Char.{is_ascii_alphabetic, is_ascii_digit}
use Rattle.std.specs.Str.{IsUtf8}
use Rattle.wc_text.proofs.Utf8Lemmas.{utf8_cons}
use Rattle.wc_text.specs.Splits.{Lacks, BeginsWithout}
use Rattle.wc_ircmsg.specs.Commands.{is_filled, is_name, is_numeric, is_command}
use Rattle.wc_ircmsg.specs.Written.{ends_lines, is_one_line}

-- where one test implies another
pub list_all-weaker : (p q : ℕ → Bool) → ((b : ℕ) → p b ≡ true → q b ≡ true) → (text : List ℕ) → list_all p text ≡ true → list_all q text ≡ true
list_all-weaker p q weaker [] all = refl
list_all-weaker p q weaker (b ∷ text) all =
    let both = and_parts (p b) (list_all p text) all in
    and_from (q b) (list_all q text) (weaker b both.0) (list_all-weaker p q weaker text both.1)

-- a byte that a command may have: a letter or a digit
abbrev pub is_sign : ℕ → Bool
is_sign b = is_ascii_alphabetic b || is_ascii_digit b

letter_is_sign : (b : ℕ) → is_ascii_alphabetic b ≡ true → is_sign b ≡ true
letter_is_sign b is = ap (λ t. t || is_ascii_digit b) is

digit_is_sign : (b : ℕ) → is_ascii_digit b ≡ true → is_sign b ≡ true
digit_is_sign b is = grind (arith, nat_tests)

sign_small : (b : ℕ) → is_sign b ≡ true → b < 128
sign_small b is = grind (arith, nat_tests)

sign_is_no : (b c : ℕ) → is_sign c ≡ false → is_sign b ≡ true → b ≢ c
sign_is_no b c none is same = false≢true (sym none ∙ sym (ap is_sign same) ∙ is)

sign_in_line : (b : ℕ) → is_sign b ≡ true → not (ends_lines b) ≡ true
sign_in_line b is = grind (arith, nat_tests)

-- a command is letters and digits
pub command_signs : (word : List ℕ) → is_command word ≡ true → list_all is_sign word ≡ true
command_signs word is = elim (or_cases (is_name word) (is_numeric word) is) [
  | inl name ↦ list_all-weaker is_ascii_alphabetic is_sign letter_is_sign word (and_parts (is_filled word) (list_all is_ascii_alphabetic word) name).1
  | inr numeric ↦ list_all-weaker is_ascii_digit is_sign digit_is_sign word (and_parts (eqb (length word) 3) (list_all is_ascii_digit word) numeric).1
]

-- and not empty
pub command_filled : (word : List ℕ) → is_command word ≡ true → is_filled word ≡ true
command_filled [] is = is
command_filled (b ∷ word) is = refl

-- a byte that is no sign is nowhere in signs
pub Lacks-signs : (c : ℕ) (word : List ℕ) → is_sign c ≡ false → list_all is_sign word ≡ true → Lacks c word
Lacks-signs c [] none all = tt
Lacks-signs c (b ∷ word) none all = let both = and_parts (is_sign b) (list_all is_sign word) all in (sign_is_no b c none both.0, Lacks-signs c word none both.1)

-- nor at the front of what begins with a sign
pub BeginsWithout-signs : (c : ℕ) (word rest : List ℕ) → is_sign c ≡ false → is_filled word ≡ true → list_all is_sign word ≡ true → BeginsWithout c (word ++ rest)
BeginsWithout-signs c [] rest none some all = absurd (false≢true some)
BeginsWithout-signs c (b ∷ word) rest none some all = sign_is_no b c none (and_parts (is_sign b) (list_all is_sign word) all).0

pub signs_in_line : (word : List ℕ) → list_all is_sign word ≡ true → is_one_line word ≡ true
signs_in_line word all = list_all-weaker is_sign (λ b. not (ends_lines b)) sign_in_line word all

pub signs_text : (word : List ℕ) → list_all is_sign word ≡ true → IsUtf8 word
signs_text [] all = IsUtf8-nil
signs_text (b ∷ word) all = let both = and_parts (is_sign b) (list_all is_sign word) all in utf8_cons b word (sign_small b both.0) (signs_text word both.1)

-- A text so many times.
use Rattle.std.proofs.Common.{◌≡◌, ℕ, zero, suc, ◌+◌, ◌*◌, ◌/◌, ◌<◌, List, [], ◌++◌, length, refl, ap}
use Rattle.std.proofs.Common.{sym, ◌∙◌, append_assoc, append-nil, length-append, arith}
use Rattle.std.proofs.lemmas.List.{nil_from_length}
use Rattle.std.proofs.lemmas.Bool.{cases_lt}
use Rattle.std.proofs.lemmas.Nat.{le-div}
use mathlib.Core.Logic.{inl, inr}
use Rattle.std.proofs.Common.{IsUtf8}
use Rattle.std.proofs.lemmas.Str.{IsUtf8-nil, IsUtf8-append}
use Rattle.wc_eval.specs.Values.{copies_of}

copies_none : (n : ℕ) → copies_of n [] ≡ []
copies_none zero = refl
copies_none (suc n) = copies_none n

pub copies_empty : (n : ℕ) (text : List ℕ) → length text ≡ 0 → copies_of n text ≡ []
copies_empty n text e = ap (copies_of n) (nil_from_length text e) ∙ copies_none n

copies_then : (n : ℕ) (text : List ℕ) → copies_of n text ++ text ≡ copies_of (suc n) text
copies_then zero text = sym (append-nil text)
copies_then (suc n) text = append_assoc text (copies_of n text) text
    ∙ ap (λ l. text ++ l) (copies_then n text)

pub copies_more : (n : ℕ) (text value : List ℕ) → value ≡ copies_of n text →
    value ++ text ≡ copies_of (n + 1) text
copies_more n text value e =
    let more : n + 1 ≡ suc n = omega arith in
    rw (e, more) (copies_then n text)

copies_long : (n : ℕ) (text : List ℕ) → length (copies_of n text) ≡ n * length text
copies_long zero text = omega arith
copies_long (suc n) text =
    let rest = copies_long n text in
    let sum = length-append text (copies_of n text) in omega (arith, rest, sum)

pub copies_over : (n : ℕ) (text : List ℕ) → 0 < length text → 65536 / length text < n →
    65536 < length (copies_of n text)
copies_over n text some over =
    let long = copies_long n text in
    elim (cases_lt 65536 (n * length text)) [
      | inl more ↦ omega (arith, long, more)
      | inr less ↦ let few = le-div n 65536 (length text) some less in absurd (omega (arith, few, over))
    ]

pub copies_utf8 : (n : ℕ) (text : List ℕ) → IsUtf8 text → IsUtf8 (copies_of n text)
copies_utf8 zero text utf8 = IsUtf8-nil
copies_utf8 (suc n) text utf8 = IsUtf8-append text (copies_of n text) utf8 (copies_utf8 n text utf8)

-- Where a text is cut: within the limit, between characters, and no earlier than needed.
use Rattle.std.proofs.Common.{◌≡◌, ℕ, zero, suc, ◌-◌, ◌<◌, ◌≤◌, min, Bool, true, false, List, length, get_or, take, IsUtf8, inl, inr, refl, sym, ap, subst, ◌∙◌, arith}
use Rattle.std.specs.Str.{is_utf8}
use Rattle.std.specs.Str.Lossy.{valid_len_up_to}
use Rattle.std.proofs.lemmas.Str.{IsUtf8-nil, IsUtf8-take, IsUtf8-from_is_utf8, is_utf8-from_IsUtf8, IsCharBoundary-from_take}
use Rattle.std.proofs.lemmas.List.{take_all}
use Rattle.std.proofs.lemmas.Bool.{cases_eq}
use Rattle.wc_text.specs.Cut.{cut_of}

-- ---- the greatest length up to n
is_kept : (text : List ℕ) (n : ℕ) → IsUtf8 (take n text) → valid_len_up_to text n ≡ n
is_kept text zero u = refl
is_kept text (suc n) u = let e : is_utf8 (take (suc n) text) ≡ true = is_utf8-from_IsUtf8 (take (suc n) text) u in rw e refl

is_passed_by : (text : List ℕ) (n : ℕ) (test : Bool) → is_utf8 (take (suc n) text) ≡ test → (IsUtf8 (take (suc n) text) → ⊥) → valid_len_up_to text (suc n) ≡ valid_len_up_to text n
is_passed_by text n true e never = absurd (never (IsUtf8-from_is_utf8 (take (suc n) text) e))
is_passed_by text n false e never = rw e refl

is_passed : (text : List ℕ) (n : ℕ) → (IsUtf8 (take (suc n) text) → ⊥) → valid_len_up_to text (suc n) ≡ valid_len_up_to text n
is_passed text n never = is_passed_by text n (is_utf8 (take (suc n) text)) refl never

record Greatest (text : List ℕ) (n k : ℕ) : Type 0 where
  within : k ≤ n
  whole : IsUtf8 (take k text)
  longest : (m : ℕ) → m ≤ n → IsUtf8 (take m text) → m ≤ k

greatest_by : (text : List ℕ) (n : ℕ) (test : Bool) → is_utf8 (take (suc n) text) ≡ test → Greatest text n (valid_len_up_to text n) → Greatest text (suc n) (valid_len_up_to text (suc n))
greatest_by text n true e h =
    let P : ℕ → Type 0 = Greatest text (suc n) in
    let u = IsUtf8-from_is_utf8 (take (suc n) text) e in
    subst P (sym (is_kept text (suc n) u)) record { within = omega arith; whole = u; longest = λ m below v. below }
greatest_by text n false e h =
    let P : ℕ → Type 0 = Greatest text (suc n) in
    let never : IsUtf8 (take (suc n) text) → ⊥ = λ u. let t : is_utf8 (take (suc n) text) ≡ true = is_utf8-from_IsUtf8 (take (suc n) text) u in cc in
    let within : valid_len_up_to text n ≤ n = h.within in
    subst P (sym (is_passed text n never)) record {
      within = omega arith;
      whole = h.whole;
      longest = λ m below v. elim (cases_eq m (suc n)) [
        | inl same ↦ absurd (never (let Q : ℕ → Type 0 = λ k. IsUtf8 (take k text) in subst Q same v))
        | inr other ↦ h.longest m (omega arith) v
      ];
    }

greatest : (text : List ℕ) (n : ℕ) → Greatest text n (valid_len_up_to text n)
greatest text zero = record { within = omega arith; whole = IsUtf8-nil; longest = λ m below v. below }
greatest text (suc n) = greatest_by text n (is_utf8 (take (suc n) text)) refl (greatest text n)

-- ---- what holds of the place of the cut
pub cut_within : (text : List ℕ) (limit : ℕ) → cut_of text limit ≤ limit
unfolding cut_of
cut_within text limit = let h : valid_len_up_to text (min limit (length text)) ≤ min limit (length text) = (greatest text (min limit (length text))).within in omega arith

pub cut_inside : (text : List ℕ) (limit : ℕ) → cut_of text limit ≤ length text
unfolding cut_of
cut_inside text limit = let h : valid_len_up_to text (min limit (length text)) ≤ min limit (length text) = (greatest text (min limit (length text))).within in omega arith

pub cut_utf8 : (text : List ℕ) (limit : ℕ) → IsUtf8 (take (cut_of text limit) text)
unfolding cut_of
cut_utf8 text limit = (greatest text (min limit (length text))).whole

pub cut_longest : (text : List ℕ) (limit n : ℕ) → n ≤ limit → n ≤ length text → IsUtf8 (take n text) → n ≤ cut_of text limit
unfolding cut_of
cut_longest text limit n a b u = (greatest text (min limit (length text))).longest n (omega arith) u

-- a text that is short enough is not cut
pub cut_whole : (text : List ℕ) (limit : ℕ) → IsUtf8 text → length text ≤ limit → cut_of text limit ≡ length text
unfolding cut_of
cut_whole text limit u short =
    let all : min limit (length text) ≡ length text = omega arith in
    ap (valid_len_up_to text) all ∙ is_kept text (length text) (subst IsUtf8 (sym (take_all (length text) text (omega arith))) u)

-- ---- the turns of the loop
pub begin_cut : (text : List ℕ) (limit : ℕ) → limit < length text → valid_len_up_to text limit ≡ cut_of text limit
unfolding cut_of
begin_cut text limit long = let less : limit ≡ min limit (length text) = omega arith in ap (valid_len_up_to text) less

pub next_cut : (text : List ℕ) (end : ℕ) → IsUtf8 text → 0 < end → end < length text → (128 ≤ get_or text end 0) × (get_or text end 0 < 192) → valid_len_up_to text (end - 1) ≡ valid_len_up_to text end
next_cut text zero u some inside byte = absurd (omega arith)
next_cut text (suc n) u some inside byte =
    let less : suc n - 1 ≡ n = omega arith in
    let never : IsUtf8 (take (suc n) text) → ⊥ = λ v. let b = IsCharBoundary-from_take text (suc n) u (omega arith) v in absurd (omega (arith, b.1 inside byte.0)) in
    ap (valid_len_up_to text) less ∙ sym (is_passed text n never)

pub end_cut : (text : List ℕ) (end : ℕ) → IsUtf8 text → end < length text → (0 < end → 128 ≤ get_or text end 0 → 192 ≤ get_or text end 0) → end ≡ valid_len_up_to text end
end_cut text zero u inside byte = refl
end_cut text (suc n) u inside byte = sym (is_kept text (suc n) (IsUtf8-take text (suc n) u (omega arith, λ here high. byte (omega arith) high)))

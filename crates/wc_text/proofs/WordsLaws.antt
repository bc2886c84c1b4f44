-- What holds of the words of a line.
use Rattle.std.proofs.Common.{◌≡◌, ℕ, zero, suc, ◌<◌, ◌≤◌, Bool, true, false, List, [], ◌∷◌, ◌++◌, length, get_or, take, drop, IsUtf8, inl, inr, refl, sym, ap, subst, ◌∙◌, arith}
use Rattle.std.specs.Prelude.{All, filter}
use Rattle.std.specs.List.{slice_split, position_or_len}
use Rattle.std.proofs.lemmas.Bool.{cases_lt, cases_eq}
use Rattle.std.proofs.lemmas.Bool.Decides.{nat_tests}
use Rattle.std.proofs.lemmas.List.{take_all, length-drop}
use Rattle.std.proofs.lemmas.List.Sums.{passes_at_first}
use Rattle.std.proofs.lemmas.List.Splits.{slice_split_at, slice_split_none}
use Rattle.wc_text.specs.Words.{is_space, is_filled, words_of, after_spaces}
use Rattle.wc_text.proofs.Utf8Lemmas.{utf8_before_ascii, utf8_from_ascii, utf8_after_ascii}
use Rattle.wc_text.proofs.WordsLemmas.{filter_first, next_word, no_word, starts_word}

pub words_of_nothing : words_of [] ≡ []
unfolding words_of
words_of_nothing = refl

-- a word and a space in front of more
pub words_of_joined : (word rest : List ℕ) → is_filled word ≡ true → All (λ b. is_space b ≡ false) word → words_of (word ++ 32 ∷ rest) ≡ word ∷ words_of rest
unfolding words_of
words_of_joined word rest some plain =
    ap (filter is_filled) (slice_split_at is_space word 32 rest plain refl) ∙ filter_first word (slice_split is_space rest) some

-- one word and nothing else
pub words_of_one : (word : List ℕ) → is_filled word ≡ true → All (λ b. is_space b ≡ false) word → words_of word ≡ word ∷ []
unfolding words_of
words_of_one word some plain = ap (filter is_filled) (slice_split_none is_space word plain) ∙ filter_first word [] some

-- ---- the words of a text are texts
all_with_first : (word : List ℕ) (words : List (List ℕ)) → IsUtf8 word → All IsUtf8 words → All IsUtf8 (word ∷ words)
all_with_first word words u all zero d inside = u
all_with_first word words u all (suc k) d inside = all k d (omega arith)

after_by : (b : ℕ) (bytes : List ℕ) (test : Bool) → is_space b ≡ test → IsUtf8 (b ∷ bytes) → (IsUtf8 bytes → IsUtf8 (after_spaces bytes)) → IsUtf8 (after_spaces (b ∷ bytes))
after_by b bytes true e u ih =
    let space : b ≡ 32 = grind (arith, nat_tests) in
    rw e (ih (utf8_after_ascii (b ∷ bytes) 0 u (omega arith) (omega arith)))
after_by b bytes false e u ih = rw e u

after_utf8 : (bytes : List ℕ) → IsUtf8 bytes → IsUtf8 (after_spaces bytes)
after_utf8 [] u = u
after_utf8 (b ∷ bytes) u = after_by b bytes (is_space b) refl u (after_utf8 bytes)

after_short_by : (b : ℕ) (bytes : List ℕ) (test : Bool) → is_space b ≡ test → length (after_spaces bytes) ≤ length bytes → length (after_spaces (b ∷ bytes)) ≤ suc (length bytes)
after_short_by b bytes true e h = rw e (omega arith)
after_short_by b bytes false e h = rw e (omega arith)

after_short : (bytes : List ℕ) → length (after_spaces bytes) ≤ length bytes
after_short [] = omega arith
after_short (b ∷ bytes) = after_short_by b bytes (is_space b) refl (after_short bytes)

-- the front before the first space, and what is from it on
parts_utf8 : (rest : List ℕ) → IsUtf8 rest → IsUtf8 (take (position_or_len is_space rest) rest) × IsUtf8 (drop (position_or_len is_space rest) rest)
parts_utf8 rest u = elim (cases_lt (position_or_len is_space rest) (length rest)) [
  | inl inside ↦
      let e = position_or_len is_space rest in
      let space = passes_at_first is_space rest 0 inside in
      let low : get_or rest e 0 < 128 = at_space (get_or rest e 0) space in
      (utf8_before_ascii rest e u inside low, utf8_from_ascii rest e u inside low)
  | inr outside ↦
      let e = position_or_len is_space rest in
      (subst IsUtf8 (sym (take_all e rest outside)) u, subst IsUtf8 (sym (drop_all e rest outside)) utf8_nothing)
]
  where
    at_space : (b : ℕ) → is_space b ≡ true → b < 128
    at_space b e = grind (arith, nat_tests)

    utf8_nothing : IsUtf8 []
    utf8_nothing = ([], (refl, refl))

    drop_all : (n : ℕ) (bytes : List ℕ) → length bytes ≤ n → drop n bytes ≡ []
    drop_all zero [] h = refl
    drop_all (suc n) [] h = refl
    drop_all zero (b ∷ bytes) h = absurd (omega arith)
    drop_all (suc n) (b ∷ bytes) h = drop_all n bytes (omega arith)

filled_later : (n : ℕ) (rest : List ℕ) → is_filled (take n rest) ≡ true → 0 < n
filled_later zero rest e = let never : false ≡ true = e in cc
filled_later (suc n) rest e = omega arith

utf8_within : (k : ℕ) (bytes : List ℕ) → length bytes ≤ k → IsUtf8 bytes → All IsUtf8 (words_of bytes)
utf8_within zero bytes short u =
    let none : length (after_spaces bytes) ≡ 0 = omega (arith, after_short bytes) in
    subst (All IsUtf8) (sym (no_word bytes (after_spaces bytes) refl none).0) (λ i d inside. absurd (omega arith))
utf8_within (suc k) bytes short u = elim (cases_eq (length (after_spaces bytes)) 0) [
  | inl none ↦ subst (All IsUtf8) (sym (no_word bytes (after_spaces bytes) refl none).0) (λ i d inside. absurd (omega arith))
  | inr more ↦
      let rest = after_spaces bytes in
      let e = position_or_len is_space rest in
      let some : 0 < length rest = omega arith in
      let parts = parts_utf8 rest (after_utf8 bytes u) in
      let later : 0 < e = filled_later e rest (starts_word bytes some) in
      let less : length (drop e rest) ≤ k = omega (arith, length-drop e rest, after_short bytes) in
      subst (All IsUtf8) (sym (next_word bytes rest e refl some refl)) (all_with_first (take e rest) (words_of (drop e rest)) parts.0 (utf8_within k (drop e rest) less parts.1))
]

-- each word of a text is a text
pub words_of_utf8 : (bytes : List ℕ) → IsUtf8 bytes → All IsUtf8 (words_of bytes)
words_of_utf8 bytes = utf8_within (length bytes) bytes (omega arith)

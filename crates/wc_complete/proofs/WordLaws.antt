-- The front of a text, by what comes after it.
use Rattle.std.proofs.Common.{◌≡◌, ℕ, suc, ◌-◌, ◌≤◌, Bool, true, false, cond, ◌&&◌, ◌==◌, List, [], ◌∷◌, length, take, refl, ap, ◌∙◌, arith}
use Rattle.std.specs.List.{list_any}
use Rattle.wc_complete.specs.BaseWord.{begins_char, starts, after_chars, front_chars, is_blank, last_word}

pub after_shorter : (n : ℕ) (text : List ℕ) → length (after_chars n text) ≤ length text
after_shorter n [] = omega arith
after_shorter n (b ∷ text) = by (after_shorter (n - starts b) text) (begins_char b && n == 0) refl where
  by : length (after_chars (n - starts b) text) ≤ length text → (t : Bool) → (begins_char b && n == 0) ≡ t → length (after_chars n (b ∷ text)) ≤ length (b ∷ text)
  by ih true e = rw e (omega arith)
  by ih false e = rw e (omega (arith, ih))

pub front_is : (n : ℕ) (text : List ℕ) → take (length text - length (after_chars n text)) text ≡ front_chars n text
front_is n [] = refl
front_is n (b ∷ text) = by (front_is (n - starts b) text) (begins_char b && n == 0) refl where
  by : take (length text - length (after_chars (n - starts b) text)) text ≡ front_chars (n - starts b) text → (t : Bool) → (begins_char b && n == 0) ≡ t
      → take (length (b ∷ text) - length (after_chars n (b ∷ text))) (b ∷ text) ≡ front_chars n (b ∷ text)
  by ih true e = let none : suc (length text) - suc (length text) ≡ 0 = omega arith in rw e (ap (λ k. take k (b ∷ text)) none)
  by ih false e =
      let short = after_shorter (n - starts b) text in
      let more : suc (length text) - length (after_chars (n - starts b) text) ≡ suc (length text - length (after_chars (n - starts b) text)) = omega arith in
      rw e (ap (λ k. take k (b ∷ text)) more ∙ ap (λ bytes. b ∷ bytes) ih)

pub word_shorter : (text : List ℕ) → length (last_word text) ≤ length text
word_shorter [] = omega arith
word_shorter (b ∷ text) = by (word_shorter text) (list_any is_blank (b ∷ text)) refl where
  by : length (last_word text) ≤ length text → (t : Bool) → list_any is_blank (b ∷ text) ≡ t → length (last_word (b ∷ text)) ≤ length (b ∷ text)
  by ih true e = rw e (omega (arith, ih))
  by ih false e = rw e (omega arith)

-- what comes after the last blank is the whole text where there is none
pub word_or_all : (text : List ℕ) → last_word text ≡ cond (list_any is_blank text) (last_word text) text
word_or_all [] = refl
word_or_all (b ∷ text) = by (list_any is_blank (b ∷ text)) refl where
  by : (t : Bool) → list_any is_blank (b ∷ text) ≡ t → last_word (b ∷ text) ≡ cond (list_any is_blank (b ∷ text)) (last_word (b ∷ text)) (b ∷ text)
  by true e = rw e refl
  by false e = rw e refl

pub next_byte : (b : ℕ) (text word : List ℕ) → cond (list_any is_blank (b ∷ text)) (last_word (b ∷ text)) word ≡ cond (is_blank b) (last_word text) (cond (list_any is_blank text) (last_word text) word)
next_byte b text word = by (is_blank b) (list_any is_blank text) refl refl where
  by : (t u : Bool) → is_blank b ≡ t → list_any is_blank text ≡ u → cond (list_any is_blank (b ∷ text)) (last_word (b ∷ text)) word ≡ cond (is_blank b) (last_word text) (cond (list_any is_blank text) (last_word text) word)
  by true u e f = rw e refl
  by false true e f = rw e (rw f refl)
  by false false e f = rw e (rw f refl)

pub ruleset word_facts = (word_or_all, next_byte)

-- How texts are cut at formatting and into characters.
use Rattle.std.proofs.Common.{◌≡◌, ℕ, zero, suc, ◌+◌, ◌-◌, ◌≤◌, ◌<◌, Bool, true, false, cond, List, [], ◌∷◌, ◌++◌, length, take, drop, get_or, map, refl, ap, sym, ◌∙◌, arith, length-append, subst, append-nil, append_assoc}
use Rattle.std.specs.Prelude.{◌||◌, ◌==◌}
use Rattle.std.specs.List.{onto_first, list_any, concat}
use Rattle.std.specs.Borrow.{Bor}
use Rattle.std.proofs.lemmas.List.{take_at, take_all, length-drop}
use Rattle.wc_irc_texts.specs.Names.{begins_with_char_of, begins_with_text}
use Rattle.wc_irc_texts.specs.Texts.{is_format, is_inner, colour_len, plain_after, plain, char_texts, spaced}
use Rattle.wc_irc_texts.specs.TextsSeen.{begins_format, before_format, from_format, past_format, front_inner, past_inner, first_char, after_char}

-- the front of a text, by the length of what comes after it
pub front_by_length : (front back text : List ℕ) → front ++ back ≡ text → take (length text - length back) text ≡ front
front_by_length front back text whole =
    let n : length front ≡ length text - length back = omega (arith, length-append front back, ap length whole) in
    let P : List ℕ → Type 0 = λ t. take (length text - length back) t ≡ front in
    subst P whole (take_at front back _ n)

back_fits : (front back text : List ℕ) → front ++ back ≡ text → length back ≤ length text
back_fits front back text whole = omega (arith, length-append front back, ap length whole)

-- ---- formatting

before-from : (text : List ℕ) → before_format text ++ from_format text ≡ text
before-from [] = refl
before-from (b ∷ text) = by (begins_format b) (before-from text) where
  by : (t : Bool) → before_format text ++ from_format text ≡ text → cond t [] (b ∷ before_format text) ++ cond t (b ∷ text) (from_format text) ≡ b ∷ text
  by true ih = refl
  by false ih = ap (λ t. b ∷ t) ih

pub length-from_format : (text : List ℕ) → length (from_format text) ≤ length text
length-from_format text = back_fits (before_format text) (from_format text) text (before-from text)

pub before_format_by_length : (text : List ℕ) → take (length text - length (from_format text)) text ≡ before_format text
before_format_by_length text = front_by_length (before_format text) (from_format text) text (before-from text)

pub ruleset format_cuts = (length-from_format, before_format_by_length)

-- the bytes of a colour are passed over
plain_after-drop : (n : ℕ) (text : List ℕ) → plain_after n text ≡ plain_after 0 (drop n text)
plain_after-drop zero text = refl
plain_after-drop (suc n) [] = refl
plain_after-drop (suc n) (b ∷ text) = plain_after-drop n text

pub plain-past : (text : List ℕ) → plain_after 0 (past_format text) ≡ plain_after 0 text
plain-past [] = refl
plain-past (b ∷ text) = by (b == 3) (is_format b) refl refl where
  by : (t u : Bool) → (b == 3) ≡ t → is_format b ≡ u → plain_after 0 (cond t (drop (colour_len text) text) (cond u text (b ∷ text)))
      ≡ cond t (plain_after (colour_len text) text) (cond u (plain_after 0 text) (b ∷ plain_after 0 text))
  by true u e f = sym (plain_after-drop (colour_len text) text)
  by false true e f = refl
  by false false e f = ap (λ t. cond t (plain_after (colour_len text) text) (cond (is_format b) (plain_after 0 text) (b ∷ plain_after 0 text))) e ∙ ap (λ u. cond u (plain_after 0 text) (b ∷ plain_after 0 text)) f

plain-front : (text : List ℕ) → before_format text ++ plain_after 0 (from_format text) ≡ plain_after 0 text
plain-front [] = refl
plain-front (b ∷ text) = by (b == 3) (is_format b) refl refl (plain-front text) where
  at : (t u : Bool) → (b == 3) ≡ t → is_format b ≡ u → plain_after 0 (b ∷ text) ≡ cond t (plain_after (colour_len text) text) (cond u (plain_after 0 text) (b ∷ plain_after 0 text))
  at t u e f = ap (λ t. cond t (plain_after (colour_len text) text) (cond (is_format b) (plain_after 0 text) (b ∷ plain_after 0 text))) e ∙ ap (λ u. cond t (plain_after (colour_len text) text) (cond u (plain_after 0 text) (b ∷ plain_after 0 text))) f

  by : (t u : Bool) → (b == 3) ≡ t → is_format b ≡ u → before_format text ++ plain_after 0 (from_format text) ≡ plain_after 0 text
      → cond (t || u) [] (b ∷ before_format text) ++ plain_after 0 (cond (t || u) (b ∷ text) (from_format text)) ≡ cond t (plain_after (colour_len text) text) (cond u (plain_after 0 text) (b ∷ plain_after 0 text))
  by true u e f ih = at true u e f
  by false true e f ih = at false true e f
  by false false e f ih = ap (λ t. b ∷ t) ih

-- one step of the walk
pub plain-step : (text : List ℕ) → before_format text ++ plain_after 0 (past_format (from_format text)) ≡ plain_after 0 text
plain-step text = ap (λ t. before_format text ++ t) (plain-past (from_format text)) ∙ plain-front text

past_format-le : (text : List ℕ) → length (past_format text) ≤ length text
past_format-le [] = omega arith
past_format-le (b ∷ text) = by (b == 3) (is_format b) where
  by : (t u : Bool) → length (cond t (drop (colour_len text) text) (cond u text (b ∷ text))) ≤ suc (length text)
  by true u = omega (arith, length-drop (colour_len text) text)
  by false true = omega arith
  by false false = omega arith

pub plain-shorter : (text : List ℕ) → 0 < length text → length (past_format (from_format text)) < length text
plain-shorter [] some = absurd (omega arith)
plain-shorter (b ∷ text) some = by (b == 3) (is_format b) refl refl where
  by : (t u : Bool) → (b == 3) ≡ t → is_format b ≡ u → length (past_format (cond (t || u) (b ∷ text) (from_format text))) < suc (length text)
  by true u e f = subst (λ (t : Bool). length (cond t (drop (colour_len text) text) (cond (is_format b) text (b ∷ text))) < suc (length text)) (sym e) (omega (arith, length-drop (colour_len text) text))
  by false true e f = subst (λ (t : Bool). length (cond t (drop (colour_len text) text) (cond (is_format b) text (b ∷ text))) < suc (length text)) (sym e)
      (subst (λ (u : Bool). length (cond u text (b ∷ text)) < suc (length text)) (sym f) (omega arith))
  by false false e f = omega (arith, past_format-le (from_format text), length-from_format text)

pub plain_made : (text : List ℕ) → plain text ≡ plain_after 0 text
unfolding plain
plain_made text = refl

pub ruleset plain_steps = (plain-shorter, plain_made)

-- ---- characters

front-past : (text : List ℕ) → front_inner text ++ past_inner text ≡ text
front-past [] = refl
front-past (b ∷ text) = by (is_inner b) (front-past text) where
  by : (t : Bool) → front_inner text ++ past_inner text ≡ text → cond t (b ∷ front_inner text) [] ++ cond t (past_inner text) (b ∷ text) ≡ b ∷ text
  by true ih = ap (λ t. b ∷ t) ih
  by false ih = refl

pub length-past_inner : (text : List ℕ) → length (past_inner text) ≤ length text
length-past_inner text = back_fits (front_inner text) (past_inner text) text (front-past text)

pub first_char_by_length : (b : ℕ) (text : List ℕ) → take (suc (length text) - length (past_inner text)) (b ∷ text) ≡ b ∷ front_inner text
first_char_by_length b text = front_by_length (b ∷ front_inner text) (past_inner text) (b ∷ text) (ap (λ t. b ∷ t) (front-past text))

-- the same, of a text and what comes after its first character
pub char_front : (text back : List ℕ) → 1 ≤ length text → back ≡ past_inner (take (length text - 1) (drop 1 text)) → take (length text - length back) text ≡ first_char text
char_front [] back some same = absurd (omega arith)
char_front (b ∷ text) back some same =
    let whole : take (suc (length text) - 1) text ≡ text = take_all (suc (length text) - 1) text (omega arith) in
    ap (λ t. take (suc (length text) - length t) (b ∷ text)) (same ∙ ap past_inner whole) ∙ first_char_by_length b text

pub ruleset char_cuts = (length-past_inner, first_char_by_length)

-- the first character is the first of all
pub chars-first : (b : ℕ) (text : List ℕ) → char_texts (b ∷ text) ≡ (b ∷ front_inner text) ∷ char_texts (past_inner text)
unfolding char_texts
chars-first b [] = refl
chars-first b (c ∷ text) = by (is_inner c) refl (chars-first c text) where
  by : (t : Bool) → is_inner c ≡ t → char_texts (c ∷ text) ≡ (c ∷ front_inner text) ∷ char_texts (past_inner text)
      → cond t (onto_first b (char_texts (c ∷ text))) ((b ∷ []) ∷ char_texts (c ∷ text)) ≡ (b ∷ cond t (c ∷ front_inner text) []) ∷ char_texts (cond t (past_inner text) (c ∷ text))
  by true e ih = ap (onto_first b) ih
  by false e ih = refl

pub no_chars : char_texts [] ≡ []
unfolding char_texts
no_chars = refl

-- whether one of them passes a test, one character on
pub any_char-step : (f : List ℕ → Bool) (text : List ℕ) → 0 < length text → list_any f (char_texts text) ≡ (f (first_char text) || list_any f (char_texts (after_char text)))
any_char-step f [] some = absurd (omega arith)
any_char-step f (b ∷ text) some = ap (list_any f) (chars-first b text)

-- whether a text begins with one of them, one character on
pub begins-step : (text rest first others : List ℕ) (t : Bool) → 0 < length rest → first ≡ first_char rest → others ≡ after_char rest → begins_with_text text first ≡ t
    → begins_with_char_of rest text ≡ (t || begins_with_char_of others text)
begins-step text rest first others t some here more is =
    any_char-step (begins_with_text text) rest some
    ∙ ap (λ c. begins_with_text text c || begins_with_char_of (after_char rest) text) (sym here)
    ∙ ap (λ t. t || begins_with_char_of (after_char rest) text) is
    ∙ ap (λ c. t || begins_with_char_of c text) (sym more)

pub no_chars_begin : (text : List ℕ) → begins_with_char_of [] text ≡ false
no_chars_begin text = ap (list_any (begins_with_text text)) no_chars

pub after_char-shorter : (text : List ℕ) → 0 < length text → length (after_char text) < length text
after_char-shorter [] some = absurd (omega arith)
after_char-shorter (b ∷ text) some = omega (arith, length-past_inner text)

pub ruleset char_steps = (after_char-shorter, no_chars)

-- ---- joined texts

-- each text after a blank
abbrev pub spaced_after : List (List ℕ) → List ℕ
spaced_after [] = []
spaced_after (text ∷ texts) = 32 ∷ (text ++ spaced_after texts)

pub spaced-first : (text : List ℕ) (texts : List (List ℕ)) → text ++ spaced_after texts ≡ spaced (text ∷ texts)
spaced-first text [] = append-nil text
spaced-first text (next ∷ texts) = ap (λ t. text ++ 32 ∷ t) (spaced-first next texts)

-- the first of a list and those after it
pub spaced-init : (text first : List ℕ) (texts : List (List ℕ)) → 1 ≤ length texts → first ≡ get_or texts 0 first → text ≡ first
    → text ++ spaced_after (take (length texts - 1) (drop 1 texts)) ≡ spaced texts
spaced-init text first [] some is same = absurd (omega arith)
spaced-init text first (next ∷ texts) some is same =
    let whole : take (suc (length texts) - 1) texts ≡ texts = take_all (suc (length texts) - 1) texts (omega arith) in
    ap (λ t. text ++ spaced_after t) whole ∙ ap (λ t. t ++ spaced_after texts) (same ∙ is) ∙ spaced-first next texts

-- one more piece
concat-suc : (pieces : List (Bor (List ℕ))) (i : ℕ) (d : Bor (List ℕ)) → i < length pieces
    → concat (map (λ (p : Bor (List ℕ)). p.now) (take (suc i) pieces)) ≡ concat (map (λ (p : Bor (List ℕ)). p.now) (take i pieces)) ++ (get_or pieces i d).now
concat-suc [] i d inside = absurd (omega arith)
concat-suc (p ∷ pieces) zero d inside = append-nil p.now
concat-suc (p ∷ pieces) (suc i) d inside =
    ap (λ t. p.now ++ t) (concat-suc pieces i d (omega arith)) ∙ sym (append_assoc p.now (concat (map (λ (p : Bor (List ℕ)). p.now) (take i pieces))) (get_or pieces i d).now)

pub concat_more : (text : List ℕ) (pieces : List (Bor (List ℕ))) (i : ℕ) (d : Bor (List ℕ)) → i < length pieces
    → text ≡ concat (map (λ (p : Bor (List ℕ)). p.now) (take i pieces))
    → text ++ (get_or pieces i d).now ≡ concat (map (λ (p : Bor (List ℕ)). p.now) (take (i + 1) pieces))
concat_more text pieces i d inside same =
    let next : i + 1 ≡ suc i = omega arith in
    ap (λ t. t ++ (get_or pieces i d).now) same ∙ sym (concat-suc pieces i d inside) ∙ ap (λ n. concat (map (λ (p : Bor (List ℕ)). p.now) (take n pieces))) (sym next)

-- How names are cut into signs and a nick.
use Rattle.std.proofs.Common.{◌≡◌, ℕ, suc, ◌+◌, ◌-◌, ◌<◌, Bool, true, false, cond, List, [], ◌∷◌, length, Option, Some, None, option_map, refl, ap, sym, ◌∙◌, arith}
use Rattle.std.specs.Prelude.{bytes_eq, slice_index_or}
use Rattle.std.specs.List.{concat, onto_first}
use Rattle.wc_irc_texts.specs.Listed.{place_among, one_more, past_sign, front_signs, after_signs, bits_of}
use Rattle.wc_irc_texts.specs.ModeBits.{bits_changed}
use Rattle.wc_irc_texts.specs.ListedSeen.{HasNoSign, HasSign}
use Rattle.wc_irc_texts.specs.Texts.{char_texts, begins_inside}
use Rattle.wc_irc_texts.specs.TextsSeen.{first_char, after_char}
use Rattle.wc_irc_texts.proofs.TextLemmas.{chars-first, no_chars, after_char-shorter}

-- the first character and the others
pub chars-cut : (text : List ℕ) → 0 < length text → char_texts text ≡ first_char text ∷ char_texts (after_char text)
chars-cut [] some = absurd (omega arith)
chars-cut (b ∷ text) some = chars-first b text

-- the characters of a text, one after another, are the text
pub concat-chars : (text : List ℕ) → concat (char_texts text) ≡ text
unfolding char_texts
concat-chars [] = refl
concat-chars (b ∷ text) = by (begins_inside text) (char_texts text) (concat-chars text) where
  by : (t : Bool) (chars : List (List ℕ)) → concat chars ≡ text → concat (cond t (onto_first b chars) ((b ∷ []) ∷ chars)) ≡ b ∷ text
  by true [] same = ap (λ l. b ∷ l) same
  by true (c ∷ chars) same = ap (λ l. b ∷ l) same
  by false chars same = ap (λ l. b ∷ l) same

-- the place of a character, one sign on
pub place-step : (signs : List (List ℕ)) (sign character : List ℕ) (t : Bool) → bytes_eq character sign ≡ t → place_among (sign ∷ signs) character ≡ cond t (Some 0) (option_map suc (place_among signs character))
place-step signs sign character t e = ap (λ t. cond t (Some 0) (option_map suc (place_among signs character))) e

-- a place further on
abbrev pub shifted : ℕ → Option ℕ → Option ℕ
shifted n o = option_map (λ k. n + k) o

pub shifted-suc : (n : ℕ) (o : Option ℕ) → shifted n (option_map suc o) ≡ shifted (n + 1) o
shifted-suc n None = refl
shifted-suc n (Some k) = ap Some (next n k) where
  next : (n k : ℕ) → n + suc k ≡ n + 1 + k
  next n k = omega arith

pub shifted-none : (o : Option ℕ) → shifted 0 o ≡ o
shifted-none None = refl
shifted-none (Some k) = ap Some (same k) where
  same : (k : ℕ) → 0 + k ≡ k
  same k = omega arith

-- ---- the sign at the front

pub empty_cut : (signs : List (List ℕ)) (name : List ℕ) → length name ≡ 0 → HasNoSign signs name
empty_cut signs [] none = record {
  none = ap (front_signs signs) no_chars;
  whole = ap (after_signs signs) no_chars ∙ sym no_chars;
}
empty_cut signs (b ∷ name) none = absurd (omega arith)

pub no_sign : (signs : List (List ℕ)) (name character others : List ℕ) → 0 < length name → character ≡ first_char name → others ≡ after_char name → place_among signs character ≡ None → HasNoSign signs name
no_sign signs name character others some first rest none =
    let chars : char_texts name ≡ character ∷ char_texts others = chars-cut name some ∙ (λ i. sym first i ∷ char_texts (sym rest i)) in
    record {
      none = ap (front_signs signs) chars ∙ ap (λ o. one_more o (front_signs signs (char_texts others))) none;
      whole = ap (after_signs signs) chars ∙ ap (λ o. past_sign o (character ∷ char_texts others) (after_signs signs (char_texts others))) none ∙ sym chars;
    }

pub one_sign : (signs : List (List ℕ)) (name character others : List ℕ) (place : ℕ) → 0 < length name → character ≡ first_char name → others ≡ after_char name → place_among signs character ≡ Some place → HasSign signs name place others
one_sign signs name character others place some first rest found =
    let chars : char_texts name ≡ character ∷ char_texts others = chars-cut name some ∙ (λ i. sym first i ∷ char_texts (sym rest i)) in
    record {
      first = ap (front_signs signs) chars ∙ ap (λ o. one_more o (front_signs signs (char_texts others))) found;
      same = ap (after_signs signs) chars ∙ ap (λ o. past_sign o (character ∷ char_texts others) (after_signs signs (char_texts others))) found;
      shorter = omega (arith, ap (λ (l : List ℕ). length l) rest, after_char-shorter name some);
    }

-- ---- the modes of the places

-- one more place, and then none
pub bits_step : (bits : ℕ) (places others : List ℕ) (place all : ℕ) → places ≡ place ∷ others → bits_of bits places ≡ all → bits_of (bits_changed true place bits) others ≡ all
bits_step bits places others place all first before = sym (ap (bits_of bits) first) ∙ before

pub bits_end : (bits : ℕ) (places : List ℕ) (all : ℕ) → places ≡ [] → bits_of bits places ≡ all → bits ≡ all
bits_end bits places all none before = sym (ap (bits_of bits) none) ∙ before

-- ---- a character among signs, one sign on

pub among-step : (rest sign others character : List ℕ) (t : Bool) → 0 < length rest → sign ≡ first_char rest → others ≡ after_char rest → bytes_eq character sign ≡ t
    → place_among (char_texts rest) character ≡ cond t (Some 0) (option_map suc (place_among (char_texts others) character))
among-step rest sign others character t some first after is =
    let chars : char_texts rest ≡ sign ∷ char_texts others = chars-cut rest some ∙ (λ i. sym first i ∷ char_texts (sym after i)) in
    ap (λ (l : List (List ℕ)). place_among l character) chars ∙ place-step (char_texts others) sign character t is

pub among-none : (rest character : List ℕ) → length rest ≡ 0 → place_among (char_texts rest) character ≡ None
among-none [] character none = ap (λ (l : List (List ℕ)). place_among l character) no_chars
among-none (b ∷ rest) character none = absurd (omega arith)

pub shifted-here : (n : ℕ) → Some n ≡ shifted n (Some 0)
shifted-here n = ap Some (same n) where
  same : (n : ℕ) → n ≡ n + 0
  same n = omega arith

-- ---- the character at a place

pub char_here : (text first : List ℕ) (d : List ℕ) → 0 < length text → first ≡ first_char text → slice_index_or (char_texts text) 0 d ≡ first
char_here text first d some is = ap (λ (l : List (List ℕ)). slice_index_or l 0 d) (chars-cut text some) ∙ sym is

pub char_later : (text others : List ℕ) (n : ℕ) (d : List ℕ) → 0 < length text → others ≡ after_char text → 0 < n → slice_index_or (char_texts text) n d ≡ slice_index_or (char_texts others) (n - 1) d
char_later text others n d some is more =
    let next : n ≡ suc (n - 1) = omega arith in
    ap (λ k. slice_index_or (char_texts text) k d) next ∙ ap (λ (l : List (List ℕ)). slice_index_or l (suc (n - 1)) d) (chars-cut text some)
    ∙ ap (λ (t : List ℕ). slice_index_or (char_texts t) (n - 1) d) (sym is)

pub no_char : (text : List ℕ) (n : ℕ) (d : List ℕ) → length text ≡ 0 → slice_index_or (char_texts text) n d ≡ d
no_char [] n d none = ap (λ (l : List (List ℕ)). slice_index_or l n d) no_chars
no_char (b ∷ text) n d none = absurd (omega arith)

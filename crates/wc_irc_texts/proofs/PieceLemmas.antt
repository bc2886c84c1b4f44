-- What commas part, piece by piece.
use Rattle.std.proofs.Common.{◌≡◌, ℕ, suc, ◌+◌, ◌-◌, ◌≤◌, ◌<◌, Bool, true, false, cond, List, [], ◌∷◌, length, refl, ap, sym, ◌∙◌, arith, Option, Some, None}
use Rattle.std.specs.Prelude.{◌||◌, ◌==◌, not, slice_index_or, IfSome, is_some}
use Rattle.std.specs.Borrow.{Bor}
use Rattle.std.specs.Option.{option_copied}
use Rattle.std.specs.List.{onto_first, slice_split, list_all, list_any}
use Rattle.std.proofs.lemmas.Bool.{and_parts, and_from}
use Rattle.wc_text.specs.Splits.{before, onward, text_after, past, word_of}
use Rattle.wc_ircmsg.specs.Written.{ends_lines, is_one_line, needs_colon}
use Rattle.wc_irc_texts.specs.Pieces.{pieces, pieces_left, is_bare, is_bare_left, length_left}
use Rattle.wc_irc_texts.specs.Texts.{in_one_line}

-- what a byte parts of what comes after it
abbrev pub split_after : ℕ → Option (List ℕ) → List (List ℕ)
split_after mark None = []
split_after mark (Some text) = slice_split (λ b. b == mark) text

-- the first part ends at the first such byte
pub split_first : (mark : ℕ) (text : List ℕ) → slice_split (λ b. b == mark) text ≡ before mark text ∷ split_after mark (text_after mark text)
split_first mark [] = refl
split_first mark (b ∷ text) = by (b == mark) (split_first mark text) where
  parts : List (List ℕ)
  parts = slice_split (λ c. c == mark) text

  by : (t : Bool) → parts ≡ before mark text ∷ split_after mark (text_after mark text)
      → cond t ([] ∷ parts) (onto_first b parts) ≡ cond t [] (b ∷ before mark text) ∷ split_after mark (cond t (Some text) (text_after mark text))
  by true ih = refl
  by false ih = ap (onto_first b) ih

abbrev pub pieces_after : Option (List ℕ) → List (List ℕ)
pieces_after text = split_after 44 text

-- the first piece ends at the first comma
pub pieces_first : (text : List ℕ) → pieces text ≡ before 44 text ∷ pieces_after (text_after 44 text)
pieces_first text = split_first 44 text

left_copied : (o : Option (Bor (List ℕ))) → pieces_left o ≡ pieces_after (option_copied o)
left_copied None = refl
left_copied (Some text) = refl

-- the same of what is lent
pub pieces_split : (text front : List ℕ) (o : Option (Bor (List ℕ))) → front ≡ before 44 text → option_copied o ≡ text_after 44 text → pieces text ≡ front ∷ pieces_left o
pieces_split text front o here there =
    pieces_first text ∙ ap (λ f. f ∷ pieces_after (text_after 44 text)) (sym here) ∙ ap (λ t. front ∷ pieces_after t) (sym there) ∙ ap (λ t. front ∷ t) (sym (left_copied o))

-- ---- bytes that no piece has

abbrev bare_byte : ℕ → Bool
bare_byte b = not ((b == 32) || ends_lines b)

pub all_before : (p : ℕ → Bool) (c : ℕ) (text : List ℕ) → list_all p text ≡ true → list_all p (before c text) ≡ true
all_before p c [] all = refl
all_before p c (b ∷ text) all = let both = and_parts (p b) (list_all p text) all in by (b == c) both.0 (all_before p c text both.1) where
  by : (t : Bool) → p b ≡ true → list_all p (before c text) ≡ true → list_all p (cond t [] (b ∷ before c text)) ≡ true
  by true first others = refl
  by false first others = and_from (p b) (list_all p (before c text)) first others

abbrev all_in : (ℕ → Bool) → Option (List ℕ) → Bool
all_in p None = true
all_in p (Some text) = list_all p text

all_after : (p : ℕ → Bool) (c : ℕ) (text : List ℕ) → list_all p text ≡ true → all_in p (text_after c text) ≡ true
all_after p c [] all = refl
all_after p c (b ∷ text) all = let both = and_parts (p b) (list_all p text) all in by (b == c) both.1 (all_after p c text both.1) where
  by : (t : Bool) → list_all p text ≡ true → all_in p (text_after c text) ≡ true → all_in p (cond t (Some text) (text_after c text)) ≡ true
  by true others after = others
  by false others after = after

pub all_onward : (p : ℕ → Bool) (c : ℕ) (text : List ℕ) → list_all p text ≡ true → list_all p (onward c text) ≡ true
all_onward p c [] all = refl
all_onward p c (b ∷ text) all = let both = and_parts (p b) (list_all p text) all in by (b == c) all (all_onward p c text both.1) where
  by : (t : Bool) → list_all p (b ∷ text) ≡ true → list_all p (onward c text) ≡ true → list_all p (cond t (b ∷ text) (onward c text)) ≡ true
  by true whole others = whole
  by false whole others = others

pub all_past : (p : ℕ → Bool) (c : ℕ) (text : List ℕ) → list_all p text ≡ true → list_all p (past c text) ≡ true
all_past p c [] all = refl
all_past p c (b ∷ text) all = let both = and_parts (p b) (list_all p text) all in by (b == c) all (all_past p c text both.1) where
  by : (t : Bool) → list_all p (b ∷ text) ≡ true → list_all p (past c text) ≡ true → list_all p (cond t (past c text) (b ∷ text)) ≡ true
  by true whole others = others
  by false whole others = whole

bare_copied : (o : Option (Bor (List ℕ))) → is_bare_left o ≡ all_in bare_byte (option_copied o)
bare_copied None = refl
bare_copied (Some text) = refl

pub bare_front : (text front : List ℕ) → front ≡ before 44 text → is_bare text ≡ true → is_bare front ≡ true
bare_front text front here bare = ap is_bare here ∙ all_before bare_byte 44 text bare

pub bare_others : (text : List ℕ) (o : Option (Bor (List ℕ))) → option_copied o ≡ text_after 44 text → is_bare text ≡ true → is_bare_left o ≡ true
bare_others text o there bare = bare_copied o ∙ ap (all_in bare_byte) there ∙ all_after bare_byte 44 text bare

-- a word of one line has no blanks
pub bare_word : (text : List ℕ) → is_one_line text ≡ true → is_bare (word_of text) ≡ true
bare_word [] line = refl
bare_word (b ∷ text) line = let both = and_parts (not (ends_lines b)) (is_one_line text) line in by (b == 32) refl both.0 (bare_word text both.1) where
  by : (t : Bool) → (b == 32) ≡ t → not (ends_lines b) ≡ true → is_bare (word_of text) ≡ true → is_bare (cond t [] (b ∷ word_of text)) ≡ true
  by true e plain others = refl
  by false e plain others = and_from (bare_byte b) (is_bare (word_of text)) (ap (λ t. not (t || ends_lines b)) e ∙ plain) others

pub one_line_made : (text : List ℕ) → is_one_line (in_one_line text) ≡ true
one_line_made [] = refl
one_line_made (b ∷ text) = by (not (ends_lines b)) refl (one_line_made text) where
  by : (t : Bool) → not (ends_lines b) ≡ t → is_one_line (in_one_line text) ≡ true → is_one_line (cond t (b ∷ in_one_line text) (in_one_line text)) ≡ true
  by true e others = and_from (not (ends_lines b)) (is_one_line (in_one_line text)) e others
  by false e others = others

-- ---- what a word that is sent may have

pub bare_line : (text : List ℕ) → is_bare text ≡ true → is_one_line text ≡ true
bare_line [] bare = refl
bare_line (b ∷ text) bare = let both = and_parts (bare_byte b) (is_bare text) bare in and_from (not (ends_lines b)) (is_one_line text) (plain (b == 32) (ends_lines b) both.0) (bare_line text both.1) where
  plain : (t u : Bool) → not (t || u) ≡ true → not u ≡ true
  plain true u bare = absurd (cc)
  plain false u bare = bare

bare_blanks : (text : List ℕ) → is_bare text ≡ true → list_any (λ c. c == 32) text ≡ false
bare_blanks [] bare = refl
bare_blanks (b ∷ text) bare = let both = and_parts (bare_byte b) (is_bare text) bare in
    ap (λ t. t || list_any (λ c. c == 32) text) (first (b == 32) (ends_lines b) both.0) ∙ bare_blanks text both.1 where
      first : (t u : Bool) → not (t || u) ≡ true → t ≡ false
      first true u bare = absurd (cc)
      first false u bare = refl

pub no_colon : (b : ℕ) (channel : List ℕ) → (b == 58) ≡ false → is_bare (b ∷ channel) ≡ true → not (needs_colon (b ∷ channel)) ≡ true
no_colon b channel other bare = ap (λ t. not (t || list_any (λ c. c == 32) (b ∷ channel))) other ∙ ap not (bare_blanks (b ∷ channel) bare)

pub made_in_line : (text line shown : List ℕ) → line ≡ in_one_line text → shown ≡ line → is_one_line shown ≡ true
made_in_line text line shown made lent = ap is_one_line (lent ∙ made) ∙ one_line_made text

-- ---- what is left of a text

pub left_shorter : (text : List ℕ) (o : Option (Bor (List ℕ))) → IfSome o (λ rest. length rest.now < length text) → length_left o ≤ length text
left_shorter text None shorter = omega arith
left_shorter text (Some rest) shorter = omega (arith, shorter)

pub some_left : (o : Option (Bor (List ℕ))) → is_some o ≡ true → 0 < length_left o
some_left None some = absurd (cc)
some_left (Some text) some = omega arith

-- ---- pieces by their places

pub piece_here : (parts others : List (List ℕ)) (front : List ℕ) (n s : ℕ) → parts ≡ front ∷ others → s ≡ n → slice_index_or parts (n - s) [] ≡ front
piece_here parts others front n s same here =
    let zero_left : n - s ≡ 0 = omega arith in
    ap (λ k. slice_index_or parts k []) zero_left ∙ ap (λ (l : List (List ℕ)). slice_index_or l 0 []) same

pub piece_later : (parts others : List (List ℕ)) (front : List ℕ) (n s : ℕ) → parts ≡ front ∷ others → s + 1 ≤ n → slice_index_or parts (n - s) [] ≡ slice_index_or others (n - (s + 1)) []
piece_later parts others front n s same later =
    let more : n - s ≡ suc (n - (s + 1)) = omega arith in
    ap (λ k. slice_index_or parts k []) more ∙ ap (λ (l : List (List ℕ)). slice_index_or l (suc (n - (s + 1))) []) same

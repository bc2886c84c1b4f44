-- How the words of a line come one by one.
use Rattle.std.proofs.Common.{◌≡◌, ℕ, suc, ◌<◌, Bool, true, false, List, [], ◌∷◌, length, take, drop, refl, sym, ap, subst, ◌∙◌, arith}
use Rattle.std.specs.Prelude.{filter, ◌==◌}
use Rattle.std.specs.List.{slice_split, onto_first, position_or_len}
use Rattle.std.proofs.lemmas.List.Splits.{slice_split-cons_yes, slice_split-cons_no}
use Rattle.wc_text.specs.Words.{is_space, is_filled, words_of, after_spaces}

abbrev after_first : List (List ℕ) → List (List ℕ)
after_first [] = []
after_first (part ∷ parts) = parts

-- where the first word ends
abbrev pub end_of : List ℕ → ℕ
end_of bytes = position_or_len is_space bytes

end_at_space : (b : ℕ) (bytes : List ℕ) → is_space b ≡ true → end_of (b ∷ bytes) ≡ 0
end_at_space b bytes e = rw e refl

end_later : (b : ℕ) (bytes : List ℕ) → is_space b ≡ false → end_of (b ∷ bytes) ≡ suc (end_of bytes)
end_later b bytes e = rw e (omega arith)

skips : (b : ℕ) (bytes : List ℕ) → is_space b ≡ true → after_spaces (b ∷ bytes) ≡ after_spaces bytes
skips b bytes e = rw e refl

keeps : (b : ℕ) (bytes : List ℕ) → is_space b ≡ false → after_spaces (b ∷ bytes) ≡ b ∷ bytes
keeps b bytes e = rw e refl

split_by : (b : ℕ) (bytes : List ℕ) (test : Bool) → is_space b ≡ test
    → slice_split is_space bytes ≡ take (end_of bytes) bytes ∷ after_first (slice_split is_space bytes)
    → slice_split is_space (b ∷ bytes) ≡ take (end_of (b ∷ bytes)) (b ∷ bytes) ∷ after_first (slice_split is_space (b ∷ bytes))
split_by b bytes true e h =
    slice_split-cons_yes is_space b bytes e
    ∙ (λ k. take (sym (end_at_space b bytes e) k) (b ∷ bytes) ∷ after_first (sym (slice_split-cons_yes is_space b bytes e) k))
split_by b bytes false e h =
    slice_split-cons_no is_space b bytes e ∙ ap (onto_first b) h
    ∙ (λ k. take (sym (end_later b bytes e) k) (b ∷ bytes) ∷ after_first (sym (slice_split-cons_no is_space b bytes e ∙ ap (onto_first b) h) k))

-- the first part ends at the first space
first_part : (bytes : List ℕ) → slice_split is_space bytes ≡ take (end_of bytes) bytes ∷ after_first (slice_split is_space bytes)
first_part [] = refl
first_part (b ∷ bytes) = split_by b bytes (is_space b) refl (first_part bytes)

others_by : (b : ℕ) (bytes : List ℕ) (test : Bool) → is_space b ≡ test
    → filter is_filled (slice_split is_space (drop (end_of bytes) bytes)) ≡ filter is_filled (after_first (slice_split is_space bytes))
    → filter is_filled (slice_split is_space (drop (end_of (b ∷ bytes)) (b ∷ bytes))) ≡ filter is_filled (after_first (slice_split is_space (b ∷ bytes)))
others_by b bytes true e h =
    (λ k. filter is_filled (slice_split is_space (drop (end_at_space b bytes e k) (b ∷ bytes))))
    ∙ ap (filter is_filled) (slice_split-cons_yes is_space b bytes e)
    ∙ (λ k. filter is_filled (after_first (sym (slice_split-cons_yes is_space b bytes e) k)))
others_by b bytes false e h =
    (λ k. filter is_filled (slice_split is_space (drop (end_later b bytes e k) (b ∷ bytes))))
    ∙ h
    ∙ (λ k. filter is_filled (after_first (sym (slice_split-cons_no is_space b bytes e ∙ ap (onto_first b) (first_part bytes)) k)))

-- what is from there on has the words of the other parts
other_parts : (bytes : List ℕ) → filter is_filled (slice_split is_space (drop (end_of bytes) bytes)) ≡ filter is_filled (after_first (slice_split is_space bytes))
other_parts [] = refl
other_parts (b ∷ bytes) = others_by b bytes (is_space b) refl (other_parts bytes)

pub filter_first : (word : List ℕ) (parts : List (List ℕ)) → is_filled word ≡ true → filter is_filled (word ∷ parts) ≡ word ∷ filter is_filled parts
filter_first word parts e = rw e refl

-- a word at the front is the first one
first_word : (bytes : List ℕ) → is_filled (take (end_of bytes) bytes) ≡ true → words_of bytes ≡ take (end_of bytes) bytes ∷ words_of (drop (end_of bytes) bytes)
unfolding words_of
first_word bytes some =
    ap (filter is_filled) (first_part bytes)
    ∙ filter_first (take (end_of bytes) bytes) (after_first (slice_split is_space bytes)) some
    ∙ ap (λ words. take (end_of bytes) bytes ∷ words) (sym (other_parts bytes))

skip_by : (b : ℕ) (bytes : List ℕ) (test : Bool) → is_space b ≡ test → words_of (after_spaces bytes) ≡ words_of bytes → words_of (after_spaces (b ∷ bytes)) ≡ words_of (b ∷ bytes)
unfolding words_of
skip_by b bytes true e h = ap (λ bs. filter is_filled (slice_split is_space bs)) (skips b bytes e) ∙ h ∙ sym (ap (filter is_filled) (slice_split-cons_yes is_space b bytes e))
skip_by b bytes false e h = ap (λ bs. filter is_filled (slice_split is_space bs)) (keeps b bytes e)

-- spaces at the front change no word
pub words_after_spaces : (bytes : List ℕ) → words_of (after_spaces bytes) ≡ words_of bytes
words_after_spaces [] = refl
words_after_spaces (b ∷ bytes) = skip_by b bytes (is_space b) refl (words_after_spaces bytes)

abbrev pub StartsWord : List ℕ → Type 0
StartsWord rest = 0 < length rest → is_filled (take (end_of rest) rest) ≡ true

starts_by : (b : ℕ) (bytes : List ℕ) (test : Bool) → is_space b ≡ test → StartsWord (after_spaces bytes) → StartsWord (after_spaces (b ∷ bytes))
starts_by b bytes true e h = let P : List ℕ → Type 0 = StartsWord in subst P (sym (skips b bytes e)) h
starts_by b bytes false e h =
    let P : List ℕ → Type 0 = StartsWord in
    subst P (sym (keeps b bytes e)) (λ _. ap (λ n. is_filled (take n (b ∷ bytes))) (end_later b bytes e))

pub starts_word : (bytes : List ℕ) → StartsWord (after_spaces bytes)
starts_word [] = λ h. absurd (omega arith)
starts_word (b ∷ bytes) = starts_by b bytes (is_space b) refl (starts_word bytes)

-- after the spaces is the first word, up to the next space or the end
pub next_word : (bytes rest : List ℕ) (e : ℕ) → rest ≡ after_spaces bytes → 0 < length rest → e ≡ position_or_len (λ b. b == 32) rest → words_of bytes ≡ take e rest ∷ words_of (drop e rest)
next_word bytes rest e following some is =
    let P : List ℕ → Type 0 = StartsWord in
    let starts : is_filled (take (end_of rest) rest) ≡ true = subst P (sym following) (starts_word bytes) some in
    sym (words_after_spaces bytes) ∙ sym (ap words_of following) ∙ first_word rest starts
    ∙ (λ k. take (sym is k) rest ∷ words_of (drop (sym is k) rest))

nothing_left : (rest : List ℕ) → length rest ≡ 0 → words_of rest ≡ []
unfolding words_of
nothing_left [] e = refl
nothing_left (b ∷ rest) e = absurd (omega arith)

-- where only spaces are, there is no word
pub no_word : (bytes rest : List ℕ) → rest ≡ after_spaces bytes → length rest ≡ 0 → (words_of bytes ≡ []) × (words_of rest ≡ [])
no_word bytes rest following none = (sym (words_after_spaces bytes) ∙ sym (ap words_of following) ∙ nothing_left rest none, nothing_left rest none)

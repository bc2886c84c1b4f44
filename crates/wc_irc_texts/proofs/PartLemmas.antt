-- How a text is parted: each part is there, fits and is of whole characters.
use Rattle.std.proofs.Common.{◌≡◌, ℕ, zero, suc, ◌+◌, ◌-◌, ◌≤◌, ◌<◌, Bool, true, false, cond, List, [], ◌∷◌, ◌++◌, length, take, drop, get_or, refl, ap, sym, ◌∙◌, arith, subst, IsUtf8, min, length-append, append_assoc, append-nil, ◌≢◌}
use Rattle.std.specs.Prelude.{◌||◌, ◌==◌, nat_le, nat_lt}
use Rattle.std.proofs.lemmas.Bool.Decides.{nat_tests}
use Rattle.std.proofs.lemmas.List.{take_all, take-append-drop, length-drop, length-take, get_or-take}
use Rattle.std.proofs.lemmas.Str.{IsUtf8-drop, IsUtf8-encode, IsCharBoundary-from_take, length-encode, len_utf8_bounds}
use Rattle.std.specs.Char.{len_utf8}
use lib.Utf8.{scalar, scalars, encode, encodes}
use Rattle.std.proofs.lemmas.Bool.{and_parts}
use Rattle.std.proofs.lemmas.List.{take_at}
use Rattle.wc_text.specs.Cut.{cut_of}
use Rattle.wc_text.proofs.CutLemmas.{cut_within, cut_inside, cut_utf8, cut_longest}
use Rattle.wc_text.proofs.Utf8Lemmas.{utf8_before_ascii, utf8_parts}
use Rattle.wc_irc_texts.specs.Parts.{has_blank, last_blank, cut_len, part_len, past_seam, after_part, parts_within, parts, is_seam, IsPart, AreParts, PartsAreWhole}

-- ---- the last blank

blank_there : (text : List ℕ) → has_blank text ≡ true → (last_blank text < length text) × (get_or text (last_blank text) 0 ≡ 32)
blank_there [] has = absurd (cc)
blank_there (b ∷ text) has = by (has_blank text) refl has (blank_there text) where
  first : (t : Bool) → (b == 32) ≡ t → (t || false) ≡ true → b ≡ 32
  first true same is = grind (arith, nat_tests)
  first false other is = absurd (cc)

  by : (t : Bool) → has_blank text ≡ t → ((b == 32) || t) ≡ true → (has_blank text ≡ true → (last_blank text < length text) × (get_or text (last_blank text) 0 ≡ 32))
      → (cond t (suc (last_blank text)) 0 < suc (length text)) × (get_or (b ∷ text) (cond t (suc (last_blank text)) 0) 0 ≡ 32)
  by true e is more = (omega (arith, (more e).0), (more e).1)
  by false e is more = (omega arith, first (b == 32) refl is)

pub last_blank_is : (text : List ℕ) → 0 < last_blank text → (last_blank text < length text) × (get_or text (last_blank text) 0 ≡ 32)
last_blank_is [] some = absurd (omega arith)
last_blank_is (b ∷ text) some = by (has_blank text) refl some where
  by : (t : Bool) → has_blank text ≡ t → 0 < cond t (suc (last_blank text)) 0 → (cond t (suc (last_blank text)) 0 < suc (length text)) × (get_or (b ∷ text) (cond t (suc (last_blank text)) 0) 0 ≡ 32)
  by true e some = let more = blank_there text e in (omega (arith, more.0), more.1)
  by false e some = absurd (omega arith)

-- a byte more at the end, which is a blank or is none
has_there : (text : List ℕ) (n : ℕ) → n < length text → (get_or text n 0 == 32) ≡ true → has_blank (take (suc n) text) ≡ true
has_there [] n inside is = absurd (omega arith)
has_there (b ∷ text) zero inside is = ap (λ t. t || false) is
has_there (b ∷ text) (suc n) inside is = ap (λ t. (b == 32) || t) (has_there text n (omega arith) is) ∙ or_true (b == 32) where
  or_true : (t : Bool) → (t || true) ≡ true
  or_true true = refl
  or_true false = refl

has_before : (text : List ℕ) (n : ℕ) → n < length text → (get_or text n 0 == 32) ≡ false → has_blank (take (suc n) text) ≡ has_blank (take n text)
has_before [] n inside other = absurd (omega arith)
has_before (b ∷ text) zero inside other = ap (λ t. t || false) other
has_before (b ∷ text) (suc n) inside other = ap (λ t. (b == 32) || t) (has_before text n (omega arith) other)

pub blank_here : (text : List ℕ) (n : ℕ) → n < length text → (get_or text n 0 == 32) ≡ true → last_blank (take (suc n) text) ≡ n
blank_here [] n inside is = absurd (omega arith)
blank_here (b ∷ text) zero inside is = refl
blank_here (b ∷ text) (suc n) inside is =
    ap (λ t. cond t (suc (last_blank (take (suc n) text))) 0) (has_there text n (omega arith) is) ∙ ap suc (blank_here text n (omega arith) is)

blank_before : (text : List ℕ) (n : ℕ) → n < length text → (get_or text n 0 == 32) ≡ false → last_blank (take (suc n) text) ≡ last_blank (take n text)
blank_before [] n inside other = absurd (omega arith)
blank_before (b ∷ text) zero inside other = refl
blank_before (b ∷ text) (suc n) inside other =
    ap (λ t. cond t (suc (last_blank (take (suc n) text))) 0) (has_before text n (omega arith) other)
    ∙ ap (λ k. cond (has_blank (take n text)) (suc k) 0) (blank_before text n (omega arith) other)

-- ---- the first part

record IsLength (room : ℕ) (text : List ℕ) (n : ℕ) : Type 0 where
  some : 0 < n
  inside : n ≤ length text
  within : n ≤ room
  utf8 : IsUtf8 (take n text)

-- a character is at the front, and one fits
first_fits : (text : List ℕ) (room : ℕ) → 4 ≤ room → IsUtf8 text → 0 < length text → 0 < cut_of text room
first_fits text room most utf8 some = by utf8.0 utf8.1.0 utf8.1.1 where
  by : (cs : List ℕ) → scalars cs ≡ true → encodes cs ≡ text → 0 < cut_of text room
  by [] all is = absurd (omega (arith, ap (λ (t : List ℕ). length t) is, some))
  by (c ∷ cs) all is =
      let long : length (encode c) ≡ len_utf8 c = length-encode c in
      let bounds = len_utf8_bounds c in
      let fits : len_utf8 c ≤ length text = omega (arith, ap (λ (t : List ℕ). length t) is, length-append (encode c) (encodes cs), long) in
      let front : take (len_utf8 c) text ≡ encode c = sym (ap (take (len_utf8 c)) is) ∙ take_at (encode c) (encodes cs) (len_utf8 c) long in
      let within : len_utf8 c ≤ room = omega (arith, bounds.1, most) in
      let longest : len_utf8 c ≤ cut_of text room = cut_longest text room (len_utf8 c) within fits (subst IsUtf8 (sym front) (IsUtf8-encode c (and_parts (scalar c) (scalars cs) all).0)) in
      omega (arith, bounds.0, longest)

cut_facts : (text : List ℕ) (room : ℕ) → 4 ≤ room → IsUtf8 text → 0 < length text → IsLength room text (cut_len room text)
cut_facts text room most utf8 some = by (nat_lt 0 (last_blank (take (suc room) text))) refl where
  place : ℕ
  place = last_blank (take (suc room) text)

  blank : 0 < place → IsLength room text place
  blank here =
      let found = last_blank_is (take (suc room) text) here in
      let long : length (take (suc room) text) ≡ min (suc room) (length text) = length-take (suc room) text in
      let inside : place < length text = omega (arith, found.0, long) in
      let within : place ≤ room = omega (arith, found.0, long) in
      let byte : get_or text place 0 ≡ 32 = sym (get_or-take (suc room) text place 0 (omega arith)) ∙ found.1 in
      record { some = here; inside = omega arith; within = within; utf8 = utf8_before_ascii text place utf8 inside (omega (arith, byte)) }

  by : (t : Bool) → nat_lt 0 place ≡ t → IsLength room text (cond t place (cut_of text room))
  by true e = blank (grind (arith, nat_tests))
  by false e = record { some = first_fits text room most utf8 some; inside = cut_inside text room; within = cut_within text room; utf8 = cut_utf8 text room }

part_facts : (text : List ℕ) (room : ℕ) → 4 ≤ room → IsUtf8 text → 0 < length text → IsLength room text (part_len room text)
unfolding part_len
part_facts text room most utf8 some = by (nat_le (length text) room) refl where
  by : (t : Bool) → nat_le (length text) room ≡ t → IsLength room text (cond t (length text) (cut_len room text))
  by true e = record { some = some; inside = omega arith; within = grind (arith, nat_tests); utf8 = subst IsUtf8 (sym (take_all (length text) text (omega arith))) utf8 }
  by false e = cut_facts text room most utf8 some

-- it is inside the text, whatever the room
pub len_inside : (room : ℕ) (text : List ℕ) → part_len room text ≤ length text
unfolding part_len
len_inside room text = by (nat_le (length text) room) (nat_lt 0 (last_blank (take (suc room) text))) refl where
  place : ℕ
  place = last_blank (take (suc room) text)

  blank : 0 < place → place ≤ length text
  blank here = omega (arith, (last_blank_is (take (suc room) text) here).0, length-take (suc room) text)

  by : (t u : Bool) → nat_lt 0 place ≡ u → cond t (length text) (cond u place (cut_of text room)) ≤ length text
  by true u e = omega arith
  by false true e = blank (grind (arith, nat_tests))
  by false false e = cut_inside text room

-- ---- seams

-- what is left out at the front of a text
abbrev seam_of : List ℕ → List ℕ
seam_of [] = []
seam_of (b ∷ text) = cond (b == 32) (b ∷ []) []

seam-whole : (text : List ℕ) → seam_of text ++ past_seam text ≡ text
seam-whole [] = refl
seam-whole (b ∷ text) = by (b == 32) where
  by : (t : Bool) → cond t (b ∷ []) [] ++ cond t text (b ∷ text) ≡ b ∷ text
  by true = refl
  by false = refl

seam_is : (text : List ℕ) → is_seam (seam_of text) ≡ true
seam_is [] = refl
seam_is (b ∷ text) = by (b == 32) refl where
  by : (t : Bool) → (b == 32) ≡ t → is_seam (cond t (b ∷ []) []) ≡ true
  by true e = e
  by false e = refl

seam_utf8 : (text : List ℕ) → IsUtf8 text → IsUtf8 (past_seam text)
seam_utf8 [] utf8 = utf8
seam_utf8 (b ∷ text) utf8 = by (b == 32) refl where
  by : (t : Bool) → (b == 32) ≡ t → IsUtf8 (cond t text (b ∷ text))
  by true e = let small : b < 128 = grind (arith, nat_tests) in (utf8_parts [] b text small utf8).1
  by false e = utf8

seam_shorter : (text : List ℕ) → length (past_seam text) ≤ length text
seam_shorter [] = omega arith
seam_shorter (b ∷ text) = by (b == 32) where
  by : (t : Bool) → length (cond t text (b ∷ text)) ≤ suc (length text)
  by true = omega arith
  by false = omega arith

-- ---- what comes after the first part

pub after_utf8 : (text : List ℕ) (room : ℕ) → 4 ≤ room → IsUtf8 text → 0 < length text → IsUtf8 (after_part room text)
after_utf8 text room most utf8 some =
    let is = part_facts text room most utf8 some in
    seam_utf8 (drop (part_len room text) text) (IsUtf8-drop text (part_len room text) utf8 (IsCharBoundary-from_take text (part_len room text) utf8 is.inside is.utf8))

pub after_shorter : (text : List ℕ) (room : ℕ) → 4 ≤ room → IsUtf8 text → 0 < length text → length (after_part room text) < length text
after_shorter text room most utf8 some =
    let is = part_facts text room most utf8 some in
    omega (arith, is.some, is.inside, seam_shorter (drop (part_len room text) text), length-drop (part_len room text) text)

-- ---- all parts

-- any bound that is long enough gives the same
same_parts : (one other : List ℕ) (room : ℕ) (text : List ℕ) → 4 ≤ room → IsUtf8 text → length text ≤ length one → length text ≤ length other → parts_within one room text ≡ parts_within other room text
same_parts [] [] room text most utf8 a b = refl
same_parts [] (y ∷ other) room [] most utf8 a b = refl
same_parts [] (y ∷ other) room (c ∷ text) most utf8 a b = absurd (omega arith)
same_parts (x ∷ one) [] room [] most utf8 a b = refl
same_parts (x ∷ one) [] room (c ∷ text) most utf8 a b = absurd (omega arith)
same_parts (x ∷ one) (y ∷ other) room [] most utf8 a b = refl
same_parts (x ∷ one) (y ∷ other) room (c ∷ text) most utf8 a b =
    let less : length (after_part room (c ∷ text)) < suc (length text) = after_shorter (c ∷ text) room most utf8 (omega arith) in
    ap (λ (ps : List (List ℕ)). take (part_len room (c ∷ text)) (c ∷ text) ∷ ps)
    (same_parts one other room (after_part room (c ∷ text)) most (after_utf8 (c ∷ text) room most utf8 (omega arith)) (omega arith) (omega arith))

pub parts_step : (room : ℕ) (text : List ℕ) → 4 ≤ room → IsUtf8 text → 0 < length text → parts room text ≡ take (part_len room text) text ∷ parts room (after_part room text)
unfolding parts
parts_step room [] most utf8 some = absurd (omega arith)
parts_step room (b ∷ text) most utf8 some =
    let less : length (after_part room (b ∷ text)) < suc (length text) = after_shorter (b ∷ text) room most utf8 some in
    ap (λ (ps : List (List ℕ)). take (part_len room (b ∷ text)) (b ∷ text) ∷ ps)
    (same_parts text (after_part room (b ∷ text)) room (after_part room (b ∷ text)) most (after_utf8 (b ∷ text) room most utf8 some) (omega arith) (omega arith))

pub no_parts : (room : ℕ) (text : List ℕ) → length text ≡ 0 → parts room text ≡ []
unfolding parts
no_parts room [] none = refl
no_parts room (b ∷ text) none = absurd (omega arith)

-- ---- the law

is_part : (text : List ℕ) (room : ℕ) → 4 ≤ room → IsUtf8 text → 0 < length text → IsPart room text (take (part_len room text) text) (after_part room text)
is_part text room most utf8 some =
    let n = part_len room text in
    let is = part_facts text room most utf8 some in
    let long : length (take n text) ≡ min n (length text) = length-take n text in
    record {
      seam = seam_of (drop n text);
      whole = sym (ap (λ t. take n text ++ t) (seam-whole (drop n text)) ∙ take-append-drop n text);
      left_out = seam_is (drop n text);
      filled = omega (arith, is.some, is.inside, long);
      fits = omega (arith, is.within, is.inside, long);
      utf8 = is.utf8;
    }

parts_are : (bound : List ℕ) (room : ℕ) (text : List ℕ) → 4 ≤ room → IsUtf8 text → length text ≤ length bound → AreParts room (parts_within bound room text) text
parts_are [] room [] most utf8 few = refl
parts_are [] room (b ∷ text) most utf8 few = absurd (omega arith)
parts_are (x ∷ bound) room [] most utf8 few = refl
parts_are (x ∷ bound) room (b ∷ text) most utf8 few =
    let less : length (after_part room (b ∷ text)) < suc (length text) = after_shorter (b ∷ text) room most utf8 (omega arith) in (
      after_part room (b ∷ text),
      is_part (b ∷ text) room most utf8 (omega arith),
      parts_are bound room (after_part room (b ∷ text)) most (after_utf8 (b ∷ text) room most utf8 (omega arith)) (omega arith),
    )

pub are_whole : PartsAreWhole
unfolding parts
are_whole room text most utf8 = parts_are text room text most utf8 (omega arith)

-- ---- the turns of the loops

pub blank_passed : (text : List ℕ) (place last : ℕ) → 0 < place → place ≤ last → last < length text → get_or text place 0 ≢ 32
    → last_blank (take (suc place) text) ≡ last_blank (take (suc last) text) → last_blank (take (suc (place - 1)) text) ≡ last_blank (take (suc last) text)
blank_passed text place last some within inside other same =
    let less : suc (place - 1) ≡ place = omega arith in
    let is : (get_or text place 0 == 32) ≡ false = grind (arith, nat_tests) in
    ap (λ n. last_blank (take n text)) less ∙ sym (blank_before text place (omega arith) is) ∙ same

pub blank_found : (text : List ℕ) (place last : ℕ) → place ≤ last → last < length text → get_or text place 0 ≡ 32
    → last_blank (take (suc place) text) ≡ last_blank (take (suc last) text) → place ≡ last_blank (take (suc last) text)
blank_found text place last within inside byte same =
    let is : (get_or text place 0 == 32) ≡ true = grind (arith, nat_tests) in
    sym (blank_here text place (omega arith) is) ∙ same

pub part_taken : (made before : List (List ℕ)) (part rest text whole : List ℕ) (room : ℕ) → 4 ≤ room → IsUtf8 text → 0 < length text → part ≡ take (part_len room text) text → rest ≡ after_part room text
    → made ≡ before ++ part ∷ [] → before ++ parts room text ≡ parts room whole → made ++ parts room rest ≡ parts room whole
part_taken made before part rest text whole room most utf8 some first more is same =
    (λ i. is i ++ parts room rest)
    ∙ append_assoc before (part ∷ []) (parts room rest)
    ∙ (λ i. before ++ first i ∷ parts room (more i))
    ∙ ap (λ (ps : List (List ℕ)). before ++ ps) (sym (parts_step room text most utf8 some))
    ∙ same

pub parts_end : (made : List (List ℕ)) (rest whole : List ℕ) (room : ℕ) → length rest ≡ 0 → made ++ parts room rest ≡ parts room whole → made ≡ parts room whole
parts_end made rest whole room none same =
    sym (append-nil made) ∙ ap (λ (ps : List (List ℕ)). made ++ ps) (sym (no_parts room rest none)) ∙ same

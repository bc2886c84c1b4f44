-- The values of forms that write a number, or cut or part a text at characters.
use Rattle.std.specs.Prelude.{◌≡◌, ℕ, zero, suc, ◌-◌, nat_eq, nat_lt, nat_le, Bool, true, false}
use Rattle.std.specs.Prelude.{◌==◌, List, [], ◌∷◌, ◌++◌, length, if◌then◌else◌}
use Rattle.std.specs.Prelude.{bytes_eq, codes}
use Rattle.std.specs.Prelude.{Option, Some, None, option_and_then, slice_get, ℤ, pos, negsuc, decimal}
use Rattle.std.specs.List.{slice_split, list_any}
use Rattle.std.specs.Fmt.{signed_decimal}
use Rattle.std.specs.HashSet.{contains, HashSet}
use Rattle.std.specs.Str.{chars, encode_utf8_all}
use Rattle.std.specs.declared.hash.BuildHasherDefault.{BuildHasherDefault}
use Rattle.std.specs.declared.hash.FoldHasher.{FoldHasher}
use Rattle.wc_text.specs.Integer.{integer_of}
use Rattle.wc_eval.specs.Texts.{character_count, first_characters}
use Rattle.wc_eval.specs.Values.{size_in}
use Rattle.wc_eval.specs.Answers.{calc_of}

-- ---- calc and length

abbrev pub number_text : Option ℤ → List ℕ
number_text None = 48 ∷ []
number_text (Some z) = signed_decimal z

abbrev pub calc_value : List ℕ → List ℕ
calc_value text = number_text (calc_of text)

abbrev pub length_value : List ℕ → List ℕ
length_value text = decimal (character_count text)

-- ---- cut

-- how many characters of a longer text are kept; where the suffix counts and is longer, none and
-- not the suffix either
abbrev pub kept_count : Bool → ℕ → List ℕ → Option ℕ
kept_count false n suffix = Some n
kept_count true n suffix = if nat_lt n (character_count suffix) then None
    else Some (n - character_count suffix)

abbrev pub front_and : Option ℕ → List ℕ → List ℕ → List ℕ
front_and None suffix text = []
front_and (Some count) suffix text = first_characters count text ++ suffix

abbrev pub cut_to : Bool → ℕ → List ℕ → List ℕ → List ℕ
cut_to counts n suffix text = if nat_le (character_count text) n then text
    else front_and (kept_count counts n suffix) suffix text

abbrev pub cut_by : Bool → Option ℕ → List ℕ → List ℕ → List ℕ
cut_by counts None suffix text = []
cut_by counts (Some n) suffix text = cut_to counts n suffix text

-- the size may have a `+` before it, with which the suffix counts
abbrev pub cut_value : List ℕ → List ℕ → List ℕ → List ℕ
cut_value [] suffix text = []
cut_value (b ∷ size) suffix text = if b == 43 then cut_by true (size_in size) suffix text
    else cut_by false (size_in (b ∷ size)) suffix text

-- ---- split

-- without separators a comma is one
abbrev pub or_comma : List ℕ → List ℕ
or_comma [] = 44 ∷ []
or_comma (b ∷ separators) = b ∷ separators

abbrev pub is_among : List ℕ → ℕ → Bool
is_among characters c = list_any (λ s. nat_eq s c) characters

-- what is between the separators; an empty text has nothing
abbrev pub parts_between : (ℕ → Bool) → List ℕ → List (List ℕ)
parts_between separates [] = []
parts_between separates (c ∷ characters) = slice_split separates (c ∷ characters)

-- the place from 0 of a part that is numbered from 1, or from -1 backward
abbrev pub place_of : ℤ → ℕ → Option ℕ
place_of (pos zero) count = None
place_of (pos (suc n)) count = Some n
place_of (negsuc n) count = if nat_lt n count then Some (count - suc n) else None

abbrev pub spelled_or_empty : Option (List ℕ) → List ℕ
spelled_or_empty None = []
spelled_or_empty (Some characters) = encode_utf8_all characters

abbrev pub part_at : List (List ℕ) → Option ℕ → List ℕ
part_at parts None = []
part_at parts (Some place) = spelled_or_empty (slice_get parts place)

-- a part by its number, or how many there are
abbrev pub part_of : List ℕ → List (List ℕ) → List ℕ
part_of number parts = if bytes_eq number (codes "count") then decimal (length parts)
    else part_at parts (option_and_then (λ z. place_of z (length parts)) (integer_of number))

-- there are no flags
abbrev pub split_value : List ℕ → List ℕ → List ℕ → List ℕ → List ℕ
split_value number separators [] text =
    part_of number (parts_between (is_among (chars (or_comma separators))) (chars text))
split_value number separators (flag ∷ flags) text = []

-- ---- how a text is parted

abbrev pub Characters : Type 0
Characters = HashSet ℕ (BuildHasherDefault FoldHasher)

-- the set has these characters and no others
abbrev pub AreSeparators : List ℕ → Characters → Type 0
AreSeparators characters known = (c : ℕ) → contains nat_eq known c ≡ is_among characters c

-- what comes after so many separators
abbrev pub after_separators : (ℕ → Bool) → ℕ → List ℕ → Option (List ℕ)
after_separators separates zero characters = Some characters
after_separators separates (suc n) [] = None
after_separators separates (suc n) (c ∷ characters) = if separates c
    then after_separators separates n characters
    else after_separators separates (suc n) characters

-- what is before the next separator
abbrev pub before_separator : (ℕ → Bool) → List ℕ → List ℕ
before_separator separates [] = []
before_separator separates (c ∷ characters) = if separates c then []
    else c ∷ before_separator separates characters

abbrev pub separator_count : (ℕ → Bool) → List ℕ → ℕ
separator_count separates [] = 0
separator_count separates (c ∷ characters) = if separates c
    then suc (separator_count separates characters) else separator_count separates characters

-- Masks, in which `*` stands for any run of bytes.
use Rattle.std.specs.Prelude.{ℕ, Bool, true, false, not, ◌&&◌, ◌||◌, ◌==◌, List, [], ◌∷◌, Option}
use Rattle.std.specs.Prelude.{Some, None, if◌then◌else◌}
use Rattle.std.specs.Char.{to_ascii_lowercase}
use Rattle.std.specs.List.{list_all}

-- whether two bytes are the same, or with `fold` the same but for ASCII case
abbrev pub same_byte : Bool → ℕ → ℕ → Bool
same_byte fold a b = if fold then to_ascii_lowercase a == to_ascii_lowercase b else a == b

-- whether the test holds of some end of the text, among them the whole text and the empty end
abbrev pub some_end : (List ℕ → Bool) → List ℕ → Bool
some_end test [] = test []
some_end test (b ∷ text) = test (b ∷ text) || some_end test text

-- whether the text begins with this byte, and the test holds of what comes after it
abbrev pub first_and : Bool → ℕ → (List ℕ → Bool) → List ℕ → Bool
first_and fold c test [] = false
first_and fold c test (b ∷ text) = same_byte fold c b && test text

abbrev pub is_nothing : List ℕ → Bool
is_nothing [] = true
is_nothing (b ∷ text) = false

abbrev pub is_star : ℕ → Bool
is_star c = c == 42

-- whether the mask matches the whole text: an empty mask the empty text, `*` and more where the
-- more matches some end, and another byte and more where the text begins with that byte and the
-- more matches what comes after it
abbrev pub matches_of : Bool → List ℕ → List ℕ → Bool
matches_of fold [] text = is_nothing text
matches_of fold (c ∷ mask) text =
    if is_star c then some_end (matches_of fold mask) text
    else first_and fold c (matches_of fold mask) text

-- ---- for the search by parts of the mask
abbrev pub is_plain : List ℕ → Bool
is_plain part = list_all (λ c. not (is_star c)) part

-- what comes after the part, where the text begins with it
abbrev pub after_front : Bool → List ℕ → List ℕ → Option (List ℕ)
after_front fold [] text = Some text
after_front fold (c ∷ part) [] = None
after_front fold (c ∷ part) (b ∷ text) = if same_byte fold c b
    then after_front fold part text else None

abbrev pub first_of_two : Option (List ℕ) → Option (List ℕ) → Option (List ℕ)
first_of_two (Some text) other = Some text
first_of_two None other = other

-- what comes after the first place of the part
abbrev pub after_first : Bool → List ℕ → List ℕ → Option (List ℕ)
after_first fold part [] = after_front fold part []
after_first fold part (b ∷ text) = first_of_two (after_front fold part (b ∷ text))
    (after_first fold part text)

-- whether the text ends with the mask, which has no star
abbrev pub ends_with : Bool → List ℕ → List ℕ → Bool
ends_with fold mask text = some_end (matches_of fold mask) text

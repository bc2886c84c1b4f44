-- How a text that is too long for one line is parted: at blanks, and else between characters.
use Rattle.std.specs.Prelude.{◌≡◌, ℕ, suc, ◌<◌, ◌≤◌, nat_le, nat_lt, ◌==◌, Bool, true, false, List}
use Rattle.std.specs.Prelude.{[], ◌∷◌, ◌++◌, length, take, drop, if◌then◌else◌}
use Rattle.std.specs.List.{list_any}
use Rattle.std.specs.Str.{IsUtf8}
use Rattle.wc_text.specs.Cut.{cut_of}

abbrev pub has_blank : List ℕ → Bool
has_blank text = list_any (λ b. b == 32) text

-- the place of the last blank that is not at the front, or 0 where there is none
abbrev pub last_blank : List ℕ → ℕ
last_blank [] = 0
last_blank (b ∷ text) = if has_blank text then suc (last_blank text) else 0

-- how many bytes fit into the room where the text has more: those before the last blank that may
-- come after them, or else as many whole characters as fit
abbrev pub cut_len : ℕ → List ℕ → ℕ
cut_len room text =
    if nat_lt 0 (last_blank (take (suc room) text)) then last_blank (take (suc room) text)
    else cut_of text room

-- how many bytes the first part has
unfoldable pub part_len : ℕ → List ℕ → ℕ
part_len room text = if nat_le (length text) room then length text else cut_len room text

-- a text without the blank at a seam
abbrev pub past_seam : List ℕ → List ℕ
past_seam [] = []
past_seam (b ∷ text) = if b == 32 then text else b ∷ text

-- what comes after the first part
abbrev pub after_part : ℕ → List ℕ → List ℕ
after_part room text = past_seam (drop (part_len room text) text)

-- the parts of a text, of which there are not more than `bound` has bytes
abbrev pub parts_within : List ℕ → ℕ → List ℕ → List (List ℕ)
parts_within [] room text = []
parts_within (x ∷ bound) room [] = []
parts_within (x ∷ bound) room (b ∷ text) = take (part_len room (b ∷ text)) (b ∷ text)
    ∷ parts_within bound room (after_part room (b ∷ text))

-- the parts of a text, each of which fits into the room
unfoldable pub parts : ℕ → List ℕ → List (List ℕ)
parts room text = parts_within text room text

-- ---- what holds of them

-- one blank or nothing
abbrev pub is_seam : List ℕ → Bool
is_seam [] = true
is_seam (b ∷ []) = b == 32
is_seam (b ∷ c ∷ text) = false

-- A text is a part, a seam and what comes after it.
pub record IsPart (room : ℕ) (text part rest : List ℕ) : Type 0 where
  pub seam : List ℕ
  pub whole : text ≡ part ++ (seam ++ rest)
  pub left_out : is_seam seam ≡ true
  pub filled : 0 < length part
  pub fits : length part ≤ room
  pub utf8 : IsUtf8 part

-- A text is its parts with a seam after each.
abbrev pub AreParts : ℕ → List (List ℕ) → List ℕ → Type 0
AreParts room [] text = text ≡ []
AreParts room (part ∷ parts) text = (rest : List ℕ) × IsPart room text part rest
    × AreParts room parts rest

-- The parts of any text are the whole of it, where a character fits.
abbrev pub PartsAreWhole : Type 0
PartsAreWhole = (room : ℕ) (text : List ℕ) → 4 ≤ room → IsUtf8 text →
    AreParts room (parts room text) text

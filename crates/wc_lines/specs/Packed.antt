-- The texts of a line in one block of bytes: the prefix, the message, and then each tag after its
-- length in four bytes.
use Rattle.std.specs.Prelude.{ℕ, zero, suc, ◌<◌, ◌^◌, List, [], ◌∷◌, ◌++◌}
use Rattle.std.specs.Prelude.{length, take}
use Rattle.std.specs.Prelude.{drop, Option, Some, None, nat_lt, if◌then◌else◌}
use Rattle.std.specs.Int.{w32, to_be_bytes, from_be_bytes}

-- the texts of a line
pub record LineTexts : Type 0 where
  pub tags : List (List ℕ)
  pub prefix : List ℕ
  pub message : List ℕ

unfoldable pub spelled : List ℕ → List ℕ
spelled tag = to_be_bytes w32 (length tag) ++ tag

abbrev pub all_spelled : List (List ℕ) → List ℕ
all_spelled [] = []
all_spelled (tag ∷ tags) = spelled tag ++ all_spelled tags

-- four bytes say the length of each
abbrev pub AllFit : List (List ℕ) → Type 0
AllFit [] = Unit {0}
AllFit (tag ∷ tags) = (length tag < 2 ^ 32) × AllFit tags

-- the first so many bytes, and the others
abbrev pub cut_at : ℕ → List ℕ → Option (List ℕ × List ℕ)
cut_at n bytes = if nat_lt (length bytes) n then None else Some (take n bytes, drop n bytes)

-- the tag at the front of the bytes, and the bytes after it
unfoldable pub first_tag : List ℕ → Option (List ℕ × List ℕ)
first_tag bytes =
    if nat_lt (length bytes) 4 then None
    else cut_at (from_be_bytes w32 (take 4 bytes)) (drop 4 bytes)

abbrev pub with_rest : (List ℕ → List (List ℕ)) → Option (List ℕ × List ℕ) → List (List ℕ)
with_rest tags None = []
with_rest tags (Some x) = x.0 ∷ tags x.1

-- the tags at the front of the bytes, so many at most
abbrev pub first_tags : ℕ → List ℕ → List (List ℕ)
first_tags zero bytes = []
first_tags (suc n) bytes = with_rest (first_tags n) (first_tag bytes)

-- the tags that are spelled at the front of the bytes, as many as there are
unfoldable pub tags_of : List ℕ → List (List ℕ)
tags_of bytes = first_tags (length bytes) bytes

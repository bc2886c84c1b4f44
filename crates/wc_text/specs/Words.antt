-- The words of a line.
use Rattle.std.specs.Prelude.{ℕ, Bool, true, false, List, [], ◌∷◌, filter, ◌==◌, if◌then◌else◌}
use Rattle.std.specs.List.{slice_split}
use Rattle.wc_text.specs.declared.word_iter.WordIter.{WordIter}

abbrev pub is_space : ℕ → Bool
is_space b = b == 32

abbrev pub is_filled : List ℕ → Bool
is_filled [] = false
is_filled (b ∷ bs) = true

-- the maximal runs of bytes other than the space, in order: the parts between spaces, without the
-- empty ones
unfoldable pub words_of : List ℕ → List (List ℕ)
words_of bytes = filter is_filled (slice_split is_space bytes)

-- the bytes without the spaces at their front
abbrev pub after_spaces : List ℕ → List ℕ
after_spaces [] = []
after_spaces (b ∷ bytes) = if b == 32 then after_spaces bytes else b ∷ bytes

-- the words that an iterator has still to give
abbrev pub words_left : WordIter → List (List ℕ)
words_left it = words_of it.rest.now

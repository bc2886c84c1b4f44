-- The lines that the hotlist is about: of each the buffer and the level, in the order of printing.
use Rattle.std.specs.Prelude.{ℕ, ℤ, pos, negsuc, Bool, true, false, not, ◌==◌, List, [], ◌∷◌, ◌++◌}
use Rattle.std.specs.Prelude.{filter}
use Rattle.wc_text.specs.declared.names.Handle.{Handle}

pub record HotPair : Type 0 where
  pub buffer : Handle
  pub level : ℕ

abbrev pub is_of : Handle → HotPair → Bool
is_of buffer pair = pair.buffer.0 == buffer.0

-- the pairs after a line with this level of notification was printed
abbrev pub pairs_with : List HotPair → Handle → ℤ → Bool → List HotPair
pairs_with pairs buffer notify false = pairs
pairs_with pairs buffer (negsuc n) true = pairs
pairs_with pairs buffer (pos level) true = pairs ++ record { buffer = buffer; level = level } ∷ []

-- the pairs of the other buffers
abbrev pub pairs_without : Handle → List HotPair → List HotPair
pairs_without buffer pairs = filter (λ pair. not (is_of buffer pair)) pairs

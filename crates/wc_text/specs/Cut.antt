-- Where a text is cut.
use Rattle.std.specs.Prelude.{ℕ, List, length, min}
use Rattle.std.specs.Str.Lossy.{valid_len_up_to}

-- the greatest length within the limit at which the front of the text is whole characters
unfoldable pub cut_of : List ℕ → ℕ → ℕ
cut_of text limit = valid_len_up_to text (min limit (length text))

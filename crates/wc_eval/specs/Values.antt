-- The values of forms whose arguments are texts, and how far a value may grow.
use Rattle.std.specs.Prelude.{◌≡◌, ◌<◌, ℕ, zero, suc, List, [], ◌++◌, length, Option, Some, None, ℤ, pos}
use Rattle.std.specs.Prelude.{negsuc, Result, Ok, Err}
use Rattle.wc_text.specs.Integer.{integer_of}
use Rattle.wc_eval.specs.declared.values.Stop.{Stop}
use Rattle.wc_eval.specs.declared.values.Stop.TheVariants.{Over, NoMemory}
use Rattle.wc_eval.specs.Texts.{character_count}

-- the most bytes of a value
abbrev pub longest : ℕ
longest = 65536

-- A value is made, or it is too long. Want of memory says nothing.
abbrev pub Makes : List ℕ → Result (List ℕ) Stop → Type 0
Makes value (Ok made) = made ≡ value
Makes value (Err Over) = longest < length value
Makes value (Err NoMemory) = Unit {0}

-- a whole number of 0 or more
abbrev pub size_by : Option ℤ → Option ℕ
size_by None = None
size_by (Some (pos n)) = Some n
size_by (Some (negsuc n)) = None

abbrev pub size_in : List ℕ → Option ℕ
size_in text = size_by (integer_of text)

-- ---- repeat and hide

abbrev pub copies_of : ℕ → List ℕ → List ℕ
copies_of zero text = []
copies_of (suc n) text = text ++ copies_of n text

abbrev pub copies_by : Option ℕ → List ℕ → List ℕ
copies_by None text = []
copies_by (Some n) text = copies_of n text

abbrev pub repeat_value : List ℕ → List ℕ → List ℕ
repeat_value size text = copies_by (size_in size) text

abbrev pub hide_value : List ℕ → List ℕ → List ℕ
hide_value cover text = copies_of (character_count text) cover

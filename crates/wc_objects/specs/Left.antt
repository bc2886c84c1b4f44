-- What is left of names and keys while they are passed one by one.
use Rattle.std.specs.Prelude.{ℕ, ◌+◌, List, [], length, Option, Some, None}
use Rattle.std.specs.Borrow.{Bor}
use Rattle.wc_objects.specs.Forms.{pieces_of}

abbrev pub left_by : ℕ → Option (Bor (List ℕ)) → List (List ℕ)
left_by mark None = []
left_by mark (Some text) = pieces_of mark text.now

abbrev pub names_left : Option (Bor (List ℕ)) → List (List ℕ)
names_left = left_by 47

abbrev pub keys_left : Option (Bor (List ℕ)) → List (List ℕ)
keys_left = left_by 44

-- how long it is, with one for the mark in front
abbrev pub length_left : Option (Bor (List ℕ)) → ℕ
length_left None = 0
length_left (Some text) = 1 + length text.now

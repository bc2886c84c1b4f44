-- Which condition is tested next among those that `||` and `&&` join.
use Rattle.std.specs.Prelude.{ℕ, suc, ◌+◌, Bool, true, false, List, [], ◌∷◌, if◌then◌else◌}
use Rattle.std.specs.Str.{IsUtf8}
use Rattle.wc_eval.specs.declared.turns.Ranks.{Ranks}
use Rattle.wc_eval.specs.declared.turns.Turn.{Turn as Lent}
use Rattle.wc_eval.specs.declared.turns.Turn.TheVariants as lent
use Rattle.wc_eval.specs.Parts.{parts_of}
use Rattle.wc_eval.specs.Reading.{texts_left, size_of}
use Rattle.wc_eval.specs.Progress.{Progress, Answer, then_do, answer_of}
use Rattle.wc_eval.specs.Conditions.{Test, some_holds, all_hold}

-- A text that is tested, with those after it up to the next `||` and those after that; or the end.
pub data Turn : Type 0 where
  Tests : List ℕ → List (List ℕ) → List (List ℕ) → Turn
  Ends : Bool → Turn

-- the first of the texts between `&&`
abbrev pub turn_among : List (List ℕ) → List (List ℕ) → Turn
turn_among [] others = Ends true
turn_among (text ∷ rest) others = Tests text rest others

-- the turn after a text that holds or does not
abbrev pub next_turn : Bool → List (List ℕ) → List (List ℕ) → Turn
next_turn true rest others = turn_among rest others
next_turn false rest [] = Ends false
next_turn false rest (part ∷ others) = turn_among (parts_of 38 part) others

-- what is found after a text that holds or does not
abbrev pub found_after : Test → List (List ℕ) → List (List ℕ) → Bool → Progress → Answer Bool
found_after test rest others holds progress =
    then_do (if holds then all_hold test rest progress else answer_of false progress) (λ all after.
    if all then answer_of true after
    else some_holds (λ part. all_hold test (parts_of 38 part)) others after)

-- what is found from a turn on
abbrev pub found_from : Test → Turn → Progress → Answer Bool
found_from test (Tests text rest others) progress =
    then_do (test text progress) (found_after test rest others)
found_from test (Ends holds) progress = answer_of holds progress

-- ---- as the code has it

abbrev pub turn_of : Lent → Turn
turn_of (lent.Test text ranks) = Tests text.now (texts_left ranks.rest) (texts_left ranks.others)
turn_of (lent.End holds) = Ends holds

-- how much is to come
abbrev pub ranks_size : Ranks → ℕ
ranks_size ranks = size_of ranks.rest + size_of ranks.others

abbrev pub turn_size : Lent → ℕ
turn_size (lent.Test text ranks) = suc (ranks_size ranks)
turn_size (lent.End holds) = 0

-- ---- UTF-8

abbrev pub EachUtf8 : List (List ℕ) → Type 0
EachUtf8 [] = Unit {0}
EachUtf8 (text ∷ texts) = IsUtf8 text × EachUtf8 texts

abbrev pub TurnUtf8 : Turn → Type 0
TurnUtf8 (Tests text rest others) = IsUtf8 text × (EachUtf8 rest × EachUtf8 others)
TurnUtf8 (Ends holds) = Unit {0}

-- How far a link has come in the steps that are released.
use Rattle.std.specs.Prelude.{ℕ, ◌≡◌, ◌+◌, ◌<◌, ◌≤◌, false, IsTrue, List, [], ◌∷◌, length, take, drop, Option}
use Rattle.std.specs.List.{slice_index_or}
use Rattle.wc_scripted.specs.declared.cursors.Cursor.{Cursor}
use Rattle.wc_scripted.specs.declared.scripted.Scripted.{Scripted}
use Rattle.wc_scripted.specs.Scripts.{due, has_end, is_for, is_arrival, due_of}

-- no step is passed
abbrev pub at_start : Cursor
at_start = record { step = 0; given = 0 }

-- a link's cursor
abbrev pub cursor_at : ℕ → List Cursor → Cursor
cursor_at link cursors = slice_index_or cursors link at_start

-- how much of what is due to a link was given in all
abbrev pub given_at : List Scripted → ℕ → Cursor → ℕ
given_at steps link cursor = length (due link (take cursor.step steps)) + cursor.given

-- what the first of these steps has for a link
abbrev pub front_due : ℕ → List Scripted → List (Option ℕ)
front_due link [] = []
front_due link (step ∷ steps) = due_of link step

-- no end of the link is passed, and what was given of the next step is less than it has
pub record IsPlaced (steps : List Scripted) (link : ℕ) (cursor : Cursor) : Type 0 where
  pub within : cursor.step ≤ length steps
  pub goes : has_end link (take cursor.step steps) ≡ false
  pub fits : 0 < cursor.given → cursor.given < length (front_due link (drop cursor.step steps))

-- the first of these steps is for the link, where there is one
abbrev pub BeginsFor : ℕ → List Scripted → Type 0
BeginsFor link [] = Unit {0}
BeginsFor link (step ∷ steps) = IsTrue (is_for link step)

-- the first of these steps is an arrival
abbrev pub BeginsArrival : List Scripted → Type 0
BeginsArrival [] = ⊥
BeginsArrival (step ∷ steps) = IsTrue (is_arrival step)

-- the listener is within the steps, and each of so many cursors is where it may be
pub record IsPlay (steps : List Scripted) (listener count : ℕ) (cursors : List Cursor) : Type 0 where
  pub all : length cursors ≡ count
  pub within : listener ≤ length steps
  pub placed : (link : ℕ) → IsPlaced steps link (cursor_at link cursors)

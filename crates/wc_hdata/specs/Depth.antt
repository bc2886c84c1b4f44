-- A walk that goes first into depth: what of it is still to come.
use Rattle.std.specs.Prelude.{ℕ, suc, ◌+◌, ◌*◌, ◌≤◌, List, [], ◌∷◌, ◌++◌, drop, take, length}
use Rattle.std.specs.List.{AllByRecursion, flat_map}
use Rattle.wc_model.specs.World.{World}
use Rattle.wc_hdata.specs.declared.path.Step.{Step}
use Rattle.wc_hdata.specs.Kept.{Listed, AreKept, IsReady}
use Rattle.wc_hdata.specs.Reached.{Place}
use Rattle.wc_hdata.specs.Steps.{reach}
use Rattle.wc_hdata.specs.Walk.{Node, nodes_at, nodes_reached}

-- the pointers of the present place, and the nodes that are still to come
pub record Walking : Type 0 where
  pub lists : Listed
  pub pointers : List ℕ
  pub left : List Node

-- what is still to come of places of several elements, of which the last ones come first; the
-- first of these elements is so many steps from the start
abbrev pub nodes_left : World → List Step → List ℕ → ℕ → List (List Place) → List Node
nodes_left world steps pointers level [] = []
nodes_left world steps pointers level (places ∷ others) =
    nodes_left world steps pointers (suc level) others
    ++ nodes_reached world (drop level steps)
    (nodes_at world.groups (take level pointers) places)

-- how many pointers the steps give from some places
abbrev pub further : World → List Step → List Place → ℕ
further world [] places = 0
further world (step ∷ steps) places = length (flat_map (reach world step) places)
    + further world steps (flat_map (reach world step) places)

-- the same of the places of several elements
abbrev pub further_left : World → List Step → ℕ → List (List Place) → ℕ
further_left world steps level [] = 0
further_left world steps level (places ∷ others) =
    further_left world steps (suc level) others + further world (drop level steps) places

-- how often a walk turns to a place, or from one element back to that before it
abbrev pub turns : World → List Step → List Place → ℕ
turns world [] places = length places
turns world (step ∷ steps) places = 2 * length places
    + turns world steps (flat_map (reach world step) places)

abbrev pub turns_left : World → List Step → ℕ → List (List Place) → ℕ
turns_left world steps level [] = 0
turns_left world steps level (places ∷ others) =
    turns_left world steps (suc level) others + (1 + turns world (drop level steps) places)

-- there is a pointer for each element, and room for the places of each
pub record IsWalk (listed : Listed) (steps : List Step) (pointers : ℕ)
    (places : List (List Place)) (room : ℕ) : Type 0 where
  pub pointers_are : pointers ≤ length steps + 1
  pub pointers_all : length steps + 1 ≤ pointers
  pub deep : length places ≤ length steps + 1
  pub room_for : length steps + 1 ≤ room
  pub kept : AllByRecursion (AreKept listed) places
  pub ready : AllByRecursion (IsReady listed) steps

-- there is room for the places of each element but the last, which is not gone through
pub record IsCount (listed : Listed) (steps : List Step) (places : List (List Place))
    (room : ℕ) : Type 0 where
  pub deep : length places ≤ length steps
  pub room_for : length steps ≤ room
  pub kept : AllByRecursion (AreKept listed) places
  pub ready : AllByRecursion (IsReady listed) steps

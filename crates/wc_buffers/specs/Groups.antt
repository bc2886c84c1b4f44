-- Lists of groups, each a list of rows that their keys tell apart, and the edits of such lists.
use Rattle.std.specs.Prelude.{ℕ, ◌+◌, Bool, not, ◌==◌, nat_lt, Option, List, [], ◌∷◌, ◌++◌, map}
use Rattle.std.specs.Prelude.{filter, take, drop, length, find, position, if◌then◌else◌}
use Rattle.std.specs.List.{list_any, flat_map}

-- the groups that have rows
abbrev pub filled_groups : {A : Type 0} → List (List A) → List (List A)
filled_groups gs = filter (λ g. nat_lt 0 (length g)) gs

-- no group is empty
abbrev pub AllFilled : {A : Type 0} → List (List A) → Type 0
AllFilled [] = Unit {0}
AllFilled ([] ∷ gs) = ⊥
AllFilled ((x ∷ xs) ∷ gs) = AllFilled gs

-- all rows in order
abbrev pub rows : {A : Type 0} → List (List A) → List A
rows gs = flat_map (λ g. g) gs

module _ {A : Type 0} (key : A → ℕ) where
  -- whether the group has a row of the key; whether some group has one
  abbrev pub in_group : ℕ → List A → Bool
  in_group h g = list_any (λ x. key x == h) g

  abbrev pub has : ℕ → List (List A) → Bool
  has h gs = list_any (in_group h) gs

  -- the row of the key
  abbrev pub row_of : ℕ → List (List A) → Option A
  row_of h gs = find (λ x. key x == h) (rows gs)

  -- the place of the group that has the key, from 0
  abbrev pub place : ℕ → List (List A) → Option ℕ
  place h gs = position (in_group h) gs

  -- how often the key is
  abbrev pub times_in : ℕ → List A → ℕ
  times_in h [] = 0
  times_in h (x ∷ xs) = (if key x == h then 1 else 0) + times_in h xs

  abbrev pub times : ℕ → List (List A) → ℕ
  times h [] = 0
  times h (g ∷ gs) = times_in h g + times h gs

  -- the rows of the key, and the others
  abbrev pub only : ℕ → List A → List A
  only h g = filter (λ x. key x == h) g

  abbrev pub without : ℕ → List A → List A
  without h g = filter (λ x. not (key x == h)) g

  -- the row of the key changed by f
  abbrev pub update : ℕ → (A → A) → List (List A) → List (List A)
  update h f gs = map (map (λ x. if key x == h then f x else x)) gs

  -- the row of the key taken out, and its group where that is left empty
  abbrev pub take_out : ℕ → List (List A) → List (List A)
  take_out h gs = filled_groups (map (without h) gs)

  -- the row of the key alone
  abbrev pub pick : ℕ → List (List A) → List A
  pick h gs = flat_map (only h) gs

  -- rows after those of the key's group
  abbrev pub append_to : ℕ → List A → List (List A) → List (List A)
  append_to h new gs = map (λ g. if in_group h g then g ++ new else g) gs

  -- the row of the first key taken out and put after the rows of the second key's group
  abbrev pub merge : ℕ → ℕ → List (List A) → List (List A)
  merge h into gs = append_to into (pick h gs) (take_out h gs)

  -- the group of the key, so that n groups are before it
  abbrev pub others : ℕ → List (List A) → List (List A)
  others h gs = filter (λ g. not (in_group h g)) gs

  abbrev pub own : ℕ → List (List A) → List (List A)
  own h gs = filter (in_group h) gs

  abbrev pub move_group : ℕ → ℕ → List (List A) → List (List A)
  move_group h n gs = take n (others h gs) ++ (own h gs ++ drop n (others h gs))

  -- the row of the key as a group after its old one, which goes where it is left empty
  abbrev pub part : ℕ → List A → List (List A)
  part h g = if in_group h g then filled_groups (without h g ∷ only h g ∷ []) else g ∷ []

  abbrev pub unmerge : ℕ → List (List A) → List (List A)
  unmerge h gs = flat_map (part h) gs

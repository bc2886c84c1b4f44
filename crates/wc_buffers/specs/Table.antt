-- Groups of handles, and the room that is kept for them.
use Rattle.std.specs.Prelude.{◌≡◌, ℕ, ◌+◌, ◌≤◌, List, [], ◌∷◌, length, vec_capacity}
use Rattle.std.specs.declared.alloc.Global.{Global}
use Rattle.std.specs.declared.vec.Vec.{Vec}
use Rattle.wc_text.specs.declared.names.Handle.{Handle}
use Rattle.wc_buffers.specs.Groups.{rows, times, AllFilled}

abbrev pub key : Handle → ℕ
key h = h.0

abbrev pub AllEmpty : List (List Handle) → Type 0
AllEmpty [] = Unit {0}
AllEmpty (g ∷ gs) = (g ≡ []) × AllEmpty gs

-- at most 256 handles, each once, in groups that are not empty
pub record AreGroups (gs : List (List Handle)) : Type 0 where
  pub once : (h : ℕ) → times key h gs ≤ 1
  pub filled : AllFilled gs
  pub few : length (rows gs) ≤ 256

-- 257 groups are there or spare
pub record IsGroupsStored (groups spare : Vec (List Handle) Global) : Type 0 where
  pub groups_are : AreGroups groups.items
  pub emptied : AllEmpty spare.items
  pub shared : length groups.items + length spare.items ≡ 257
  pub room : 257 ≤ vec_capacity groups
  pub spare_room : 257 ≤ vec_capacity spare

pub record IsGroupTable (groups spare : Vec (List Handle) Global) (count : ℕ) : Type 0 where
  pub stored : IsGroupsStored groups spare
  pub counted : count ≡ length (rows groups.items)

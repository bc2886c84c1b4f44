-- Groups of which the last may grow.
use Rattle.std.specs.Prelude.{ℕ, ◌==◌, ◌||◌, List, [], ◌∷◌, ◌++◌, length, Option, Some, None}
use Rattle.std.specs.Prelude.{if◌then◌else◌}
use Rattle.wc_buffers.specs.Groups.{filled_groups}
use Rattle.wc_view.specs.declared.mirror_buffer.MirrorBuffer.{MirrorBuffer}
use Rattle.wc_view.specs.declared.told_buffer.ToldBuffer.{ToldBuffer}
use Rattle.wc_view.specs.Grouped.{MirrorGroups}

-- groups, and after them the last one, which has this number
pub record GroupsSoFar : Type 0 where
  pub groups : MirrorGroups
  pub number : ℕ
  pub group : List MirrorBuffer

abbrev pub nothing_open : GroupsSoFar
nothing_open = record { groups = []; number = 0; group = [] }

-- a buffer in the last group, where it has its number or is the first, and else in the next one
abbrev pub with_row : GroupsSoFar → ToldBuffer → GroupsSoFar
with_row o row =
    if (length o.group == 0) || (o.number == row.number)
    then record { groups = o.groups; number = row.number; group = o.group ++ row.buffer ∷ [] }
    else record { groups = o.groups ++ o.group ∷ []; number = row.number; group = row.buffer ∷ [] }

abbrev pub groups_of_open : GroupsSoFar → MirrorGroups
groups_of_open o = o.groups ++ filled_groups (o.group ∷ [])

-- what is new, or else what there was
abbrev pub or_kept : Option MirrorGroups → Option MirrorGroups → Option MirrorGroups
or_kept None part = part
or_kept (Some groups) part = Some groups

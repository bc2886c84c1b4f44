-- What a path reaches, and why it is not gone through.
use Rattle.std.specs.Prelude.{ℕ, nat_lt, Option, Some, None, List, [], if◌then◌else◌}
use Rattle.wc_model.specs.World.{World}
use Rattle.wc_hdata.specs.declared.path.Path.{Path}
use Rattle.wc_hdata.specs.declared.path.Start.{Start}
use Rattle.wc_hdata.specs.declared.path.Start.TheVariants.{FirstBuffer, LastBuffer, Pointer}
use Rattle.wc_hdata.specs.declared.refused.WalkRefused.{WalkRefused}
use Rattle.wc_hdata.specs.declared.refused.WalkRefused.TheVariants.{DeadPointer, TooManyVisits}
use Rattle.wc_hdata.specs.Reached.{Place}
use Rattle.wc_hdata.specs.Starts.{starts}
use Rattle.wc_hdata.specs.Walk.{Node, nodes_at, nodes_reached, visits}

abbrev pub most_visits : ℕ
most_visits = 4194304

abbrev pub too_many : WalkRefused
too_many = TooManyVisits most_visits

abbrev pub start_pointer : Start → ℕ
start_pointer FirstBuffer = 0
start_pointer LastBuffer = 0
start_pointer (Pointer element pointer) = pointer

-- from where a path begins
abbrev pub reached_from : World → Path → Option (List Place) → List Node
reached_from world path None = []
reached_from world path (Some places) = nodes_reached world path.steps
    (nodes_at world.groups [] places)

abbrev pub refusal_from : World → Path → Option (List Place) → Option WalkRefused
refusal_from world path None = Some (DeadPointer (start_pointer path.start))
refusal_from world path (Some places) = if nat_lt most_visits
    (visits world path.steps (nodes_at world.groups [] places)) then Some too_many else None

-- what a path reaches
unfoldable pub reached : World → Path → List Node
reached world path = reached_from world path (starts world path.count path.start)

-- its pointer is dead, or its elements give too many pointers together
unfoldable pub walk_refusal : World → Path → Option WalkRefused
walk_refusal world path = refusal_from world path (starts world path.count path.start)

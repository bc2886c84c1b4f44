-- What the hotlist of the core means, and what becomes of that.
use Rattle.std.specs.Prelude.{◌≡◌, ◌⊎◌, ℤ, pos, negsuc, Bool, true, nat_lt, if◌then◌else◌, List, []}
use Rattle.std.specs.Prelude.{◌∷◌}
use Rattle.std.specs.List.{AllByRecursion}
use Rattle.wc_text.specs.declared.names.Handle.{Handle}
use Rattle.wc_hotlist.specs.declared.row.HotRow.{HotRow}
use Rattle.wc_hotlist.specs.Means.{Means}
use Rattle.wc_hotlist.specs.Pairs.{HotPair, pairs_with, pairs_without}
use Rattle.wc_buffers.specs.Calls.{EntryGroups, is_there}
use Rattle.wc_model.specs.declared.change.Change.{Change}
use Rattle.wc_model.specs.declared.change.What.{What}
use Rattle.wc_model.specs.declared.change.What.TheVariants.{Print, Close}
use Rattle.wc_model.specs.Apply.{after}
use Rattle.wc_model.specs.World.{World}
use Rattle.wc_core.specs.Events.{Event, Start}
use Rattle.wc_core.specs.State.{State, Stage, Stepped}
use Rattle.wc_core.specs.Step.{begun_state, step}

-- each row is of a buffer that is there
abbrev pub AreThere : EntryGroups → List HotRow → Type 0
AreThere groups rows = AllByRecursion (λ (row : HotRow). is_there row.buffer groups ≡ true) rows

-- the rows are those of some lines, which were printed on buffers that are there
pub record AreNews (groups : EntryGroups) (rows : List HotRow) : Type 0 where
  pub pairs : List HotPair
  pub means : Means rows pairs
  pub there : AllByRecursion (λ (pair : HotPair). is_there pair.buffer groups ≡ true) pairs

-- ---- along a run

-- The pairs after a line was printed: one that was displayed counts, where its level is from 0 to 3.
abbrev pub pairs_of_line : List HotPair → Handle → ℤ → Bool → List HotPair
pairs_of_line pairs buffer (negsuc n) displayed = pairs
pairs_of_line pairs buffer (pos level) displayed =
    if nat_lt level 4 then pairs_with pairs buffer (pos level) displayed else pairs

-- after a change: that of a buffer that is closed goes
abbrev pub pairs_after : List HotPair → Handle → What → List HotPair
pairs_after pairs buffer (Print line) = pairs_of_line pairs buffer line.notify line.displayed
pairs_after pairs buffer Close = pairs_without buffer pairs
pairs_after pairs buffer _ = pairs

-- a change was made, which counts
pub record IsChanged (old new : World) (pairs next : List HotPair) : Type 0 where
  pub change : Change
  pub world : new ≡ after old change
  pub counted : next ≡ pairs_after pairs change.buffer change.what

-- the pairs of one buffer were taken out
pub record IsTaken (pairs next : List HotPair) : Type 0 where
  pub buffer : Handle
  pub taken : next ≡ pairs_without buffer pairs

-- nothing was changed, but pairs may have been taken out by a command: all, or those of a buffer
pub record IsUsed (old new : World) (pairs next : List HotPair) : Type 0 where
  pub world : new ≡ old
  pub left : (next ≡ pairs) ⊎ ((next ≡ []) ⊎ IsTaken pairs next)

-- the rows of a state that is come through mean pairs that come of those before, and so on
pub record IsStage (world : World) (pairs : List HotPair) (stage : Stage)
    (others : List HotPair → Type 0) : Type 0 where
  pub next : List HotPair
  pub means : Means stage.state.hotlist next
  pub comes : IsChanged world stage.state.world pairs next
      ⊎ IsUsed world stage.state.world pairs next
  pub onward : others next

-- from this world and these pairs, to a last world and last pairs
abbrev pub AreStages : World → List HotPair → List Stage → World → List HotPair → Type 0
AreStages world pairs [] last final = (last ≡ world) × (final ≡ pairs)
AreStages world pairs (stage ∷ way) last final =
    IsStage world pairs stage (λ next. AreStages stage.state.world next way last final)

-- what a step comes through, and the pairs that it comes to
pub record ComesTo (world : World) (pairs : List HotPair) (stepped : Stepped) : Type 0 where
  pub final : List HotPair
  pub means : Means stepped.state.hotlist final
  pub stages : AreStages world pairs stepped.way stepped.state.world final

-- the world that what is done at an event begins with
abbrev pub world_at : State → Event → World
world_at state (Start moment) = (begun_state state moment).world
world_at state _ = state.world

-- each event comes through its stages from the pairs that those before it came to
abbrev pub EventsCome : State → List HotPair → List Event → Type 0
EventsCome state pairs [] = Unit {0}
EventsCome state pairs (event ∷ events) = (comes : ComesTo (world_at state event) pairs
    (step state event)) × EventsCome (step state event).state comes.final events

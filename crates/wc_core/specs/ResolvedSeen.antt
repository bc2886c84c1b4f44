-- What a line that was read comes to.
use Rattle.std.specs.Prelude.{ℕ, List, []}
use Rattle.wc_buffers.specs.declared.refused.BufferRefused.{BufferRefused}
use Rattle.wc_buffers.specs.declared.refused.BufferRefused.TheVariants as buffers
use Rattle.wc_core.specs.declared.resolve.Resolution.{Resolution}
use Rattle.wc_core.specs.declared.resolve.Resolution.TheVariants as resolution
use Rattle.wc_core.specs.Resolved.{Effect, Stays, Ends, Tells, Asks, SetsOption}
use Rattle.wc_core.specs.Resolved.{UnsetsOption, SavesOptions, ChangesHotlist, ChangesFilters}

abbrev pub outcome_of : Resolution → Effect
outcome_of resolution.Stays = Stays
outcome_of resolution.Ends = Ends
outcome_of (resolution.Tells text) = Tells text
outcome_of (resolution.Asks change) = Asks change
outcome_of (resolution.SetsOption pair) = SetsOption pair.name pair.value
outcome_of (resolution.UnsetsOption name) = UnsetsOption name
outcome_of resolution.SavesOptions = SavesOptions
outcome_of (resolution.ChangesHotlist usage buffer) = ChangesHotlist usage buffer
outcome_of (resolution.ChangesFilters change) = ChangesFilters change

-- the name that a refusal tells
abbrev pub name_in_refusal : BufferRefused → List ℕ
name_in_refusal (buffers.NameTaken name) = name
name_in_refusal (buffers.NoVar name) = name
name_in_refusal _ = []

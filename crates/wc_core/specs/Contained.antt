-- What want of memory leaves of a step: how far the core came, and what was counted.
use Rattle.std.specs.Prelude.{◌≡◌, ℕ, zero, suc, ◌+◌, ◌-◌, ◌^◌, ◌<◌, ◌≤◌, min, Bool, true, false}
use Rattle.std.specs.Prelude.{◌||◌, ◌⊎◌}
use Rattle.std.specs.Prelude.{if◌then◌else◌, List, [], ◌∷◌, Option, Some, None}
use Rattle.wc_text.specs.declared.names.Cause.{Cause}
use Rattle.wc_text.specs.declared.names.Cause.TheVariants.{NoMemory}
use Rattle.wc_outside.specs.Keyed.{at_key}
use Rattle.wc_session.specs.declared.client.Client.{Client}
use Rattle.wc_board.specs.declared.connection.Connection.{Connection}
use Rattle.wc_board.specs.Connections.{connection_link, is_open_at, leaving_on, left_at}
use Rattle.wc_board.specs.Served.{StaysOrStarves}
use Rattle.wc_board.specs.Told.{Told}
use Rattle.wc_eval.specs.Verdicts.{Oracle, Agrees}
use Rattle.wc_servers.specs.Outs.{Out, ServersFollow}
use Rattle.wc_servers.specs.Seats.{open_of}
use Rattle.wc_core.specs.BoardSteps.{board_of, StepsBy}
use Rattle.wc_core.specs.CoreView.{CoreView}
use Rattle.wc_core.specs.State.{State, Beside, beside, Stage, Stepped, has_end}
use Rattle.wc_core.specs.Served.{links_of, clients_of, state_of, WereTold, close_of, outs_of, Distinct}
use Rattle.wc_core.specs.Served.{LeavesBy, Follows, KeepsClients}

-- ---- how far a step came

-- What a state has that the core has in part, or lost in part: the rows that were pushed last,
-- whether each text is a pattern, and the clients, of whom some may have been dropped.
pub record Rest : Type 0 where
  pub rows : Told
  pub oracle : Oracle
  pub clients : List Client

abbrev pub rest_of : State → Rest
rest_of state = record { rows = state.told; oracle = state.oracle; clients = state.clients }

-- the clients left aside
abbrev pub beside_in : Rest → Beside
beside_in rest = record { rows = rest.rows; oracle = rest.oracle }

-- the same with the clients that the core has
abbrev pub rest_in : CoreView → Beside → Rest
rest_in core told = record {
  rows = told.rows;
  oracle = told.oracle;
  clients = clients_of core.connections;
}

-- the state that the core is, but for what that state has by itself
abbrev pub state_with : CoreView → Rest → State
state_with core rest = record {
  options = core.options;
  clients = rest.clients;
  world = core.world;
  told = rest.rows;
  moment = core.moment;
  commands = core.commands;
  saved = core.saved;
  hotlist = core.hotlist;
  filters = core.filters;
  servers = open_of core.servers.seats;
  used = core.servers.used;
  connects = core.connects;
  oracle = rest.oracle;
}

-- the core is this state, but for its clients
pub record Holds (core : CoreView) (state : State) : Type 0 where
  pub same : state ≡ state_with core (rest_of state)
  pub told : WereTold core (beside state)

-- where a step begins, and the stage that it comes to
abbrev pub first_stage : State → Stage
first_stage state = record { state = state; outs = [] }

abbrev pub last_stage : Stepped → Stage
last_stage stepped = record { state = stepped.state; outs = outs_of stepped.acts }

-- a stage is the first one, or one that is come through after it
abbrev pub IsOn : Stage → Stage → List Stage → Type 0
IsOn stage first [] = stage ≡ first
IsOn stage first (next ∷ way) = (stage ≡ first) ⊎ IsOn stage next way

-- the core came so far on this way from a state, and what went out for servers is that of the stage
pub record CameTo (old new : CoreView) (first : State) (way : List Stage) : Type 0 where
  pub stage : Stage
  pub is_on : IsOn stage (first_stage first) way
  pub holds : Holds new stage.state
  pub servers : ServersFollow old.servers new.servers stage.outs

-- All of a step is done, whoever was dropped meanwhile.
pub record IsDone (told : Rest) (old new : CoreView) (stepped : Stepped) : Type 0 where
  pub holds : Holds new stepped.state
  pub is_on : IsOn (last_stage stepped) (first_stage (state_with old told)) stepped.way
  pub oracle : stepped.state.oracle ≡ told.oracle
  pub quits : new.quits ≡ (old.quits || has_end stepped.acts)
  pub servers : ServersFollow old.servers new.servers (outs_of stepped.acts)

-- Where no input was cut short all of a step is done, and else a part of it, up to some stage on its
-- way, and nothing after that. The run is to end only where the step has that.
pub record IsContained (told : Rest) (old new : CoreView) (stepped : Stepped) : Type 0 where
  pub whole : new.cuts ≡ old.cuts → IsDone told old new stepped
  pub part : CameTo old new (state_with old told) stepped.way
  pub quits : new.quits ≡ true → (old.quits || has_end stepped.acts) ≡ true

-- the same of the step of each state that the core meant before
abbrev pub Contains : CoreView → CoreView → (State → Stepped) → Type 0
Contains old new step = (told : Beside) → old.cuts < 2 ^ 64 - 1 → Distinct (links_of old) →
    WereTold old told → Agrees told.oracle new.verdicts →
    IsContained (rest_in old told) old new (step (state_of old told))

-- ---- what is counted

abbrev pub is_no_memory : Option Cause → Bool
is_no_memory (Some NoMemory) = true
is_no_memory _ = false

-- one for want of memory, and none for another cause
abbrev pub want_number : Option Cause → ℕ
want_number cause = if is_no_memory cause then 1 else 0

-- how many clients are leaving for want of memory
abbrev pub starving_number : List Connection → ℕ
starving_number [] = 0
starving_number (connection ∷ connections) =
    want_number connection.leaving + starving_number connections

-- the count of want of memory after a loss for this cause
abbrev pub starved_by : Cause → ℕ → ℕ
starved_by NoMemory count = min (count + 1) (2 ^ 64 - 1)
starved_by _ count = count

-- a client that is lost is counted as one that is dropped
abbrev pub lost_number : Bool → Cause → ℕ
lost_number true cause = 0
lost_number false cause = want_number (Some cause)

-- a count that rose by so much, and stops at 2^64 - 1
abbrev pub raised : ℕ → ℕ → ℕ
raised count zero = count
raised count (suc more) = min (count + suc more) (2 ^ 64 - 1)

-- Each client that began to leave for want of memory was counted, each link that was refused for it,
-- and each input that was cut short, once. An input that was cut short by the loss of the client that
-- typed it is counted with the client.
pub record Counts (refused : ℕ) (old new : CoreView) : Type 0 where
  pub dropped : ℕ
  pub short : ℕ
  pub own : ℕ
  pub lost : own ≤ dropped
  pub leaving : starving_number new.connections ≡ starving_number old.connections + dropped
  pub counted : new.starved ≡ raised old.starved (dropped + (short + refused))
  pub cuts : new.cuts ≡ raised old.cuts (short + own)

-- ---- a step that is run, whatever memory is refused

-- The step of a state that the core is but for its clients. Where these are the core's, the core
-- follows it unless some growth was refused. It is done for the client of this link, if it is one.
pub record RunsBy (own : Option ℕ) (told : Rest) (old new : CoreView) (stepped : Stepped) :
    Type 0 where
  pub keeps : KeepsClients old new
  pub board : StepsBy own (board_of old) (board_of new)
  pub counts : Counts 0 old new
  pub causes : told.clients ≡ clients_of old.connections → Distinct (links_of old) → (link : ℕ) →
      LeavesBy (leaving_on link old.connections) (close_of link stepped.acts)
      (leaving_on link new.connections)
  pub does : told.clients ≡ clients_of old.connections → new.starved ≡ old.starved →
      old.starved < 2 ^ 64 - 1 → Distinct (links_of old) → WereTold old (beside_in told) →
      Agrees told.oracle new.verdicts → Follows (beside_in told) old new stepped
  pub contains : old.cuts < 2 ^ 64 - 1 → Distinct (links_of old) → WereTold old (beside_in told) →
      Agrees told.oracle new.verdicts → IsContained told old new stepped

-- what is done for no client
abbrev pub RunsAt : Rest → CoreView → CoreView → Stepped → Type 0
RunsAt told old new stepped = RunsBy None told old new stepped

-- the step of each such state
abbrev pub RunsFor : Option ℕ → CoreView → CoreView → (State → Stepped) → Type 0
RunsFor own old new step = (told : Rest) → RunsBy own told old new (step (state_with old told))

abbrev pub Runs : CoreView → CoreView → (State → Stepped) → Type 0
Runs old new step = RunsFor None old new step

-- the step of the state that has the core's clients, for the client of this link
abbrev pub RunsHere : ℕ → CoreView → CoreView → (State → Stepped) → Type 0
RunsHere link old new step = (told : Beside) →
    RunsBy (Some link) (rest_in old told) old new (step (state_of old told))

-- memory was refused at the begin of an input, which is cut short, though it may have the run end, and
-- this may have gone out for servers before
pub record RanOutFor (own : Option ℕ) (ends : Bool) (outs : List Out) (old new : CoreView) :
    Type 0 where
  pub keeps : KeepsClients old new
  pub board : StepsBy own (board_of old) (board_of new)
  pub counts : Counts 0 old new
  pub causes : Distinct (links_of old) → (link : ℕ) →
      StaysOrStarves (leaving_on link old.connections) (leaving_on link new.connections)
  pub counted : old.starved < 2 ^ 64 - 1 → old.starved < new.starved
  pub cut : old.cuts < 2 ^ 64 - 1 → old.cuts < new.cuts
  pub holds : (told : Rest) → WereTold old (beside_in told) → Holds new (state_with old told)
  pub quits : new.quits ≡ (old.quits || ends)
  pub servers : ServersFollow old.servers new.servers outs

abbrev pub RanOutOfMemory : CoreView → CoreView → Type 0
RanOutOfMemory old new = RanOutFor None false [] old new

-- The client of a link found no memory for what it asked: it leaves, unless it does already, and what
-- it asked is cut short.
abbrev pub LosesAskerIf : Bool → ℕ → CoreView → CoreView → Type 0
LosesAskerIf true link old new = new ≡ record old {
  connections =
      left_at link NoMemory old.connections (at_key connection_link link old.connections);
  starved = min (old.starved + 1) (2 ^ 64 - 1);
  cuts = min (old.cuts + 1) (2 ^ 64 - 1);
}
LosesAskerIf false link old new = new ≡ record old { cuts = min (old.cuts + 1) (2 ^ 64 - 1) }

abbrev pub LosesAsker : ℕ → CoreView → CoreView → Type 0
LosesAsker link old new = LosesAskerIf (is_open_at (at_key connection_link link old.connections))
    link old new

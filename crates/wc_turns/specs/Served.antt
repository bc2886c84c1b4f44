-- The clients and servers of the core, as the loop serves them.
use Rattle.std.specs.Prelude.{ℕ, ◌+◌, ◌-◌, ◌^◌, ◌≡◌, ◌<◌, ◌≤◌, Bool, true, false, min}
use Rattle.std.specs.Prelude.{List, [], ◌++◌, length, Option, Some, None}
use Rattle.wc_text.specs.declared.names.Cause.{Cause}
use Rattle.wc_text.specs.declared.names.Cause.TheVariants.{Ended, Failed, LoginFailed, NoMemory}
use Rattle.wc_text.specs.declared.names.Cause.TheVariants.{Surplus, Quit, Disconnected, NickTaken}
use Rattle.wc_text.specs.declared.names.Cause.TheVariants.{BadSocket}
use Rattle.wc_board.specs.declared.connection.Connection.{Connection}
use Rattle.wc_core.specs.Events.{Event}
use Rattle.wc_core.specs.CoreView.{CoreView}
use Rattle.wc_core.specs.Step.{run}
use Rattle.wc_core.specs.Served.{links_of, state_of, WereTold, Distinct, KeepsClients, KeepsSaved}
use Rattle.wc_board.specs.Connections.{leaving_on}
use Rattle.wc_core.specs.Served.{Follows}
use Rattle.wc_core.specs.ServersKept.{ServersKeep}
use Rattle.wc_core.specs.State.{Beside}
use Rattle.wc_turns.specs.declared.links.Closed.{Closed}
use Rattle.wc_turns.specs.Run.{EndsAtQuit}
pub use Rattle.wc_turns.specs.Run.{closed_by, leaving_closes}
use Rattle.wc_eval.specs.Verdicts.{Agrees}
use Rattle.wc_turns.specs.Goes.{Goes}

-- no client is leaving
abbrev pub NobodyLeaving : List Connection → Type 0
NobodyLeaving connections = leaving_closes connections ≡ []

-- Of all these events the first ones are reached: all of them, unless `/quit` is run, and none
-- where it was run before.
pub record ReachesEvents (quits quits' : Bool) (ran ran' : ℕ) (all events : List Event) :
    Type 0 where
  pub rest : List Event
  pub front : all ≡ events ++ rest
  pub counts : ran < 2 ^ 64 → ran' ≡ min (ran + length events) (2 ^ 64 - 1)
  pub whole : quits' ≡ false → rest ≡ []
  pub nothing : quits ≡ true → events ≡ []

-- the core takes events, unless some growth was refused
pub record MayRun (old new : CoreView) (events : List Event) : Type 0 where
  pub keeps : KeepsClients old new
  -- whatever memory is refused
  pub goes : Goes events old new
  pub does : new.starved ≡ old.starved → old.starved < 2 ^ 64 - 1 → Distinct (links_of old) →
      (told : Beside) → WereTold old told → Agrees told.oracle new.verdicts →
      Follows told old new (run (state_of old told) events)
  -- none of them comes after one that runs `/quit`
  pub stops : new.starved ≡ old.starved → old.starved < 2 ^ 64 - 1 → Distinct (links_of old) →
      (told : Beside) → WereTold old told → Agrees told.oracle new.verdicts →
      EndsAtQuit (state_of old told) events

-- the core takes those of the events that are reached, unless some growth was refused
pub record MayTake (old new : CoreView) (ran ran' : ℕ) (all : List Event) : Type 0 where
  pub events : List Event
  pub reaches : ReachesEvents old.quits new.quits ran ran' all events
  pub takes : MayRun old new events

-- for what a client can leave at a line of a link: its own client for its answer, and each one for
-- want of memory
abbrev pub IsOfLine : ℕ → ℕ → Cause → Type 0
IsOfLine link other NoMemory = Unit {0}
IsOfLine link other LoginFailed = other ≡ link
IsOfLine link other Quit = other ≡ link
IsOfLine link other Ended = ⊥
IsOfLine link other Failed = ⊥
IsOfLine link other Surplus = ⊥
IsOfLine link other Disconnected = ⊥
IsOfLine link other NickTaken = ⊥
IsOfLine link other BadSocket = ⊥

-- a client that was leaving goes on so, and one that is leaving else can leave at a line of this
-- link
abbrev pub LeavesFor : ℕ → ℕ → Option Cause → Option Cause → Type 0
LeavesFor link other (Some before) now = now ≡ Some before
LeavesFor link other None (Some cause) = IsOfLine link other cause
LeavesFor link other None None = Unit {0}

-- the same links have clients, those that began to leave could do so at a line of this link, servers
-- come as they were begun, and what was saved is not lost
pub record LeavesAtLine (link : ℕ) (old new : CoreView) : Type 0 where
  pub rises : old.starved ≤ new.starved
  pub links : links_of new ≡ links_of old
  pub leaving : Distinct (links_of old) → (other : ℕ) →
      LeavesFor link other (leaving_on other old.connections) (leaving_on other new.connections)
  pub saves : KeepsSaved old new
  pub servers : ServersKeep old.servers new.servers

-- for what a client can leave at a read of a link, which is a WebSocket or not: at a line of it, and
-- its own one at its end
abbrev pub IsOfRead : Bool → ℕ → ℕ → Cause → Type 0
IsOfRead socket link other NoMemory = Unit {0}
IsOfRead socket link other LoginFailed = other ≡ link
IsOfRead socket link other Quit = other ≡ link
IsOfRead socket link other Ended = (other ≡ link) × (socket ≡ true)
IsOfRead socket link other BadSocket = (other ≡ link) × (socket ≡ true)
IsOfRead socket link other Failed = ⊥
IsOfRead socket link other Surplus = ⊥
IsOfRead socket link other Disconnected = ⊥
IsOfRead socket link other NickTaken = ⊥

abbrev pub LeavesForRead : Bool → ℕ → ℕ → Option Cause → Option Cause → Type 0
LeavesForRead socket link other (Some before) now = now ≡ Some before
LeavesForRead socket link other None (Some cause) = IsOfRead socket link other cause
LeavesForRead socket link other None None = Unit {0}

-- the same links have clients, those that began to leave could do so at a read of this link, servers
-- come as they were begun, and what was saved is not lost
pub record LeavesAtRead (socket : Bool) (link : ℕ) (old new : CoreView) : Type 0 where
  pub rises : old.starved ≤ new.starved
  pub links : links_of new ≡ links_of old
  pub leaving : Distinct (links_of old) → (other : ℕ) → LeavesForRead socket link other
      (leaving_on other old.connections) (leaving_on other new.connections)
  pub saves : KeepsSaved old new
  pub servers : ServersKeep old.servers new.servers

-- a close goes by the number of its link
abbrev pub closed_number : Closed → ℕ
closed_number closed = closed.link.0

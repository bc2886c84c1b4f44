-- What want of memory leaves of the start, in which each command is an input of its own.
use Rattle.std.specs.Prelude.{◌≡◌, ℕ, true, false, ◌||◌, List, [], ◌∷◌, None}
use Rattle.wc_core.specs.BoardSteps.{board_of, StepsBy}
use Rattle.wc_core.specs.Contained.{Contains, Counts}
use Rattle.wc_core.specs.CoreView.{CoreView}
use Rattle.wc_core.specs.Limits.{first_handle}
use Rattle.wc_core.specs.ServerTyped.{connect_all_step}
use Rattle.wc_core.specs.State.{State, Stepped}
use Rattle.wc_core.specs.Step.{core_buffer, lines_step}
use Rattle.wc_core.specs.Typed.{lines_of_text}
use Rattle.wc_world.specs.Handles.{skip_world}

-- an input, which may be cut short
pub record RunsInput (old new : CoreView) (step : State → Stepped) : Type 0 where
  pub contained : Contains old new step
  pub counted : Counts 0 old new
  pub drops : StepsBy None (board_of old) (board_of new)

-- a command, and then the others, where it did not run `/quit`
pub record RunsCommand (command : List ℕ) (others : CoreView → Type 0) (old new : CoreView) :
    Type 0 where
  pub mid : CoreView
  pub runs : RunsInput old mid (λ state. lines_step state core_buffer (lines_of_text command))
  pub ends : mid.quits ≡ true → new ≡ mid
  pub goes_on : mid.quits ≡ false → others mid

abbrev pub RunsCommands : List (List ℕ) → CoreView → CoreView → Type 0
RunsCommands [] old new = new ≡ old
RunsCommands (command ∷ commands) old new =
    RunsCommand command (λ mid. RunsCommands commands mid new) old new

-- servers are connected after the commands, where these did not run `/quit`
pub record RunsStart (commands : List (List ℕ)) (old new : CoreView) : Type 0 where
  pub mid : CoreView
  pub runs : RunsCommands commands old mid
  pub ends : mid.quits ≡ true → new ≡ mid
  pub connects : mid.quits ≡ false → RunsInput mid new connect_all_step

-- Before the commands are run the moment is set, and handles are passed over.
abbrev pub begun_core : ℕ → CoreView → CoreView
begun_core moment old = record old {
  world = skip_world (first_handle old.options moment) old.world;
  moment = moment;
  commands = [];
  quits = false;
}

-- a `/quit` that was run before is none of the start's
pub record Starts (moment : ℕ) (old new : CoreView) : Type 0 where
  pub last : CoreView
  pub runs : RunsStart old.commands (begun_core moment old) last
  pub put : new ≡ record last { quits = last.quits || old.quits }

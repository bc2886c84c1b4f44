-- What becomes of the board, one whole thing after another, also where memory is refused.
use Rattle.std.specs.Prelude.{◌≡◌, ℕ, true, List, [], ◌∷◌, Option, Some}
use Rattle.wc_text.specs.declared.names.Cause.{Cause}
use Rattle.wc_outside.specs.Keyed.{at_key}
use Rattle.wc_session.specs.RequestContext.{Context}
use Rattle.wc_model.specs.declared.change.Change.{Change}
use Rattle.wc_model.specs.declared.notice.Notice.{Notice}
use Rattle.wc_model.specs.Notices.{Accepted}
use Rattle.wc_relaycmd.specs.declared.request.Request.{Request}
use Rattle.wc_session.specs.declared.outcome.Outcome.{Outcome}
use Rattle.wc_board.specs.declared.connection.Connection.{Connection}
use Rattle.wc_board.specs.Answered.{IsPushed, IsAnswered}
use Rattle.wc_board.specs.BoardView.{BoardView}
use Rattle.wc_board.specs.Connections.{connection_link, is_open, left_at}
use Rattle.wc_board.specs.Served.{NoticeServed}
use Rattle.wc_board.specs.Told.{AreTouched, AreSameTouches}
use Rattle.wc_core.specs.CoreView.{CoreView}
use Rattle.wc_world.specs.Handles.{skip_world}

-- the buffers of the core, what is kept of their touches, and its clients
abbrev pub board_of : CoreView → BoardView
board_of core = record {
  world = core.world;
  pending = core.pending;
  connections = core.connections;
}

-- a change was made, and told to each client that is open and asked for it, in its parts; one that found
-- no memory for one of them is leaving
pub record TellsChange (old new : BoardView) : Type 0 where
  pub change : Change
  pub notice : Notice
  pub accepted : Accepted old.world change new.world notice
  pub touched : AreTouched old.world change old.pending new.pending
  pub each : NoticeServed new.world notice old.connections new.connections

-- a request of an open client was answered, by the buffers as they then were
pub record AnswersClient (old new : BoardView) : Type 0 where
  pub link : ℕ
  pub connection : Connection
  pub context : Context
  pub request : Request
  pub result : Outcome
  pub at : at_key connection_link link old.connections ≡ Some connection
  pub sits : is_open connection ≡ true
  pub answered : IsAnswered link context request result old new connection

-- the client of a link is leaving, if it was open
pub record LosesClient (old new : BoardView) : Type 0 where
  pub link : ℕ
  pub cause : Cause
  pub put : new ≡ record old {
    connections = left_at link cause old.connections (at_key connection_link link old.connections);
  }

-- what was touched is kept in another way
pub record KeepsTouches (old new : BoardView) : Type 0 where
  pub same : AreSameTouches old.pending new.pending
  pub put : new ≡ record old { pending = new.pending }

-- handles are passed over, and nothing else becomes another
pub record SkipsHandles (old new : BoardView) : Type 0 where
  pub handle : ℕ
  pub put : new ≡ record old { world = skip_world handle old.world }

-- one thing, whole
pub data BoardStep (old new : BoardView) : Type 0 where
  Tells : TellsChange old new → BoardStep old new
  Pushes : IsPushed old new → BoardStep old new
  Answers : AnswersClient old new → BoardStep old new
  Loses : LosesClient old new → BoardStep old new
  Keeps : KeepsTouches old new → BoardStep old new
  Skips : SkipsHandles old new → BoardStep old new

-- one after another, through these boards
abbrev pub StepsThrough : List BoardView → BoardView → BoardView → Type 0
StepsThrough [] old new = new ≡ old
StepsThrough (next ∷ boards) old new = BoardStep old next × StepsThrough boards next new

-- So the buffers are those of the changes that were made, and what each client has after its unsent
-- bytes are whole replies, events and pushes: a client that stays misses none of those that it asked
-- for.
pub record BoardSteps (old new : BoardView) : Type 0 where
  pub boards : List BoardView
  pub steps : StepsThrough boards old new

-- A request was that of the client of this link, if it is one, and so was the loss of a client, but
-- where it found no memory for an event or a push that it asked for. Handles are passed over for
-- nobody, but before the commands of the start.
abbrev pub IsBy : Option ℕ → (old new : BoardView) → BoardStep old new → Type 0
IsBy own old new (Tells told) = Unit {0}
IsBy own old new (Pushes pushed) = Unit {0}
IsBy own old new (Answers answer) = own ≡ Some answer.link
IsBy own old new (Loses loss) = own ≡ Some loss.link
IsBy own old new (Keeps kept) = Unit {0}
IsBy own old new (Skips skipped) = ⊥

pub record StepBy (own : Option ℕ) (old new : BoardView) : Type 0 where
  pub step : BoardStep old new
  pub by : IsBy own old new step

abbrev pub ThroughBy : Option ℕ → List BoardView → BoardView → BoardView → Type 0
ThroughBy own [] old new = new ≡ old
ThroughBy own (next ∷ boards) old new = StepBy own old next × ThroughBy own boards next new

-- So a client is dropped by its own line or its own loss alone, or where it found no memory for what
-- it asked to be told.
pub record StepsBy (own : Option ℕ) (old new : BoardView) : Type 0 where
  pub boards : List BoardView
  pub steps : ThroughBy own boards old new

-- How the core runs what is typed.
use Rattle.std.specs.Prelude.{◌≡◌, ℕ, ◌+◌, ◌<◌, true, false, ◌⊎◌, ◌&&◌, if◌then◌else◌, List, ◌∷◌, Option, Some, None}
use Rattle.std.specs.Prelude.{IfSome}
use Rattle.wc_text.specs.declared.names.Handle.{Handle}
use Rattle.wc_buffers.specs.Calls.{is_there}
use Rattle.wc_model.specs.declared.change.Change.{Change}
use Rattle.wc_model.specs.declared.refused.ChangeRefused.{ChangeRefused}
use Rattle.wc_model.specs.Apply.{refusal}
use Rattle.wc_core.specs.CoreView.{CoreView}
use Rattle.wc_core.specs.Contexts.{context_in}
use Rattle.wc_core.specs.Fitted.{fitted}
use Rattle.wc_core.specs.Step.{no_step, push_step, made_step, input_step, lines_step}
use Rattle.wc_core.specs.ServerSteps.{taken_step}
use Rattle.wc_ircmsg.specs.declared.message.Message.{Message}
use Rattle.wc_servers.specs.Seats.{ServerSeat}
use Rattle.wc_outside.specs.Keyed.{at_key}
use Rattle.wc_relaycmd.specs.declared.request.Request.{Request}
use Rattle.wc_session.specs.declared.client.Client.{Client}
use Rattle.wc_session.specs.declared.outcome.Outcome.{Outcome}
use Rattle.wc_board.specs.declared.connection.Connection.{Connection}
use Rattle.wc_board.specs.Answered.{is_nicklist, AnsweredAt}
use Rattle.wc_board.specs.Connections.{connection_link, is_open, is_open_at}
use Rattle.wc_board.specs.Told.{AreSameTouches}
use Rattle.wc_eval.specs.Verdicts.{Agrees, Stay}
use Rattle.wc_core.specs.State.{State, Stepped}
use Rattle.wc_core.specs.Contained.{Rest, state_with, starving_number, raised, Runs, RanOutOfMemory}

-- a change is made as it is and told, or memory was refused
abbrev pub Makes : CoreView → Change → CoreView → Type 0
Makes old change new = ((refusal old.world change ≡ None)
    × Runs old new (λ state. made_step state change)) ⊎ RanOutOfMemory old new

-- it is refused for this reason, and nothing is told
pub record Refuses (old : CoreView) (change : Change) (reason : ChangeRefused)
    (new : CoreView) : Type 0 where
  pub refused : refusal old.world change ≡ Some reason
  pub stays : new ≡ record old { pending = new.pending }
  pub touches : AreSameTouches old.pending new.pending

-- the same of a change with the flags of lines that the filters give
abbrev pub MakesChange : CoreView → Change → CoreView → Type 0
MakesChange old change new = Makes old (fitted old.filters old.world change) new

abbrev pub RefusesChange : CoreView → Change → ChangeRefused → CoreView → Type 0
RefusesChange old change reason new = Refuses old (fitted old.filters old.world change) reason new

-- what is to be pushed before a request of a client is answered
abbrev pub push_before : Client → Request → State → Stepped
push_before client request state =
    if client.logged_in && is_nicklist request.command then push_step state else no_step state

-- a request of an open client is answered after the pushes that stand before it
pub record AnswersRequestOf (link : ℕ) (request : Request) (result : Outcome)
    (old new : CoreView) : Type 0 where
  pub between : CoreView
  pub pushed : IfSome (at_key connection_link link old.connections)
      (λ connection. Runs old between (λ state. push_before connection.session.client request state))
  -- which cut nothing short, and drop so many, each of whom is counted
  pub uncut : between.cuts ≡ old.cuts
  pub dropped : ℕ
  pub left : starving_number between.connections ≡ starving_number old.connections + dropped
  pub counted : between.starved ≡ raised old.starved dropped
  -- among them who asked, where it is open no more
  pub asker : is_open_at (at_key connection_link link old.connections) ≡ true →
      is_open_at (at_key connection_link link between.connections) ≡ false → 0 < dropped
  -- the pushes change no client that goes on
  pub same : (before now : Connection) → at_key connection_link link old.connections ≡ Some before →
      at_key connection_link link between.connections ≡ Some now → is_open now ≡ true →
      now.session.client ≡ before.session.client
  pub world : between.world ≡ old.world
  pub context : context_in between ≡ context_in old
  pub answered : new ≡ record between { connections = new.connections }
  pub board : AnsweredAt link (context_in old) request result
      (record { world = between.world; pending = between.pending; connections = between.connections })
      (record { world = new.world; pending = new.pending; connections = new.connections })
      (at_key connection_link link between.connections)

-- a message of the server of a link
abbrev pub taken_at : State → ℕ → Message → Option ServerSeat → Stepped
taken_at state link m None = no_step state
taken_at state link m (Some seat) = taken_step state link seat.server m

-- after a line that is typed into a buffer the others are run
pub record GoesOn (old new : CoreView) (buffer : Handle) (line : List ℕ) : Type 0 where
  pub goes : new.quits ≡ false
  pub uncut : new.cuts ≡ old.cuts
  pub runs : Runs old new (λ state. input_step state buffer line)

-- the lines after it are skipped
abbrev pub Stops : CoreView → CoreView → Handle → List ℕ → Type 0
Stops old new buffer line = (lines : List (List ℕ)) → is_there buffer old.world.groups ≡ true →
    Runs old new (λ state. lines_step state buffer (line ∷ lines))

-- texts may be judged as patterns, and nothing else becomes another one
pub record Judges (old new : CoreView) : Type 0 where
  pub only : new ≡ record old { verdicts = new.verdicts }
  pub stay : Stay old.verdicts new.verdicts

-- this is what something comes to in the state that the core meant, whatever is thought of texts
-- that were not judged
abbrev pub Values : {X : Type 0} → CoreView → CoreView → X → (State → X) → Type 0
Values old new value of = (told : Rest) → Agrees told.oracle new.verdicts →
    value ≡ of (state_with old told)

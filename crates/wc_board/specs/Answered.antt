-- What the board answers: to a change, and to a request of a client.
use Rattle.std.specs.Prelude.{◌≡◌, ℕ, Bool, true, false, ◌&&◌, Option, Some, None, List}
use Rattle.std.specs.Prelude.{[], map, Result, Ok, Err}
use Rattle.wc_text.specs.declared.names.Handle.{Handle}
use Rattle.wc_nicklist.specs.declared.item.Row.{Row}
use Rattle.wc_nickdiff.specs.Held.{touches_of}
use Rattle.wc_session.specs.RequestContext.{Context}
use Rattle.wc_outside.specs.Keyed.{at_key, put_at}
use Rattle.wc_model.specs.declared.notice.Notice.{Notice}
use Rattle.wc_model.specs.declared.refused.ChangeRefused.{ChangeRefused}
use Rattle.wc_model.specs.Order.{order}
use Rattle.wc_model.specs.World.{rows_at}
use Rattle.wc_relaycmd.specs.declared.request.Command.{Command}
use Rattle.wc_relaycmd.specs.declared.request.Command.TheVariants as ask
use Rattle.wc_relaycmd.specs.declared.request.Request.{Request}
use Rattle.wc_session.specs.declared.outcome.Outcome.{Outcome}
use Rattle.wc_session.specs.declared.outcome.Outcome.TheVariants as outcome
use Rattle.wc_session.specs.Known.{Known}
use Rattle.wc_session.specs.Reply.{reply_of}
use Rattle.wc_session.specs.Served.{OnServed, OnNoMemory, AnswersRequest}
use Rattle.wc_board.specs.declared.board.Told.{Told as Answer}
use Rattle.wc_board.specs.declared.connection.Connection.{Connection}
use Rattle.wc_board.specs.BoardView.{BoardView}
use Rattle.wc_board.specs.Connections.{connection_link, client_of, is_open}
use Rattle.wc_board.specs.Pushes.{pushed_connection, EachPushed}
use Rattle.wc_board.specs.Served.{ConnectionsKept}
use Rattle.wc_board.specs.Told.{AreTold, AreSameTouches}

-- ---- changes

-- what is noticed of a change that was made, or why it was refused
abbrev pub noticed : Result Answer ChangeRefused → Result Notice ChangeRefused
noticed (Ok told) = Ok told.notice
noticed (Err reason) = Err reason

-- the board before and after a change that is refused
pub record IsUnchanged (old new : BoardView) : Type 0 where
  pub world : new.world ≡ old.world
  pub touches : AreSameTouches old.pending new.pending
  pub connections : new.connections ≡ old.connections

-- ---- pushes

-- the board before and after its pushes
pub record IsPushed (old new : BoardView) : Type 0 where
  pub each : (told : ℕ → List Row) → AreTold old.world old.pending told →
      EachPushed (order old.world.groups)
      (pushed_connection old.world told (order old.world.groups)) old.connections new.connections
  pub kept : ConnectionsKept old.connections new.connections
  pub clients : map client_of new.connections ≡ map client_of old.connections
  pub forgets : (buffer : Handle) → touches_of buffer new.pending ≡ []
  pub rows : AreTold new.world new.pending (rows_at new.world)
  pub world : new.world ≡ old.world

-- ---- requests

abbrev pub is_nicklist : Command → Bool
is_nicklist (ask.Nicklist buffer) = true
is_nicklist _ = false

-- nicklists are shown as they then were told, to who is logged in
abbrev pub pushes_before : Option Connection → Command → Bool
pushes_before None command = false
pushes_before (Some connection) command = connection.session.client.logged_in && is_nicklist command

abbrev pub PushedIf : Bool → BoardView → BoardView → Type 0
PushedIf true old new = IsPushed old new
PushedIf false old new = new ≡ old

-- the board before and after the request of an open client
pub record IsAnswered (link : ℕ) (context : Context) (request : Request) (result : Outcome)
    (old new : BoardView) (connection : Connection) : Type 0 where
  -- the session after it
  pub session : Known
  pub answered : OnServed result (AnswersRequest connection.session session result
      (reply_of old.world context connection.session.client request))
  pub refused : OnNoMemory result (session ≡ connection.session)
  pub put : new ≡ record old {
    connections = put_at connection_link link
        (record connection { session = session }) old.connections;
  }

-- nothing is answered, for want of memory
pub record NotAnswered (result : Outcome) (old new : BoardView) : Type 0 where
  pub starves : result ≡ outcome.NoMemory
  pub stays : new ≡ old

abbrev pub AnsweredIf : Bool → ℕ → Context → Request → Outcome → BoardView → BoardView →
    Connection → Type 0
AnsweredIf true link context request result old new connection = IsAnswered link context request
    result old new connection
AnsweredIf false link context request result old new connection = NotAnswered result old new

abbrev pub AnsweredAt : ℕ → Context → Request → Outcome → BoardView → BoardView →
    Option Connection → Type 0
AnsweredAt link context request result old new None = NotAnswered result old new
AnsweredAt link context request result old new (Some connection) =
    AnsweredIf (is_open connection) link context request result old new connection

-- A request is answered after the pushes that stand before it. Who began to leave in these is not
-- answered.
pub record AnswersAfterPushes (link : ℕ) (context : Context) (request : Request)
    (result : Outcome) (old new : BoardView) : Type 0 where
  pub between : BoardView
  pub pushed : PushedIf (pushes_before (at_key connection_link link old.connections)
      request.command) old between
  pub answered : AnsweredAt link context request result between new
      (at_key connection_link link between.connections)

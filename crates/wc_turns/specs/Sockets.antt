-- What the frames of WebSocket links come to, and what is put into frames.
use Rattle.std.specs.Prelude.{◌≡◌, ◌⊎◌, ℕ, ◌&&◌, Bool, true, false, List, [], ◌++◌}
use Rattle.std.specs.Prelude.{Option, Some, None, IfSome, is_none}
use Rattle.wc_text.specs.declared.names.Cause.{Cause}
use Rattle.wc_text.specs.declared.names.Cause.TheVariants.{Ended, Failed, LoginFailed, NoMemory}
use Rattle.wc_text.specs.declared.names.Cause.TheVariants.{Surplus, Quit, Disconnected, NickTaken}
use Rattle.wc_text.specs.declared.names.Cause.TheVariants.{BadSocket}
use Rattle.wc_outside.specs.Keyed.{at_key, put_at}
use Rattle.wc_board.specs.Connections.{connection_link, is_open_at}
use Rattle.wc_core.specs.CoreView.{CoreView}
use Rattle.wc_core.specs.LinksSeen.{bytes_or, unsent_in_core, gone_in}
use Rattle.wc_ws.specs.declared.names.PutRefused.{PutRefused}
use Rattle.wc_ws.specs.declared.names.PutRefused.TheVariants as refused
use Rattle.wc_ws.specs.declared.names.WsRefused.{WsRefused}
use Rattle.wc_ws.specs.declared.names.WsRefused.TheVariants as why
use Rattle.wc_ws.specs.Link.{Link}
use Rattle.wc_framing.specs.declared.framing.Framing.{Framing}
use Rattle.wc_framing.specs.declared.framing.Framing.TheVariants.{Undecided, Plain, Socket}
use Rattle.wc_framing.specs.declared.messages.Framed.{Framed}
use Rattle.wc_framing.specs.Framing.{is_socket, FedAs}
use Rattle.wc_framing.specs.Messages.{Frames}
use Rattle.wc_framing.specs.Opening.{begins}
use Rattle.wc_framing.specs.Unframed.{Fed, Unframes}
use Rattle.wc_turns.specs.declared.headless.Headless.{Headless}
use Rattle.wc_turns.specs.declared.links.LinkState.{LinkState}
use Rattle.wc_turns.specs.declared.sockets.WsThen.{WsThen}
use Rattle.wc_turns.specs.declared.sockets.WsThen.TheVariants.{GoOn, Closed as ClosedFor}
use Rattle.wc_turns.specs.declared.tail.Tail.{Tail}
use Rattle.wc_turns.specs.Contained.{HasStarved}
use Rattle.wc_turns.specs.Events.{read_events, end_events, text_of_read}
use Rattle.wc_turns.specs.Heard.{SocketEnd, GoesOn, Closes, Broken, NotPut}
use Rattle.wc_turns.specs.Lines.{rest}
use Rattle.wc_turns.specs.Links.{link_number, changed_at, frames_of, gone_frames}
use Rattle.wc_turns.specs.Served.{MayTake, LeavesAtLine, LeavesAtRead}
use Rattle.wc_turns.specs.Steps.{LosesLink}
use Rattle.wc_turns.specs.Tails.{IsTail}
use Rattle.wc_turns.specs.Turns.{IsFramed, EndsAs, TakesHappening}

-- ---- what is read

-- why a WebSocket link is closed that was refused
abbrev pub cause_of : WsRefused → Cause
cause_of (why.HeadTooLong limit) = BadSocket
cause_of why.BadHead = BadSocket
cause_of why.BadFrame = BadSocket
cause_of why.NoMemory = NoMemory

-- for what a WebSocket link is closed as it is read
abbrev pub IsSocketCause : Cause → Type 0
IsSocketCause Ended = Unit {0}
IsSocketCause BadSocket = Unit {0}
IsSocketCause NoMemory = Unit {0}
IsSocketCause Failed = ⊥
IsSocketCause LoginFailed = ⊥
IsSocketCause Surplus = ⊥
IsSocketCause Quit = ⊥
IsSocketCause Disconnected = ⊥
IsSocketCause NickTaken = ⊥

-- how such a link ends; want of memory is no event
abbrev pub end_for : Cause → SocketEnd
end_for Ended = Closes
end_for BadSocket = Broken
end_for NoMemory = GoesOn
end_for Failed = GoesOn
end_for LoginFailed = GoesOn
end_for Surplus = GoesOn
end_for Quit = GoesOn
end_for Disconnected = GoesOn
end_for NickTaken = GoesOn

abbrev pub IsSocketEnd : WsThen → Type 0
IsSocketEnd GoOn = Unit {0}
IsSocketEnd (ClosedFor cause) = IsSocketCause cause

-- a WebSocket that was fed these bytes has made this text of them: so far, or of all that is whole,
-- where it goes on and `/quit` was not run; or it ends so
abbrev pub FedThen : Option WsThen → Bool → List ℕ → List ℕ → Link → Type 0
FedThen None quits bytes text link = Fed bytes text link
FedThen (Some GoOn) true bytes text link = Unit {0}
FedThen (Some GoOn) false bytes text link = Unframes bytes text link
FedThen (Some (ClosedFor cause)) quits bytes text link = EndsAs (end_for cause) bytes text

-- what is done after the lines of a message
abbrev pub then_of : Bool → Option WsThen
then_of true = Some GoOn
then_of false = None

-- Messages of a WebSocket link are served, up to one that runs `/quit`: their payloads, one after
-- the other, are the text of which the core takes the lines. None is for more to come.
pub record ServesSocket (link : ℕ) (then : Option WsThen) (old new : Link) (before now : CoreView)
    (tail tail' : Tail) (ran ran' : ℕ) : Type 0 where
  pub text : List ℕ
  pub fed : (bytes read : List ℕ) → Fed bytes read old →
      FedThen then now.quits bytes (read ++ text) new
  pub tails : now.quits ≡ false → (line : List ℕ) → IsTail line tail → IsTail (rest line text) tail'
  pub takes : (line : List ℕ) → IsTail line tail →
      MayTake before now ran ran' (read_events link line text)
  pub causes : LeavesAtLine link before now
  pub idle : ran' ≡ 0 → (ran ≡ 0) × (now ≡ before)
  -- more comes only where `/quit` was not run, and then nothing is closed
  pub goes : then ≡ None → now.quits ≡ false
  pub quits : now.quits ≡ true → then ≡ Some GoOn
  pub ends : IfSome then IsSocketEnd

-- The same where a piece is fed before. None of what came before it is lost, and where there is no
-- memory for the piece, nothing is served.
pub record ServesPiece (link : ℕ) (piece : List ℕ) (then : WsThen) (old new : Link)
    (before now : CoreView) (tail tail' : Tail) (ran ran' : ℕ) : Type 0 where
  -- the WebSocket before its messages are read
  pub mid : Link
  pub serves : ServesSocket link (Some then) mid new before now tail tail' ran ran'
  pub fed : (bytes read : List ℕ) → Fed bytes read old →
      FedThen (Some then) now.quits (bytes ++ piece) (read ++ serves.text) new

-- the client of a link is spared a loss for this cause: it is one for want of memory, which changes
-- nothing, since it is leaving already
pub record IsSpared (link : ℕ) (cause : Cause) (before now : CoreView) : Type 0 where
  pub starves : cause ≡ NoMemory
  pub leaves : is_open_at (at_key connection_link link before.connections) ≡ false
  pub same : now ≡ before

-- The client of a WebSocket link begins to leave, if it was not leaving, and nothing more is read of
-- the link. That is an event, but for want of memory, which counts only where it was not leaving.
pub record ClosesSocket (cause : Cause) (old new : LinkState) (before now : CoreView)
    (ran ran' : ℕ) : Type 0 where
  pub state : new ≡ record old { ended = true }
  pub takes : MayTake before now ran ran' (end_events old.link.0 (end_for cause))
  pub loses : LosesLink old.link.0 cause before now ⊎ IsSpared old.link.0 cause before now
  pub idle : ran' ≡ 0 → ran ≡ 0
  pub wanted : now.servers.wanted ≡ before.servers.wanted

-- nothing more is read of a link where that was so before, or as its client leaves
abbrev pub EndsAsItLeaves : LinkState → LinkState → CoreView → Type 0
EndsAsItLeaves old new now = new.ended ≡ true → (old.ended ≡ true)
    ⊎ (is_open_at (at_key connection_link old.link.0 now.connections) ≡ false)

-- a WebSocket is fed what was held of its link
abbrev pub FeedsHeld : LinkState → LinkState → Type 0
FeedsHeld old new = (bytes text : List ℕ) → FedAs bytes text old.framing →
    FedAs (bytes ++ old.tail.line) text new.framing

-- a WebSocket that was fed these bytes has made this text of all that is whole
abbrev pub UnframedAs : List ℕ → List ℕ → Framing → Type 0
UnframedAs bytes text Undecided = ⊥
UnframedAs bytes text Plain = ⊥
UnframedAs bytes text (Socket link) = Unframes bytes text link

-- Bytes of a WebSocket link come to this text and to this end, after a line that had begun.
pub record ServesFrames (bytes : List ℕ) (old new : LinkState) (before now : CoreView)
    (ran ran' : ℕ) : Type 0 where
  pub text : List ℕ
  pub end : SocketEnd
  pub state : new ≡ record old { tail = new.tail; framing = new.framing; ended = new.ended }
  pub leaves : EndsAsItLeaves old new now
  pub socket : is_socket new.framing ≡ is_socket old.framing
  pub framed : (all read : List ℕ) → FedAs all read old.framing → now.quits ≡ false →
      new.ended ≡ false → UnframedAs (all ++ bytes) (read ++ text) new.framing
  pub ends : (all read : List ℕ) → FedAs all read old.framing →
      EndsAs end (all ++ bytes) (read ++ text)
  pub tails : now.quits ≡ false → (line : List ℕ) → IsTail line old.tail →
      IsTail (rest line text) new.tail
  pub takes : (line : List ℕ) → IsTail line old.tail →
      MayTake before now ran ran' (read_events old.link.0 line text ++ end_events old.link.0 end)
  pub causes : LeavesAtRead (is_socket old.framing) old.link.0 before now
  pub idle : ran' ≡ 0 → (ran ≡ 0) × (now.servers.wanted ≡ before.servers.wanted)
  -- what is no WebSocket comes to no text
  pub plain : is_socket new.framing ≡ false → (text ≡ []) × (end ≡ GoesOn)

-- The same of a link that begins as a WebSocket: what was held of it comes before the bytes, and no
-- line had begun.
pub record ServesOpened (bytes : List ℕ) (old new : LinkState) (before now : CoreView)
    (ran ran' : ℕ) : Type 0 where
  pub text : List ℕ
  pub end : SocketEnd
  pub state : new ≡ record old { tail = new.tail; framing = new.framing; ended = new.ended }
  pub leaves : EndsAsItLeaves old new now
  pub socket : is_socket new.framing ≡ is_socket old.framing
  pub framed : FedAs [] [] old.framing → now.quits ≡ false → new.ended ≡ false →
      UnframedAs (old.tail.line ++ bytes) text new.framing
  pub ends : FedAs [] [] old.framing → EndsAs end (old.tail.line ++ bytes) text
  pub tails : now.quits ≡ false → IsTail (rest [] text) new.tail
  pub takes : MayTake before now ran ran'
      (read_events old.link.0 [] text ++ end_events old.link.0 end)
  pub causes : LeavesAtRead (is_socket old.framing) old.link.0 before now
  pub idle : ran' ≡ 0 → (ran ≡ 0) × (now.servers.wanted ≡ before.servers.wanted)
  pub plain : is_socket new.framing ≡ false → (text ≡ []) × (end ≡ GoesOn)

-- What bytes of a link come to, before which these came and came to this text, where by them it is a
-- WebSocket or not.
pub record ReadServed (socket : Bool) (all read bytes text : List ℕ) (end : SocketEnd)
    (new : LinkState) (before now : CoreView) (ran ran' : ℕ) : Type 0 where
  pub is : is_socket new.framing ≡ socket
  pub framed : now.quits ≡ false → IsFramed (all ++ bytes) (read ++ text) new
  pub ends : EndsAs end (all ++ bytes) (read ++ text)
  pub tails : now.quits ≡ false →
      IsTail (rest [] (text_of_read socket (all ++ bytes) (read ++ text))) new.tail
  pub takes : MayTake before now ran ran' (read_events new.link.0
      (rest [] (text_of_read socket all read)) (text_of_read socket bytes text)
      ++ end_events new.link.0 end)

pub record ServesBytes (bytes : List ℕ) (old new : LinkState) (before now : CoreView)
    (ran ran' : ℕ) : Type 0 where
  pub text : List ℕ
  pub end : SocketEnd
  pub state : new ≡ record old { tail = new.tail; framing = new.framing; ended = new.ended }
  pub leaves : EndsAsItLeaves old new now
  -- what is no WebSocket comes to no text of frames
  pub plain : is_socket new.framing ≡ false → (text ≡ []) × (end ≡ GoesOn)
  pub serves : (all read : List ℕ) → IsFramed all read old →
      IsTail (rest [] (text_of_read (is_socket old.framing) all read)) old.tail →
      ReadServed (is_none old.server && begins (all ++ bytes)) all read bytes text end new before now
      ran ran'
  pub causes : LeavesAtRead (is_socket new.framing) old.link.0 before now
  pub idle : ran' ≡ 0 → (ran ≡ 0) × (now.servers.wanted ≡ before.servers.wanted)

-- ---- what is sent

-- what is to be sent on a link: the frames of a WebSocket, or else what is owed to who is at it
abbrev pub to_send : ℕ → Headless → Option (List ℕ)
to_send link headless =
    bytes_or (frames_of (at_key link_number link headless.links.opened.items))
    (unsent_in_core link headless.core)

-- the core after that: of a WebSocket they were taken of it before
abbrev pub sent_core : Option (List ℕ) → ℕ → ℕ → CoreView → CoreView
sent_core (Some frames) link count core = core
sent_core None link count core =
    gone_in link count core (at_key connection_link link core.connections)

-- the first bytes of it are sent
pub record SendsFirst (link count : ℕ) (old new : Headless) : Type 0 where
  pub rest : new ≡ record old { core = new.core; links = new.links }
  pub closed : new.links.closed ≡ old.links.closed
  pub opened : new.links.opened.items ≡ changed_at link (gone_frames count) old.links.opened.items
      (at_key link_number link old.links.opened.items)
  pub core : new.core ≡ sent_core (frames_of (at_key link_number link old.links.opened.items)) link
      count old.core

-- the messages that the client of a link is owed are put into frames, up to one that is refused
pub record PutsFrames (link : ℕ) (state : LinkState) (socket : Link) (unsent : List ℕ)
    (old new : Headless) (why : Option PutRefused) : Type 0 where
  pub framed : Framed
  pub socket' : Link
  pub frames : Frames unsent socket framed socket'
  pub refused : why ≡ framed.refused
  pub rest : new ≡ record old { core = new.core; links = new.links }
  pub closed : new.links.closed ≡ old.links.closed
  pub opened : new.links.opened.items
      ≡ put_at link_number link (record state { framing = Socket socket' }) old.links.opened.items
  pub core : new.core ≡ gone_in link framed.count old.core
      (at_key connection_link link old.core.connections)

-- nothing is put
abbrev pub PutsNone : Headless → Headless → Option PutRefused → Type 0
PutsNone old new why = (new ≡ old) × (why ≡ None)

abbrev pub PutsUnsent : ℕ → LinkState → Link → Option (List ℕ) → Headless → Headless →
    Option PutRefused → Type 0
PutsUnsent link state socket None old new why = PutsNone old new why
PutsUnsent link state socket (Some unsent) old new why =
    PutsFrames link state socket unsent old new why

abbrev pub PutsBy : ℕ → LinkState → Framing → Headless → Headless → Option PutRefused → Type 0
PutsBy link state Undecided old new why = PutsNone old new why
PutsBy link state Plain old new why = PutsNone old new why
PutsBy link state (Socket socket) old new why =
    PutsUnsent link state socket (unsent_in_core link old.core) old new why

abbrev pub PutsAt : ℕ → Option LinkState → Headless → Headless → Option PutRefused → Type 0
PutsAt link None old new why = PutsNone old new why
PutsAt link (Some state) old new why = PutsBy link state state.framing old new why

abbrev pub PutsMessages : ℕ → Headless → Headless → Option PutRefused → Type 0
PutsMessages link old new why =
    PutsAt link (at_key link_number link old.links.opened.items) old new why

-- a message was refused, and the client of the link begins to leave: there was no memory, or the link
-- takes no message
pub data LosesRefused (link : ℕ) (mid new : Headless) (why : Option PutRefused) : Type 0 where
  starves : why ≡ Some refused.NoMemory → new ≡ record mid { core = new.core }
      → LosesLink link NoMemory mid.core new.core → HasStarved mid.core.starved new.core.starved
      → LosesRefused link mid new why
  breaks : why ≡ Some refused.NotTaken → TakesHappening mid new (NotPut (record { 0 = link }))
      → LosesLink link BadSocket mid.core new.core → LosesRefused link mid new why

-- the messages that the client of a link is owed are put into frames, or one is refused
abbrev pub PutsOrLoses : Bool → ℕ → Headless → Headless → Type 0
PutsOrLoses true link old new = PutsMessages link old new None
PutsOrLoses false link old new = (mid : Headless) × ((why : Option PutRefused)
    × (PutsMessages link old mid why × LosesRefused link mid new why))

-- A link as its callers see it, and what each call makes of it.
use Rattle.std.specs.Prelude.{◌≡◌, ℕ, ◌<◌, ◌≤◌, Bool, true, false, ◌&&◌}
use Rattle.std.specs.Prelude.{List, [], ◌++◌, length}
use Rattle.std.specs.Prelude.{drop, Option, None, Some, Result, Ok, Err}
use Rattle.websocket.specs.declared.error.Error.{Error}
use Rattle.websocket.specs.declared.protocol.config.Role.TheVariants.{Server}
use Rattle.websocket.specs.declared.protocol.config.WebSocketConfig.{WebSocketConfig}
use Rattle.websocket.specs.declared.protocol.state.WebSocketState.{WebSocketState}
use Rattle.websocket.specs.declared.protocol.state.WebSocketState.TheVariants.{Active}
use Rattle.websocket.specs.declared.protocol.incomplete.MessageType.{MessageType}
use Rattle.websocket.specs.declared.protocol.frame.coding.OpCode.TheVariants.{Data}
use Rattle.websocket.specs.declared.protocol.frame.coding.Data.TheVariants as Kind
use Rattle.websocket.specs.declared.protocol.frame.codec.FrameStatus.{FrameStatus}
use Rattle.websocket.specs.declared.protocol.frame.codec.FrameStatus.TheVariants.{Partial, Complete}
use Rattle.websocket.specs.Connection.{Connection, Effect, Outgoing, read_step, whole_header}
use Rattle.websocket.specs.Connection.{can_read, can_write}
use Rattle.websocket.specs.Content.{Content, text, binary, ping, pong, close}
use Rattle.websocket.specs.Frame.{encode_frame}
use Rattle.wc_ws.specs.declared.names.WsGot.{WsGot}
use Rattle.wc_ws.specs.declared.names.WsGot.TheVariants.{Payload, Control, NotYet, Ended}
use Rattle.wc_ws.specs.declared.names.WsRefused.{WsRefused}
use Rattle.wc_ws.specs.declared.names.WsRefused.TheVariants.{HeadTooLong, BadHead, BadFrame}
use Rattle.wc_ws.specs.declared.names.WsRefused.TheVariants.{NoMemory}
use Rattle.wc_ws.specs.declared.names.WsStage.{WsStage}
use Rattle.wc_ws.specs.declared.names.WsStage.TheVariants.{Head, Frames, Over}
use Rattle.wc_ws.specs.Head.{FirstEmptyLine, head_to, after_head, head_limit, head_answer}
use Rattle.wc_ws.specs.Head.{IsUpgrade, AsksNothing}

-- how far the link is, the state and the open message of its connection, what was fed and is not
-- read, and what is to be sent
pub record Link : Type 0 where
  pub stage : WsStage
  pub state : WebSocketState
  pub fragments : Option (MessageType × List ℕ)
  pub input : List ℕ
  pub output : List ℕ

-- a link to which nothing was fed
abbrev pub fresh_link : Link
fresh_link = record { stage = Head; state = Active; fragments = None; input = []; output = [] }

-- a message and a frame have at most 1,048,576 bytes, and a client's frames are masked
abbrev pub limits : WebSocketConfig
limits = record {
  max_message_size = Some 1048576;
  max_frame_size = Some 1048576;
  accept_unmasked_frames = false;
}

-- the server's side of a connection within these limits
abbrev pub server_of : WebSocketState → Option (MessageType × List ℕ) → Connection
server_of state fragments =
    record { role = Server; state = state; config = limits; fragments = fragments }

abbrev pub server : Link → Connection
server link = server_of link.state link.fragments

-- ---- a message to send

-- one unmasked binary frame of these bytes
abbrev pub binary_frame : List ℕ → List ℕ
binary_frame bytes = encode_frame (whole_header (Data Kind.Binary) None) bytes

abbrev pub reads_frames : WsStage → Bool
reads_frames Head = false
reads_frames Frames = true
reads_frames (Over _) = false

-- messages are taken after the head, up to the close
abbrev pub takes_messages : Link → Bool
takes_messages link = reads_frames link.stage && can_write link.state

-- ---- a frame that was read

-- the unmasked frame that answers
abbrev pub reply_bytes : Option Outgoing → List ℕ
reply_bytes None = []
reply_bytes (Some frame) = encode_frame (whole_header frame.opcode None) frame.payload

-- what the reader is told of a message, or of a part of one
abbrev pub told : Option Content → WsGot
told None = Control
told (Some (text bytes)) = Payload bytes
told (Some (binary bytes)) = Payload bytes
told (Some (ping _)) = Control
told (Some (pong _)) = Control
told (Some (close _)) = Ended

-- whether the reader is told of bytes
abbrev pub carries : Option Content → Bool
carries None = false
carries (Some (text _)) = true
carries (Some (binary _)) = true
carries (Some (ping _)) = false
carries (Some (pong _)) = false
carries (Some (close _)) = false

-- the link after a frame of this length that did this
abbrev pub after_frame : Link → ℕ × Effect → Link
after_frame old p = record {
  stage = old.stage;
  state = p.1.next.state;
  fragments = p.1.next.fragments;
  input = drop p.0 old.input;
  output = old.output ++ reply_bytes p.1.reply;
}

-- what is answered, and the link after it, by the step of the protocol
abbrev pub Steps : Link → Result (FrameStatus (ℕ × Effect)) Error → WsGot → Link → Type 0
Steps old (Err _) got new = ⊥
Steps old (Ok (Partial _)) got new = (got ≡ NotYet) × (new ≡ old)
Steps old (Ok (Complete p)) got new = (got ≡ told p.1.message) × (new ≡ after_frame old p)

-- after a close nothing more is read
abbrev pub StepsWhere : Bool → Link → WsGot → Link → Type 0
StepsWhere false old got new = (got ≡ Ended) × (new ≡ old)
StepsWhere true old got new = Steps old (read_step (server old) old.input) got new

-- the protocol refuses what is at the front
abbrev pub IsRefusedFrame : Link → Type 0
IsRefusedFrame old = (e : Error) × (read_step (server old) old.input ≡ Err e)

-- the link is over for this cause, and what is to be sent stays
pub record IsOver (old : Link) (why : WsRefused) (new : Link) : Type 0 where
  pub stage : new.stage ≡ Over why
  pub output : new.output ≡ old.output

-- the answer of `next` where frames are read
abbrev pub OnFrames : Link → Result WsGot WsRefused → Link → Type 0
OnFrames old (Ok got) new = StepsWhere (can_read old.state) old got new
OnFrames old (Err BadFrame) new =
    (can_read old.state ≡ true) × IsRefusedFrame old × IsOver old BadFrame new
OnFrames old (Err NoMemory) new = IsOver old NoMemory new
OnFrames old (Err BadHead) new = ⊥
OnFrames old (Err (HeadTooLong _)) new = ⊥

-- ---- the head

-- the link with its head taken and answered
abbrev pub opened : Link → ℕ → List ℕ → Link
opened old place key = record {
  stage = Frames;
  state = old.state;
  fragments = old.fragments;
  input = after_head place old.input;
  output = old.output ++ head_answer key;
}

-- the head ends at this place and asks for a WebSocket
pub record Opens (old new : Link) : Type 0 where
  pub place : ℕ
  pub key : List ℕ
  pub ends : FirstEmptyLine old.input (Some place)
  pub asks : IsUpgrade (head_to place old.input) key
  pub is : new ≡ opened old place key

-- the answer of `next` where the head is to be read: it waits for the head, refuses it, or opens
-- the link and goes on with its frames
pub data OnHead (old : Link) (result : Result WsGot WsRefused) (new : Link) : Type 0 where
  waits : FirstEmptyLine old.input None → length old.input < head_limit → result ≡ Ok NotYet
      → new ≡ old → OnHead old result new
  too_long : FirstEmptyLine old.input None → head_limit ≤ length old.input
      → result ≡ Err (HeadTooLong head_limit) → IsOver old (HeadTooLong head_limit) new
      → OnHead old result new
  refused : AsksNothing old.input → result ≡ Err BadHead → IsOver old BadHead new → OnHead old result new
  starved : result ≡ Err NoMemory → IsOver old NoMemory new → OnHead old result new
  goes_on : (mid : Link) → Opens old mid → OnFrames mid result new → OnHead old result new

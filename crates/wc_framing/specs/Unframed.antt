-- What the bytes of a WebSocket link come to.
use Rattle.std.specs.Prelude.{◌≡◌, ℕ, ◌<◌, ◌≤◌, true, false, List, [], ◌∷◌, ◌++◌, length, drop, Option, Some, None}
use Rattle.std.specs.Prelude.{Result, Ok, Err}
use Rattle.std.specs.List.{flat_map}
use Rattle.websocket.specs.declared.protocol.frame.codec.FrameStatus.TheVariants.{Partial, Complete}
use Rattle.websocket.specs.declared.protocol.state.WebSocketState.TheVariants.{Active}
use Rattle.websocket.specs.Connection.{Connection, Effect, read_step, can_read}
use Rattle.websocket.specs.Content.{Content, text as TextOf, binary as BinaryOf, ping as Ping}
use Rattle.websocket.specs.Content.{pong as Pong, close as Close}
use Rattle.wc_ws.specs.declared.names.WsGot.{WsGot}
use Rattle.wc_ws.specs.declared.names.WsGot.TheVariants.{Payload, Control, NotYet, Ended}
use Rattle.wc_ws.specs.declared.names.WsRefused.{WsRefused}
use Rattle.wc_ws.specs.declared.names.WsRefused.TheVariants.{HeadTooLong, BadHead, BadFrame}
use Rattle.wc_ws.specs.declared.names.WsRefused.TheVariants.{NoMemory}
use Rattle.wc_ws.specs.declared.names.WsStage.{WsStage}
use Rattle.wc_ws.specs.declared.names.WsStage.TheVariants.{Head, Frames, Over}
use Rattle.wc_ws.specs.Head.{FirstEmptyLine, IsUpgrade, AsksNothing, head_to, after_head}
use Rattle.wc_ws.specs.Head.{head_limit}
use Rattle.wc_ws.specs.Link.{Link, server, server_of, IsRefusedFrame}

-- the bytes of a text or a binary message
abbrev pub payload_of : Option Content → List ℕ
payload_of None = []
payload_of (Some (TextOf bytes)) = bytes
payload_of (Some (BinaryOf bytes)) = bytes
payload_of (Some (Ping _)) = []
payload_of (Some (Pong _)) = []
payload_of (Some (Close _)) = []

abbrev pub payload : Effect → List ℕ
payload effect = payload_of effect.message

-- the payloads of what frames did, one after the other
abbrev pub payloads : List Effect → List ℕ
payloads effects = flat_map payload effects

-- A connection reads frames at the front of bytes, which do this in order, and comes to another one
-- with the bytes that are left.
abbrev pub Reads : Connection → List ℕ → List Effect → Connection → List ℕ → Type 0
Reads conn bytes [] last left = (last ≡ conn) × (left ≡ bytes)
Reads conn bytes (effect ∷ effects) last left =
    (n : ℕ) × ((read_step conn bytes ≡ Ok (Complete (n, effect)))
    × Reads effect.next (drop n bytes) effects last left)

-- a connection whose head was accepted
abbrev pub fresh : Connection
fresh = server_of Active None

-- no part of a head was read
pub record HoldsHead (bytes text : List ℕ) (link : Link) : Type 0 where
  pub input : link.input ≡ bytes
  pub state : link.state ≡ Active
  pub fragments : link.fragments ≡ None
  pub none : text ≡ []

-- the head ended at its first empty line and was accepted, and frames after it were read
pub record ReadsFrames (bytes text : List ℕ) (link : Link) : Type 0 where
  pub place : ℕ
  pub key : List ℕ
  pub ends : FirstEmptyLine bytes (Some place)
  pub asks : IsUpgrade (head_to place bytes) key
  pub effects : List Effect
  pub reads : Reads fresh (after_head place bytes) effects (server link) link.input
  pub made : text ≡ payloads effects

abbrev pub FedAt : WsStage → List ℕ → List ℕ → Link → Type 0
FedAt Head bytes text link = HoldsHead bytes text link
FedAt Frames bytes text link = ReadsFrames bytes text link
FedAt (Over _) bytes text link = ⊥

-- a WebSocket link that goes on, to which these bytes came, has come to this text so far: the
-- payloads of the text and binary messages that were read, one after the other
abbrev pub Fed : List ℕ → List ℕ → Link → Type 0
Fed bytes text link = FedAt link.stage bytes text link

-- the head at the front is not whole
pub record AwaitsHead (input : List ℕ) : Type 0 where
  pub none : FirstEmptyLine input None
  pub short : length input < head_limit

-- the frame at the front is not whole
pub record AwaitsFrame (conn : Connection) (input : List ℕ) : Type 0 where
  pub wanted : ℕ
  pub partial : read_step conn input ≡ Ok (Partial wanted)

abbrev pub AwaitsAt : WsStage → Link → Type 0
AwaitsAt Head link = AwaitsHead link.input
AwaitsAt Frames link = AwaitsFrame (server link) link.input
AwaitsAt (Over _) link = ⊥

-- it has, and nothing whole is left to be read
pub record Unframes (bytes text : List ℕ) (link : Link) : Type 0 where
  pub fed : Fed bytes text link
  pub awaits : AwaitsAt link.stage link

-- Bytes came to this text, and then to a close: of the connection to which their frames lead nothing
-- more is read.
pub record ReadsClose (bytes text : List ℕ) : Type 0 where
  pub link : Link
  pub frames : ReadsFrames bytes text link
  pub closed : can_read link.state ≡ false

-- bytes came to this text, and then they are no WebSocket's: their head does not end in time, or asks
-- for none, or what is left at the front is no frame
pub data IsBroken (bytes text : List ℕ) : Type 0 where
  no_end : FirstEmptyLine bytes None → head_limit ≤ length bytes → IsBroken bytes text
  no_head : AsksNothing bytes → IsBroken bytes text
  no_frame : (link : Link) → ReadsFrames bytes text link → IsRefusedFrame link
      → IsBroken bytes text

-- what a message adds to the text of a link to which these bytes came, or how they end
abbrev pub Comes : List ℕ → List ℕ → Result WsGot WsRefused → Link → Type 0
Comes bytes text (Ok (Payload more)) link = Fed bytes (text ++ more) link
Comes bytes text (Ok Control) link = Fed bytes text link
Comes bytes text (Ok NotYet) link = Unframes bytes text link
Comes bytes text (Ok Ended) link = ReadsClose bytes text
Comes bytes text (Err (HeadTooLong limit)) link = IsBroken bytes text
Comes bytes text (Err BadHead) link = IsBroken bytes text
Comes bytes text (Err BadFrame) link = IsBroken bytes text
Comes bytes text (Err NoMemory) link = Unit {0}

-- less is left to be read, where more may come
abbrev pub Shrinks : Result WsGot WsRefused → Link → Link → Type 0
Shrinks (Ok (Payload more)) old new = length new.input < length old.input
Shrinks (Ok Control) old new = length new.input < length old.input
Shrinks (Ok NotYet) old new = Unit {0}
Shrinks (Ok Ended) old new = Unit {0}
Shrinks (Err why) old new = Unit {0}

-- A WebSocket link whose bytes come in pieces, cut anywhere.
use Rattle.std.specs.Prelude.{◌≡◌, ◌≢◌, ℕ, List, ◌++◌, Ok}
use Rattle.std.specs.List.{flat_map}
use Rattle.websocket.specs.declared.protocol.frame.codec.FrameStatus.TheVariants.{Complete}
use Rattle.websocket.specs.Connection.{Effect, read_step}
use Rattle.wc_ws.specs.Link.{Link, server, reply_bytes}
use Rattle.wc_framing.specs.Unframed.{payloads, Reads, ReadsFrames, Fed}

-- what answers a frame
abbrev pub reply : Effect → List ℕ
reply effect = reply_bytes effect.reply

-- what answers frames, one after the other
abbrev pub replies : List Effect → List ℕ
replies effects = flat_map reply effects

-- no whole frame is at the front: more bytes are wanted, or what is there is refused
abbrev pub HasNoFrame : Link → Type 0
HasNoFrame link = (p : ℕ × Effect) → read_step (server link) link.input ≢ Ok (Complete p)

-- A piece comes to a link that came to this text: all bytes come to the same text, with the piece
-- after what was not read.
abbrev pub AddsPieces : Type 0
AddsPieces = (bytes made piece : List ℕ) (link : Link) → Fed bytes made link
    → Fed (bytes ++ piece) made (record link { input = link.input ++ piece })

-- The frames that were read of bytes, and then those that are read after a piece more, are frames
-- of all the bytes, after the same head.
abbrev pub JoinsPieces : Type 0
JoinsPieces = (bytes made piece : List ℕ) (link last : Link) (more : List Effect)
    → (first : ReadsFrames bytes made link)
    → Reads (server link) (link.input ++ piece) more (server last) last.input
    → (whole : ReadsFrames (bytes ++ piece) (made ++ payloads more) last)
    × ((whole.place ≡ first.place) × ((whole.key ≡ first.key)
    × (whole.effects ≡ first.effects ++ more)))

-- Frames are read of bytes in one way: where no whole frame is left, the end of the head, the frames
-- with their text, the connection and the bytes that are left are the same.
abbrev pub ReadsOneWay : Type 0
ReadsOneWay = (bytes made other : List ℕ) (link same : Link)
    → (first : ReadsFrames bytes made link) → HasNoFrame link
    → (second : ReadsFrames bytes other same) → HasNoFrame same
    → (second.place ≡ first.place) × ((second.effects ≡ first.effects) × ((other ≡ made)
    × ((server same ≡ server link) × (same.input ≡ link.input))))

-- A read can be cut anywhere: the frames of all bytes are those of the bytes before the cut, and then
-- those that are read once the piece after it came, and so are their text and what answers them; the
-- connection and the bytes that are left are the same.
abbrev pub CutAnywhere : Type 0
CutAnywhere = (bytes made piece other : List ℕ) (link last same : Link) (more : List Effect)
    → (first : ReadsFrames bytes made link)
    → Reads (server link) (link.input ++ piece) more (server last) last.input → HasNoFrame last
    → (whole : ReadsFrames (bytes ++ piece) other same) → HasNoFrame same
    → (whole.effects ≡ first.effects ++ more) × ((other ≡ made ++ payloads more)
    × ((replies whole.effects ≡ replies first.effects ++ replies more)
    × ((server same ≡ server last) × (same.input ≡ last.input))))

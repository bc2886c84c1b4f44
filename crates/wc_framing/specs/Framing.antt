-- A link's framing, by the bytes that came on it.
use Rattle.std.specs.Prelude.{◌≡◌, ℕ, Bool, true, false, List, [], ◌++◌}
use Rattle.wc_framing.specs.declared.framing.Framing.{Framing}
use Rattle.wc_framing.specs.declared.framing.Framing.TheVariants as framing
use Rattle.wc_framing.specs.declared.framing.Belongs.{Belongs}
use Rattle.wc_framing.specs.declared.framing.Belongs.TheVariants.{Text, Opened, Frames}
use Rattle.wc_framing.specs.Opening.{begins, may_open}
use Rattle.wc_framing.specs.Unframed.{Fed, Unframes}

-- whether a link is a WebSocket
abbrev pub is_socket : Framing → Bool
is_socket framing.Undecided = false
is_socket framing.Plain = false
is_socket (framing.Socket link) = true

-- the framing but for what is to be sent
abbrev pub silent : Framing → Framing
silent framing.Undecided = framing.Undecided
silent framing.Plain = framing.Plain
silent (framing.Socket link) = framing.Socket (record link { output = [] })

-- The framing of a client on whose link these bytes came. That of a WebSocket has made this text of
-- them, and nothing whole is left to be read.
abbrev pub FramedAs : List ℕ → List ℕ → Framing → Type 0
FramedAs bytes text framing.Undecided = (may_open bytes ≡ true) × (text ≡ [])
FramedAs bytes text framing.Plain =
    (begins bytes ≡ false) × ((may_open bytes ≡ false) × (text ≡ []))
FramedAs bytes text (framing.Socket link) = (begins bytes ≡ true) × Unframes bytes text link

-- a WebSocket that was fed these bytes has made this text of them so far
abbrev pub FedAs : List ℕ → List ℕ → Framing → Type 0
FedAs bytes text framing.Undecided = ⊥
FedAs bytes text framing.Plain = ⊥
FedAs bytes text (framing.Socket link) = Fed bytes text link

-- where a piece belongs after which all bytes of a client are these
abbrev pub BelongsAs : List ℕ → Framing → Belongs → Framing → Type 0
BelongsAs bytes old Text new = (is_socket new ≡ false) × FramedAs bytes [] new
BelongsAs bytes old Opened new =
    (is_socket old ≡ false) × ((begins bytes ≡ true) × FedAs [] [] new)
BelongsAs bytes old Frames new = (is_socket old ≡ true) × (new ≡ old)

-- a piece comes after these bytes of a client, of which those are held that are too few to tell
abbrev pub Opens : List ℕ → List ℕ → Framing → Belongs → Framing → Type 0
Opens held piece old belongs new = (bytes text : List ℕ) → FramedAs bytes text old →
    (old ≡ framing.Undecided → held ≡ bytes) → BelongsAs (bytes ++ piece) old belongs new

-- the framing of a server's link is plain, and stays so
abbrev pub StaysPlain : Framing → Belongs → Framing → Type 0
StaysPlain old belongs new = old ≡ framing.Plain → (belongs ≡ Text) × (new ≡ framing.Plain)

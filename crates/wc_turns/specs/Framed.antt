-- The framing of a link that is new, and the frames of a WebSocket that are still to be sent.
use Rattle.std.specs.Prelude.{ℕ, Bool, true, false, List, drop, Option, Some, None}
use Rattle.wc_framing.specs.declared.framing.Framing.{Framing}
use Rattle.wc_framing.specs.declared.framing.Framing.TheVariants.{Undecided, Plain, Socket}

-- the link of a server is plain, and of a client that is not known yet
abbrev pub first_framing : Bool → Framing
first_framing true = Plain
first_framing false = Undecided

-- the frames of a WebSocket that are still to be sent
abbrev pub frames_in : Framing → Option (List ℕ)
frames_in Undecided = None
frames_in Plain = None
frames_in (Socket link) = Some link.output

-- the first bytes of them are sent
abbrev pub gone_in : ℕ → Framing → Framing
gone_in count Undecided = Undecided
gone_in count Plain = Plain
gone_in count (Socket link) = Socket (record link { output = drop count link.output })

-- What was heard: what the sockets gave, and what the frames of WebSocket links came to.
use Rattle.std.specs.Prelude.{ℕ, List, [], ◌∷◌}
use Rattle.std.specs.List.{flat_map}
use Rattle.wc_text.specs.declared.names.LinkId.{LinkId}
use Rattle.wc_outside.specs.declared.happening.Happening.{Happening}
use Rattle.wc_outside.specs.declared.happening.Happening.TheVariants.{Read}

-- how a WebSocket link is after a read: it goes on, a close was read, or what came is no WebSocket
pub data SocketEnd : Type 0 where
  GoesOn : SocketEnd
  Closes : SocketEnd
  Broken : SocketEnd

pub data Heard : Type 0 where
  -- the sockets gave this
  Happened : Happening → Heard
  -- bytes came on a link, and its frames came to this text, the payloads of text and binary
  -- messages one after the other, and to this end
  Unframed : LinkId → List ℕ → List ℕ → SocketEnd → Heard
  -- a message could not be put into a frame of a link
  NotPut : LinkId → Heard

-- what the sockets gave of it
abbrev pub happened : Heard → List Happening
happened (Happened happening) = happening ∷ []
happened (Unframed link bytes text end) = Read link bytes ∷ []
happened (NotPut link) = []

abbrev pub happenings : List Heard → List Happening
happenings history = flat_map happened history

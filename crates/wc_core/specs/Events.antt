-- What the core is told, one after another.
use Rattle.std.specs.Prelude.{ℕ, List}

pub data Event : Type 0 where
  -- the first wait returned, at this moment in milliseconds since 1970
  Start : ℕ → Event
  Tick : ℕ → Event
  -- a client came on a link, with a nonce
  Arrives : ℕ → List ℕ → Event
  -- a whole line of a link
  Line : ℕ → List ℕ → Event
  -- the link of a server stands
  Stands : ℕ → Event
  -- the bytes of a link came to their end, or the link failed
  Ends : ℕ → Event
  Fails : ℕ → Event
  -- what came on a link is no WebSocket, though it began as one
  Breaks : ℕ → Event
  ListenFails : Event

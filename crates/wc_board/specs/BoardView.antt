-- What contracts see of the board.
use Rattle.std.specs.Prelude.{◌≡◌, ℕ, false, List, []}
use Rattle.wc_text.specs.declared.names.Handle.{Handle}
use Rattle.wc_nickdiff.specs.Held.{OfBuffer, touches_of}
use Rattle.wc_buffers.specs.Calls.{is_there}
use Rattle.wc_model.specs.World.{World, first_world}
use Rattle.wc_board.specs.declared.connection.Connection.{Connection}

pub record BoardView : Type 0 where
  pub world : World
  -- what is kept of the rows that were touched since the last push
  pub pending : List OfBuffer
  -- the clients that are open and those that are leaving, in the order in which they came
  pub connections : List Connection

-- nothing is kept of a buffer that is not there
abbrev pub NoStrayTouches : World → List OfBuffer → Type 0
NoStrayTouches world pending = (buffer : Handle) → is_there buffer world.groups ≡ false →
    touches_of buffer pending ≡ []

-- the core buffer alone, whose lines are bounded, and no client
abbrev pub first_board : ℕ → BoardView
first_board limit = record { world = first_world limit; pending = []; connections = [] }

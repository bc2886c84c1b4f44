-- Which sources the events of a poll tell of, and what an event says of reading.
use Rattle.std.specs.Prelude.{ℕ, Bool, List, Option, Some, None, filter_map}
use Rattle.std.specs.Prelude.{if◌then◌else◌, ◌==◌, ◌||◌}
use Rattle.mio.specs.declared.event.event.Event.{Event}
use Rattle.mio.specs.Event.{event_token, is_readable, is_read_closed, is_error, is_priority}
use Rattle.wc_outside.specs.declared.sockets.Token.{Token}
use Rattle.wc_outside.specs.declared.sockets.Token.TheVariants.{Listener, Link}

-- the source under a number: 0 is the listener's, and a link that is not there is none
abbrev pub source_under : (ℕ → Bool) → ℕ → Option Token
source_under there number = if number == 0 then Some Listener
    else (if there number then Some (Link (record { 0 = number })) else None)

-- the source that an event tells of
abbrev pub source_of : (ℕ → Bool) → Event → Option Token
source_of there event = source_under there (event_token event).0

-- the sources that events tell of, in their order
abbrev pub sources_of : (ℕ → Bool) → List Event → List Token
sources_of there events = filter_map (source_of there) events

-- after the event a read may take less than it may while there is more
abbrev pub is_uneven : Event → Bool
is_uneven event = is_read_closed event || is_error event || is_priority event

-- after the event there may be something to read, an end or a failure among it
abbrev pub tells_to_read : Event → Bool
tells_to_read event = is_uneven event || is_readable event

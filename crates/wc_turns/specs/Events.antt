-- The events that the happenings of the sockets spell, with what the frames of WebSocket links came
-- to.
use Rattle.std.specs.Prelude.{ℕ, ◌+◌, Bool, true, false, List, [], ◌∷◌, ◌++◌, length, map}
use Rattle.std.specs.Prelude.{if◌then◌else◌, ◌==◌, nat_lt, nat_le, ◌&&◌, ◌||◌, Option, Some, None}
use Rattle.std.specs.List.{flat_map, list_any}
use Rattle.wc_outside.specs.declared.happening.Happening.{Happening}
use Rattle.wc_outside.specs.declared.happening.Happening.TheVariants.{Woke, Accepted, Read, Ended}
use Rattle.wc_outside.specs.declared.happening.Happening.TheVariants.{Failed, Connected, Refused}
use Rattle.wc_outside.specs.declared.happening.Happening.TheVariants.{ListenFailed}
use Rattle.wc_core.specs.Events.{Event, Start, Tick, Arrives, Line, Stands, Ends, Fails}
use Rattle.wc_core.specs.Events.{Breaks, ListenFails}
use Rattle.wc_framing.specs.Opening.{begins}
use Rattle.wc_text.specs.declared.names.LinkId.{LinkId}
use Rattle.wc_turns.specs.Heard.{Heard, Happened, Unframed, NotPut, happenings}
use Rattle.wc_turns.specs.Heard.{SocketEnd, GoesOn, Closes, Broken}
use Rattle.wc_turns.specs.Lines.{ended_lines, rest, without_cr, line_limit}

-- the bytes of a happening that came on a link
abbrev pub bytes_on : ℕ → Happening → List ℕ
bytes_on link (Read other bytes) = if other.0 == link then bytes else []
bytes_on link (Woke moment) = []
bytes_on link (Accepted other nonce) = []
bytes_on link (Ended other) = []
bytes_on link (Failed other) = []
bytes_on link (Connected other) = []
bytes_on link (Refused other) = []
bytes_on link ListenFailed = []

-- whether a happening is that the connection of a link stands
abbrev pub stands_at : ℕ → Happening → Bool
stands_at link (Connected other) = other.0 == link
stands_at link (Woke moment) = false
stands_at link (Accepted other nonce) = false
stands_at link (Read other bytes) = false
stands_at link (Ended other) = false
stands_at link (Failed other) = false
stands_at link (Refused other) = false
stands_at link ListenFailed = false

abbrev pub has_stood : ℕ → List Happening → Bool
has_stood link happenings = list_any (stands_at link) happenings

-- whether a happening is that a client came on a link
abbrev pub comes_on : ℕ → Happening → Bool
comes_on link (Accepted other nonce) = other.0 == link
comes_on link (Woke moment) = false
comes_on link (Read other bytes) = false
comes_on link (Ended other) = false
comes_on link (Failed other) = false
comes_on link (Connected other) = false
comes_on link (Refused other) = false
comes_on link ListenFailed = false

abbrev pub has_come : ℕ → List Happening → Bool
has_come link happenings = list_any (comes_on link) happenings

-- a client's link is a WebSocket where its first bytes begin a head that may ask for one
abbrev pub socket_on : ℕ → List Happening → Bool
socket_on link taken = has_come link taken && begins (flat_map (bytes_on link) taken)

-- what was heard adds this to the text of a link, which is a WebSocket or not: the bytes of all
-- reads of a plain link are one text, and what the frames of a WebSocket came to
abbrev pub text_in : ℕ → Bool → Heard → List ℕ
text_in link false (Happened happening) = bytes_on link happening
text_in link true (Happened happening) = []
text_in link false (Unframed other bytes text end) = if other.0 == link then bytes else []
text_in link true (Unframed other bytes text end) = if other.0 == link then text else []
text_in link socket (NotPut other) = []

-- what comes after the last LF of the text of a link, which is a WebSocket or not
abbrev pub tail_as : Bool → ℕ → List Heard → List ℕ
tail_as socket link history = rest [] (flat_map (text_in link socket) history)

-- the same of a link that is what its bytes tell
abbrev pub tail_on : ℕ → List Heard → List ℕ
tail_on link history = tail_as (socket_on link (happenings history)) link history

-- a wake is the start, or a tick where it comes 100 milliseconds after the last one, or before it
abbrev pub is_tick : ℕ → ℕ → Bool
is_tick last moment = nat_lt moment last || nat_le (last + 100) moment

-- whether the return of a wait is the start or a tick
abbrev pub is_event : Option ℕ → ℕ → Bool
is_event None moment = true
is_event (Some last) moment = is_tick last moment

abbrev pub clock_from : Option ℕ → List Happening → Option ℕ
clock_from last [] = last
clock_from None (Woke moment ∷ happenings) = clock_from (Some moment) happenings
clock_from (Some last) (Woke moment ∷ happenings) =
    clock_from (Some (if is_tick last moment then moment else last)) happenings
clock_from last (Accepted link nonce ∷ happenings) = clock_from last happenings
clock_from last (Read link bytes ∷ happenings) = clock_from last happenings
clock_from last (Ended link ∷ happenings) = clock_from last happenings
clock_from last (Failed link ∷ happenings) = clock_from last happenings
clock_from last (Connected link ∷ happenings) = clock_from last happenings
clock_from last (Refused link ∷ happenings) = clock_from last happenings
clock_from last (ListenFailed ∷ happenings) = clock_from last happenings

-- the moment of the last tick, or of the start
abbrev pub clock : List Happening → Option ℕ
clock happenings = clock_from None happenings

abbrev pub wake_events : Option ℕ → ℕ → List Event
wake_events None moment = Start moment ∷ []
wake_events (Some last) moment = if is_tick last moment then Tick moment ∷ [] else []

-- the connections that were refused since the last wake, after these
abbrev pub refused_from : List LinkId → List Happening → List LinkId
refused_from refused [] = refused
refused_from refused (Woke moment ∷ happenings) = refused_from [] happenings
refused_from refused (Refused link ∷ happenings) = refused_from (refused ++ link ∷ []) happenings
refused_from refused (Accepted link nonce ∷ happenings) = refused_from refused happenings
refused_from refused (Read link bytes ∷ happenings) = refused_from refused happenings
refused_from refused (Ended link ∷ happenings) = refused_from refused happenings
refused_from refused (Failed link ∷ happenings) = refused_from refused happenings
refused_from refused (Connected link ∷ happenings) = refused_from refused happenings
refused_from refused (ListenFailed ∷ happenings) = refused_from refused happenings

-- the connections that were refused since the last wake, in order
abbrev pub refused_since : List Happening → List LinkId
refused_since happenings = refused_from [] happenings

-- the loss of a connection that was refused
abbrev pub loss_of : LinkId → Event
loss_of link = Fails link.0

-- a line of a link, unless it is too long
abbrev pub line_events : ℕ → List ℕ → List Event
line_events link line = if nat_le (length line) line_limit
    then Line link (without_cr line) ∷ [] else []

-- the events that bytes spell on a link, on which `line` is already
abbrev pub read_events : ℕ → List ℕ → List ℕ → List Event
read_events link line bytes = flat_map (line_events link) (ended_lines line bytes)

-- what a read adds to the text of a link, which is a WebSocket or not
abbrev pub text_of_read : Bool → List ℕ → List ℕ → List ℕ
text_of_read false bytes text = bytes
text_of_read true bytes text = text

abbrev pub text_events : Bool → ℕ → List Heard → List ℕ → List ℕ → List Event
text_events socket link before bytes text =
    read_events link (tail_as socket link before) (text_of_read socket bytes text)

-- the lines that end with a read of a link, whose frames came to this text, if it is a WebSocket
abbrev pub came_events : LinkId → List Heard → List ℕ → List ℕ → List Event
came_events link before bytes text = text_events
    (socket_on link.0 (happenings before ++ Read link bytes ∷ [])) link.0 before bytes text

-- the events of a wake; the connections that were refused since the last one are lost after it
abbrev pub woke_events : List Happening → ℕ → List Event
woke_events taken moment = wake_events (clock taken) moment ++ map loss_of (refused_since taken)

-- the events of a happening, after what was heard before
abbrev pub happening_events : List Heard → Happening → List Event
happening_events before (Woke moment) = woke_events (happenings before) moment
happening_events before (Accepted link nonce) = Arrives link.0 nonce ∷ []
happening_events before (Read link bytes) = came_events link before bytes []
happening_events before (Ended link) = Ends link.0 ∷ []
happening_events before (Failed link) = Fails link.0 ∷ []
happening_events before (Connected link) = Stands link.0 ∷ []
happening_events before (Refused link) = []
happening_events before ListenFailed = ListenFails ∷ []

-- the end of a WebSocket link is an event of it
abbrev pub end_events : ℕ → SocketEnd → List Event
end_events link GoesOn = []
end_events link Closes = Ends link ∷ []
end_events link Broken = Breaks link ∷ []

-- the events of what was heard, after what was heard before
abbrev pub events_of : List Heard → Heard → List Event
events_of before (Happened happening) = happening_events before happening
events_of before (Unframed link bytes text end) = came_events link before bytes text
    ++ end_events link.0 end
events_of before (NotPut link) = Breaks link.0 ∷ []

abbrev pub events_from : List Heard → List Heard → List Event
events_from before [] = []
events_from before (heard ∷ history) = events_of before heard
    ++ events_from (before ++ heard ∷ []) history

-- all events
abbrev pub whole : List Heard → List Event
whole history = events_from [] history

-- The happenings that a call adds, the bytes that it sends, and the sources that it speaks of.
use Rattle.std.specs.Prelude.{ℕ, Bool, true, false, ◌+◌, ◌≤◌, List, [], ◌∷◌, take, ◌==◌, Option}
use Rattle.std.specs.Prelude.{Some, None, Result, Ok, Err, IsTrue, not}
use Rattle.wc_text.specs.declared.names.LinkId.{LinkId}
use Rattle.wc_text.specs.declared.names.Arrival.{Arrival}
use Rattle.wc_outside.specs.declared.happening.Failed.{Failed as Fault}
use Rattle.wc_outside.specs.declared.sockets.Got.{Got}
use Rattle.wc_outside.specs.declared.sockets.Got.TheVariants.{Bytes, End, NotYet}
use Rattle.wc_outside.specs.declared.sockets.Put.{Put}
use Rattle.wc_outside.specs.declared.sockets.Put.TheVariants.{Took, NotYet as NoRoom}
use Rattle.wc_outside.specs.declared.sockets.Token.{Token}
use Rattle.wc_outside.specs.declared.sockets.Token.TheVariants.{Listener, Link}
use Rattle.wc_outside.specs.declared.happening.Happening.{Happening}
use Rattle.wc_outside.specs.declared.happening.Happening.TheVariants.{Woke, Accepted, Read, Ended}
use Rattle.wc_outside.specs.declared.happening.Happening.TheVariants.{Failed, Connected, Refused}
use Rattle.wc_outside.specs.declared.happening.Happening.TheVariants.{ListenFailed}

-- what a wait adds
abbrev pub wait_gives : Result ℕ Fault → List Happening
wait_gives (Ok moment) = Woke moment ∷ []
wait_gives (Err fault) = []

-- what listening adds
abbrev pub listen_gives : {A : Type 0} → Result A Fault → List Happening
listen_gives (Ok done) = []
listen_gives (Err fault) = ListenFailed ∷ []

-- what an accept adds
abbrev pub accept_gives : Result (Option Arrival) Fault → List Happening
accept_gives (Ok (Some arrival)) = Accepted arrival.link arrival.nonce ∷ []
accept_gives (Ok None) = []
accept_gives (Err fault) = ListenFailed ∷ []

-- what a read of a link adds, where the bytes are in front of the buffer
abbrev pub read_gives : LinkId → List ℕ → Result Got Fault → List Happening
read_gives link buffer (Ok (Bytes n)) = Read link (take n buffer) ∷ []
read_gives link buffer (Ok End) = Ended link ∷ []
read_gives link buffer (Ok NotYet) = []
read_gives link buffer (Err fault) = Failed link ∷ []

-- what the making of a connection adds, where so many link numbers were used before
abbrev pub connect_gives : ℕ → Result LinkId Fault → List Happening
connect_gives used (Ok link) = []
connect_gives used (Err fault) = Refused (record { 0 = used + 1 }) ∷ []

-- what the question whether a link is connected adds
abbrev pub connected_gives : LinkId → Result Bool Fault → List Happening
connected_gives link (Ok true) = Connected link ∷ []
connected_gives link (Ok false) = []
connected_gives link (Err fault) = Failed link ∷ []

-- what a write to a link adds
abbrev pub write_gives : LinkId → Result Put Fault → List Happening
write_gives link (Ok put) = []
write_gives link (Err fault) = Failed link ∷ []

-- the front of the piece that a write sent
abbrev pub sent_of : List ℕ → Result Put Fault → List ℕ
sent_of piece (Ok (Took n)) = take n piece
sent_of piece (Ok NoRoom) = []
sent_of piece (Err fault) = []

-- whether a write found no room
abbrev pub found_no_room : Result Put Fault → Bool
found_no_room (Ok (Took n)) = false
found_no_room (Ok NoRoom) = true
found_no_room (Err fault) = false

-- whether a read found nothing ready
abbrev pub found_nothing : Result Got Fault → Bool
found_nothing (Ok (Bytes n)) = false
found_nothing (Ok End) = false
found_nothing (Ok NotYet) = true
found_nothing (Err fault) = false

-- whether an accept found no arrival
abbrev pub found_no_arrival : Result (Option Arrival) Fault → Bool
found_no_arrival (Ok (Some arrival)) = false
found_no_arrival (Ok None) = true
found_no_arrival (Err fault) = false

-- the number of bytes read is at least 1, and they fit the buffer
abbrev pub IsReadWithin : ℕ → Got → Type 0
IsReadWithin room (Bytes n) = (1 ≤ n) × (n ≤ room)
IsReadWithin room End = Unit {0}
IsReadWithin room NotYet = Unit {0}

-- a write takes at least a byte of a piece that has one, and not more than the piece
abbrev pub IsPutWithin : ℕ → Put → Type 0
IsPutWithin size (Took n) = (n ≤ size) × (1 ≤ size → 1 ≤ n)
IsPutWithin size NoRoom = Unit {0}

-- whether it is not decided yet whether a link is connected
abbrev pub is_undecided : Result Bool Fault → Bool
is_undecided (Ok stands) = not stands
is_undecided (Err fault) = false

-- how many link numbers are used after an accept, which gives the next number
abbrev pub used_after : ℕ → Result (Option Arrival) Fault → ℕ
used_after used (Ok (Some arrival)) = used + 1
used_after used (Ok None) = used
used_after used (Err fault) = used

-- whether an accept gave this link
abbrev pub is_arrival : ℕ → Result (Option Arrival) Fault → Bool
is_arrival link (Ok (Some arrival)) = arrival.link.0 == link
is_arrival link (Ok None) = false
is_arrival link (Err fault) = false

-- whether a connection has this link
abbrev pub is_connection : ℕ → Result LinkId Fault → Bool
is_connection link (Ok made) = made.0 == link
is_connection link (Err fault) = false

-- whether a token is this link, and whether it is the listener
abbrev pub is_link : ℕ → Token → Bool
is_link link Listener = false
is_link link (Link other) = other.0 == link

abbrev pub is_listener : Token → Bool
is_listener Listener = true
is_listener (Link other) = false

-- a token is the listener or a link that is there
abbrev pub IsThere : (ℕ → Bool) → Token → Type 0
IsThere there Listener = Unit {0}
IsThere there (Link link) = IsTrue (there link.0)

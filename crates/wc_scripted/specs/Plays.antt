-- How far sockets in memory have played their script, and what each call makes of it.
use Rattle.std.specs.Prelude.{ℕ, zero, suc, ◌≡◌, ◌+◌, ◌-◌, ◌^◌, ◌≤◌, min, Bool, true, false, ◌==◌, ◌&&◌, ◌||◌, not}
use Rattle.std.specs.Prelude.{if◌then◌else◌, List, [], ◌∷◌, ◌++◌, length, map, take, drop, Option, Some, None, ◌⊎◌}
use Rattle.std.specs.Prelude.{Result, Ok, Err, slice_get}
use Rattle.std.specs.List.{list_any}
use Rattle.wc_text.specs.declared.names.LinkId.{LinkId}
use Rattle.wc_text.specs.declared.names.Arrival.{Arrival}
use Rattle.wc_outside.specs.declared.happening.Failed.{Failed as Fault}
use Rattle.wc_outside.specs.declared.sockets.Got.{Got}
use Rattle.wc_outside.specs.declared.sockets.Got.TheVariants.{Bytes, End, NotYet}
use Rattle.wc_outside.specs.declared.sockets.Put.{Put}
use Rattle.wc_outside.specs.declared.sockets.Put.TheVariants.{Took, NotYet as NoRoom}
use Rattle.wc_outside.specs.declared.sockets.Token.{Token}
use Rattle.wc_outside.specs.declared.sockets.Token.TheVariants.{Listener, Link}
use Rattle.wc_scripted.specs.declared.scripted.Scripted.{Scripted}
use Rattle.wc_outside.specs.Faults.{Rose}
use Rattle.wc_outside.specs.Happenings.{is_link, is_listener}
use Rattle.wc_scripted.specs.Scripts.{due, has_end, is_for, is_arrival, nonces, turn_size, next_moment}
use Rattle.wc_outside.specs.Seen.{Seen}

pub record Plays : Type 0 where
  -- the steps that waits have released, and those that are to come
  pub released : List Scripted
  pub coming : List Scripted
  -- the moment of the last wait that returned, or 0
  pub moment : ℕ
  -- how many arrivals were accepted
  pub arrived : ℕ
  -- how much of what is due to each link was given: bytes by reads, and that its connection stands
  pub given : ℕ → ℕ
  -- whether something of a link was released that no wait reported, and whether an arrival was
  pub news : ℕ → Bool
  pub arriving : Bool
  -- how many bytes a link takes between two waits, where 0 is no bound
  pub window : ℕ
  -- how many of them it took since the last wait that returned
  pub took : ℕ → ℕ
  -- how many calls were made but those of `close`, and the numbers of those that are to fail
  pub calls : ℕ
  pub failing : List ℕ
  -- how often memory was refused
  pub refused : ℕ

-- two plays are as far, but for the refusals of memory
pub record IsAsFar (play other : Plays) : Type 0 where
  pub released : play.released ≡ other.released
  pub coming : play.coming ≡ other.coming
  pub moment : play.moment ≡ other.moment
  pub arrived : play.arrived ≡ other.arrived
  pub given : (link : ℕ) → play.given link ≡ other.given link
  pub news : (link : ℕ) → play.news link ≡ other.news link
  pub arriving : play.arriving ≡ other.arriving
  pub window : play.window ≡ other.window
  pub took : (link : ℕ) → play.took link ≡ other.took link
  pub calls : play.calls ≡ other.calls
  pub failing : play.failing ≡ other.failing

-- nothing of this script was played
pub record IsStart (script : List Scripted) (fails : List ℕ) (bound : ℕ) (play : Plays) : Type 0 where
  pub released : play.released ≡ []
  pub coming : play.coming ≡ script
  pub moment : play.moment ≡ 0
  pub arrived : play.arrived ≡ 0
  pub given : (link : ℕ) → play.given link ≡ 0
  pub news : (link : ℕ) → play.news link ≡ false
  pub arriving : play.arriving ≡ false
  pub window : play.window ≡ bound
  pub took : (link : ℕ) → play.took link ≡ 0
  pub calls : play.calls ≡ 0
  pub failing : play.failing ≡ fails
  pub refused : play.refused ≡ 0

-- a call is counted
abbrev pub called : Plays → Plays
called play = record play { calls = min (play.calls + 1) (2 ^ 64 - 1) }

-- whether a call is to fail that has this number
abbrev pub is_failing : ℕ → List ℕ → Bool
is_failing call failing = list_any (λ number. number == call) failing

-- whether the next call is to fail
abbrev pub next_fails : Plays → Bool
next_fails play = is_failing (called play).calls play.failing

-- the steps that the next wait releases
abbrev pub next_turn : Plays → List Scripted
next_turn play = take (turn_size play.coming) play.coming

-- whether the next wait has a link to report: it is there, and something of it is new, or it has
-- room again
abbrev pub is_fresh : Plays → Seen → ℕ → Bool
is_fresh play seen link = seen.there link && ((play.news link || list_any (is_for link) (next_turn play))
    || seen.blocked link)

-- whether the next wait has the listener to report
abbrev pub is_arriving : Plays → Bool
is_arriving play = play.arriving || list_any is_arrival (next_turn play)

-- this link, where it is found
abbrev pub found_at : Bool → ℕ → List Token
found_at true number = Link (record { 0 = number }) ∷ []
found_at false number = []

-- the links below a number for which a test holds, in order
abbrev pub links_below : (ℕ → Bool) → ℕ → List Token
links_below test zero = []
links_below test (suc number) = links_below test number ++ found_at (test number) number

-- the listener, where there is an arrival
abbrev pub front : Bool → List Token
front true = Listener ∷ []
front false = []

-- the listener, where there is an arrival, and then these links
abbrev pub sources : Bool → (ℕ → Bool) → ℕ → List Token
sources arriving test number = front arriving ++ links_below test number

-- the sources that the next wait has to report
abbrev pub fresh_sources : Plays → Seen → List Token
fresh_sources play seen = sources (is_arriving play) (is_fresh play seen) (seen.used + 1)

-- how far a wait has played that reported these sources
abbrev pub after_wait : Plays → Seen → List Token → Result ℕ Fault → Plays
after_wait play seen tokens (Ok moment) = record (called play) {
  released = play.released ++ next_turn play;
  coming = drop (turn_size play.coming) play.coming;
  moment = next_moment play.moment play.coming;
  news = λ link. (play.news link || (seen.there link && list_any (is_for link) (next_turn play)))
      && not (list_any (is_link link) tokens);
  arriving = is_arriving play && not (list_any is_listener tokens);
  took = λ link. 0;
}
after_wait play seen tokens (Err fault) = called play

-- a new link has news where its first steps were released before it came
abbrev pub with_link : Plays → ℕ → Plays
with_link play new = record play {
  news = λ link. if link == new then list_any (is_for new) play.released else play.news link;
}

abbrev pub after_accept : Plays → Result (Option Arrival) Fault → Plays
after_accept play (Ok (Some arrival)) = record (called (with_link play arrival.link.0)) {
  arrived = play.arrived + 1;
}
after_accept play (Ok None) = called play
after_accept play (Err fault) = called play

abbrev pub after_connect : Plays → Result LinkId Fault → Plays
after_connect play (Ok link) = called (with_link play link.0)
after_connect play (Err fault) = called play

-- the script passes that a connection stands where that was found
abbrev pub after_connected : Plays → ℕ → Result Bool Fault → Plays
after_connected play link (Ok stands) = record (called play) {
  given = λ other. play.given other + (if (other == link) && stands then 1 else 0);
}
after_connected play link (Err fault) = called play

-- how many bytes a read gave
abbrev pub given_by : Got → ℕ
given_by (Bytes n) = n
given_by End = 0
given_by NotYet = 0

abbrev pub after_read : Plays → ℕ → Result Got Fault → Plays
after_read play link (Ok got) = record (called play) {
  given = λ other. play.given other + (if other == link then given_by got else 0);
}
after_read play link (Err fault) = called play

-- how many bytes a write took
abbrev pub taken_by : Put → ℕ
taken_by (Took n) = n
taken_by NoRoom = 0

abbrev pub after_write : Plays → ℕ → Result Put Fault → Plays
after_write play link (Ok put) = record (called play) {
  took = λ other. play.took other + (if (other == link) && not (play.window == 0) then taken_by put else 0);
}
after_write play link (Err fault) = called play

-- the next nonce of those that are released, where so many link numbers are used and so many arrivals
-- were accepted; none only where all were, or 2^62 numbers are used
abbrev pub IsNonce : List Scripted → ℕ → ℕ → Option (List ℕ) → Type 0
IsNonce steps used arrived (Some nonce) = slice_get (nonces steps) arrived ≡ Some nonce
IsNonce steps used arrived None = (2 ^ 62 ≤ used) ⊎ (length (nonces steps) ≤ arrived)

-- what an accept gives has the next nonce
abbrev pub IsArrival : Plays → ℕ → Option Arrival → Type 0
IsArrival play used (Some arrival) = IsNonce play.released used play.arrived (Some arrival.nonce)
IsArrival play used None = IsNonce play.released used play.arrived None

-- what is still to be given of a link: what the released steps have of it, after what was given
abbrev pub left : List Scripted → ℕ → ℕ → List (Option ℕ)
left steps link given = drop given (due link steps)

-- whether it is next that a connection stands
abbrev pub stands_next : List (Option ℕ) → Bool
stands_next [] = false
stands_next (None ∷ rest) = true
stands_next (Some byte ∷ rest) = false

-- a read gives bytes from the front of what is left of a link; where nothing is left, its end; and
-- nothing yet where that is not released, or where it is next that the connection stands
abbrev pub IsFound : List Scripted → ℕ → ℕ → List ℕ → Got → Type 0
IsFound steps link given buffer (Bytes n) =
    (n ≤ length (left steps link given)) × (map Some (take n buffer) ≡ take n (left steps link given))
IsFound steps link given buffer End = (left steps link given ≡ []) × (has_end link steps ≡ true)
IsFound steps link given buffer NotYet = (stands_next (left steps link given) ≡ true)
    ⊎ ((left steps link given ≡ []) × (has_end link steps ≡ false))

-- how many bytes of a piece a link takes
abbrev pub room_for : ℕ → ℕ → ℕ → ℕ
room_for window took size = if window == 0 then size else min size (window - took)

-- a write takes what the piece has or the link has room for, and finds no room only where that is none
abbrev pub IsTaken : ℕ → ℕ → ℕ → Put → Type 0
IsTaken window took size (Took n) = n ≡ room_for window took size
IsTaken window took size NoRoom = room_for window took size ≡ 0

-- a call fails exactly where this holds
abbrev pub FailsWhere : {A : Type 0} → Bool → Result A Fault → Type 0
FailsWhere fails (Ok value) = fails ≡ false
FailsWhere fails (Err fault) = fails ≡ true

-- a call fails where this holds, and else only where memory was refused in it
abbrev pub FailsOrStarves : {A : Type 0} → Bool → ℕ → ℕ → Result A Fault → Type 0
FailsOrStarves fails refused later (Ok value) = fails ≡ false
FailsOrStarves fails refused later (Err fault) = (fails ≡ true) ⊎ Rose refused later

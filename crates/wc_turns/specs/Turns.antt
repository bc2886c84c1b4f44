-- What the loop keeps, and how it goes on from one moment to another.
use Rattle.std.specs.Prelude.{ℕ, ◌+◌, ◌-◌, ◌^◌, ◌≡◌, ◌<◌, ◌≤◌, ◌==◌, Bool, true}
use Rattle.std.specs.Prelude.{false, ◌&&◌, ◌||◌, nat_le, min, List, [], ◌∷◌, ◌++◌, length, map}
use Rattle.std.specs.Prelude.{Option, None, Some, is_some, is_none, not, ◌⊎◌, IfSome, Result, Ok, Err}
use Rattle.std.specs.Prelude.{IsTrue, All}
use Rattle.std.specs.List.{flat_map, list_any}
use Rattle.wc_text.specs.declared.names.Address.{Address}
use Rattle.wc_text.specs.declared.names.LinkId.{LinkId}
use Rattle.wc_text.specs.declared.names.Cause.{Cause}
use Rattle.wc_text.specs.declared.names.Cause.TheVariants.{Ended as CauseEnded}
use Rattle.wc_text.specs.declared.names.Cause.TheVariants.{Failed as CauseFailed, LoginFailed}
use Rattle.wc_text.specs.declared.names.Cause.TheVariants.{NoMemory, Surplus, Quit as CauseQuit}
use Rattle.wc_text.specs.declared.names.Cause.TheVariants.{Disconnected, NickTaken, BadSocket}
use Rattle.wc_outside.specs.Seen.{Seen}
use Rattle.wc_outside.specs.Faults.{NeverFall, Rose}
use Rattle.wc_outside.specs.declared.happening.Happening.{Happening}
use Rattle.wc_outside.specs.declared.happening.Happening.TheVariants.{Woke, Accepted, Read, Ended}
use Rattle.wc_outside.specs.declared.happening.Happening.TheVariants.{Failed, Connected, Refused}
use Rattle.wc_outside.specs.declared.happening.Happening.TheVariants.{ListenFailed}
use Rattle.wc_outside.specs.declared.happening.Asked.{Asked}
use Rattle.wc_outside.specs.declared.happening.Asked.TheVariants.{Connect}
use Rattle.wc_outside.specs.declared.happening.Failed.{Failed as Fault}
use Rattle.wc_core.specs.Events.{Event}
use Rattle.wc_core.specs.CoreView.{CoreView}
use Rattle.wc_core.specs.Step.{run}
use Rattle.wc_board.specs.Connections.{connection_link, is_open_at}
use Rattle.wc_servers.specs.Outs.{lines_to}
use Rattle.wc_servers.specs.Seats.{seat_link, AreSeats}
use Rattle.wc_core.specs.Served.{state_of, WereTold, Means, Distinct, KeepsSaved, outs_of, sent_to}
use Rattle.wc_core.specs.ServersKept.{is_wanted, AreNext, AreInOrder, ServersKeep}
use Rattle.wc_core.specs.State.{Act, has_end}
use Rattle.wc_core.specs.State.{Beside}
use Rattle.wc_turns.specs.declared.links.LinkState.{LinkState}
use Rattle.wc_turns.specs.declared.links.Closed.{Closed}
use Rattle.wc_turns.specs.declared.headless.Headless.{Headless}
use Rattle.wc_turns.specs.declared.turn.TurnEnd.{TurnEnd}
use Rattle.wc_turns.specs.declared.turn.TurnEnd.TheVariants.{GoOn, Quit, WaitFault, ListenFault}
use Rattle.wc_turns.specs.declared.turn.TurnEnd.TheVariants.{KeeperFault}
use Rattle.wc_outside.specs.Keyed.{at_key}
use Rattle.wc_framing.specs.declared.framing.Framing.{Framing}
use Rattle.wc_framing.specs.declared.framing.Framing.TheVariants as framing
use Rattle.wc_framing.specs.Framing.{is_socket, FramedAs}
use Rattle.wc_framing.specs.Opening.{begins}
use Rattle.wc_framing.specs.Unframed.{ReadsClose, IsBroken}
use Rattle.wc_turns.specs.Events.{bytes_on, text_in, tail_on, has_stood, has_come, clock}
use Rattle.wc_turns.specs.Events.{refused_since, socket_on, events_of, events_from, whole}
use Rattle.wc_turns.specs.Hands.{Point, Delivers}
use Rattle.wc_turns.specs.Heard.{Heard, Happened, Unframed, NotPut, happened, happenings}
use Rattle.wc_turns.specs.Heard.{SocketEnd, GoesOn, Closes, Broken}
use Rattle.wc_turns.specs.Links.{link_number, is_undrained, is_blocked, is_connecting, is_there}
use Rattle.wc_turns.specs.Links.{frames_of, is_socket_at, is_ended, IsUnkept, AreAllBut}
use Rattle.wc_turns.specs.Run.{closings, EndsAtQuit}
use Rattle.wc_turns.specs.Parties.{has_party, unsent_on, owed_to, asks_of, asks_in, is_refused}
use Rattle.wc_turns.specs.Parties.{closes_asked}
use Rattle.wc_turns.specs.Served.{ReachesEvents, MayTake}
use Rattle.wc_turns.specs.Tails.{IsTail}
use Rattle.wc_eval.specs.Verdicts.{Agrees, Stay}
use Rattle.wc_turns.specs.Goes.{Goes}

-- the framing of a client's link, which is to be closed as a WebSocket or not, is what its bytes make
-- of it
abbrev pub FramedUnless : Bool → List ℕ → List ℕ → Framing → Type 0
FramedUnless true bytes text framed = (begins bytes ≡ true) × (is_socket framed ≡ true)
FramedUnless false bytes text framed = FramedAs bytes text framed

-- The same of a client, or of a server of this name. That of a WebSocket has made this text of them,
-- and nothing whole is left to be read.
abbrev pub FramedFor : Option (List ℕ) → Bool → List ℕ → List ℕ → Framing → Type 0
FramedFor None ended bytes text framed = FramedUnless ended bytes text framed
FramedFor (Some name) ended bytes text framed = (ended ≡ false) × (framed ≡ framing.Plain)

abbrev pub IsFramed : List ℕ → List ℕ → LinkState → Type 0
IsFramed bytes text state = FramedFor state.server state.ended bytes text state.framing

-- what the frames of a link came to, if it is a WebSocket
abbrev pub frames_text : ℕ → List Heard → List ℕ
frames_text link history = flat_map (text_in link true) history

-- A WebSocket link to which these bytes came, and whose frames came to this text, has this end: a
-- close that was read, or what came is no WebSocket.
abbrev pub EndsAs : SocketEnd → List ℕ → List ℕ → Type 0
EndsAs GoesOn bytes text = Unit {0}
EndsAs Closes bytes text = ReadsClose bytes text
EndsAs Broken bytes text = IsBroken bytes text

-- what is heard of frames is of a WebSocket link, which it ends as all its bytes do
abbrev pub EndsFor : List Heard → Heard → Type 0
EndsFor before (Happened happening) = Unit {0}
EndsFor before (Unframed link bytes text end) =
    (socket_on link.0 (happenings before ++ Read link bytes ∷ []) ≡ true)
    × EndsAs end (flat_map (bytes_on link.0) (happenings before) ++ bytes)
    (frames_text link.0 before ++ text)
EndsFor before (NotPut link) = socket_on link.0 (happenings before) ≡ true

-- the same of one after another
abbrev pub EndsEach : List Heard → List Heard → Type 0
EndsEach before [] = Unit {0}
EndsEach before (heard ∷ more) = EndsFor before heard × EndsEach (before ++ heard ∷ []) more

-- what the loop keeps is what the happenings make of it: the clock, which connections stand, and which
-- ones were refused since the last wake, of which some are not listed, that have no record either
pub record AgreesWithHappenings (clocked : Option ℕ) (states : List LinkState) (used ran : ℕ)
    (refused : List LinkId) (unlisted : ℕ) (taken : List Happening) : Type 0 where
  pub clock : clocked ≡ clock taken
  -- no byte came on a link that is not used yet, nor is it told that one stands
  pub fresh : (link : ℕ) → used < link → flat_map (bytes_on link) taken ≡ []
  pub unmade : (link : ℕ) → used < link → has_stood link taken ≡ false
  -- a connection to a server is kept as one that does not stand until it is told that it does, and
  -- till then no byte came on it
  pub stood : (link : ℕ) → IfSome (at_key link_number link states)
      (λ state. state.connecting ≡ (is_some state.server && not (has_stood link taken)))
  pub unread : (link : ℕ) → is_connecting (at_key link_number link states) ≡ true →
      flat_map (bytes_on link) taken ≡ []
  pub since : AreAllBut (IsUnkept states used) refused (refused_since taken)
  pub counted : length refused + unlisted ≡ length (refused_since taken)
  pub within : length refused + unlisted ≤ used
  -- before the start, which is the first event, nothing happened, and no link is there
  pub silent : ran ≡ 0 → taken ≡ []
  pub empty : ran ≡ 0 → (link : ℕ) → at_key link_number link states ≡ None

-- what the loop keeps is what was heard makes of it: what came after the last LF of each link, how
-- its bytes are framed, and how many events were reached
pub record AgreesWithHeard (states : List LinkState) (used ran : ℕ) (taken : List Happening)
    (history : List Heard) : Type 0 where
  pub tails : (link : ℕ) → IfSome (at_key link_number link states)
      (λ state. IsTail (tail_on link history) state.tail)
  pub framed : (link : ℕ) → IfSome (at_key link_number link states)
      (IsFramed (flat_map (bytes_on link) taken) (frames_text link history))
  -- a link that came has a client, and one that was asked for a server
  pub came : (link : ℕ) → IfSome (at_key link_number link states)
      (λ state. has_come link taken ≡ is_none state.server)
  -- no link came that is not used yet, nor has it frames
  pub uncome : (link : ℕ) → used < link → has_come link taken ≡ false
  pub unframed : (link : ℕ) → used < link → frames_text link history ≡ []
  pub events : ran ≡ min (length (whole history)) (2 ^ 64 - 1)

-- where nothing more is read of a link, its client is leaving, or it has none
abbrev pub LeavesWhereEnded : List LinkState → CoreView → Type 0
LeavesWhereEnded states core = (link : ℕ) → is_ended (at_key link_number link states) ≡ true →
    is_open_at (at_key connection_link link core.connections) ≡ false

-- The links that the loop keeps are those of these sockets, and connections that were refused. Each
-- has a client or a server, also one that is leaving, and so has each connection that is still to be
-- asked for, which has the next number.
pub record AgreesOnLinks (states : List LinkState) (core : CoreView) (used : ℕ) (listening : Bool)
    (refused : List LinkId) (seen : Seen) : Type 0 where
  pub counted : used ≡ seen.used
  pub there : (link : ℕ) → seen.there link ≡ is_there (at_key link_number link states)
  pub undrained : (link : ℕ) → seen.undrained link ≡ is_undrained (at_key link_number link states)
  pub blocked : (link : ℕ) → seen.blocked link ≡ is_blocked (at_key link_number link states)
  pub listens : seen.listening ≡ listening
  pub parties : (link : ℕ) → has_party link core
      ≡ (is_some (at_key link_number link states) || is_wanted link core.servers.wanted)
  pub ended : LeavesWhereEnded states core
  -- no link has both
  pub alone : (link : ℕ) → is_some (at_key connection_link link core.connections) ≡ true →
      at_key seat_link link core.servers.seats ≡ None
  pub once : Distinct (map connection_link core.connections)
  pub seats : AreSeats core.servers
  pub order : AreInOrder core.servers
  pub apart : Distinct (map link_number states)
  -- no link above those that are used is known, nor has it a client
  pub unknown : (link : ℕ) → used < link → at_key link_number link states ≡ None
  pub clients : (link : ℕ) → used < link → at_key connection_link link core.connections ≡ None
  pub unrefused : (link : ℕ) → used < link → is_refused link refused ≡ false
  -- no client has a link that was refused
  pub spared : (link : ℕ) → is_refused link refused ≡ true →
      at_key connection_link link core.connections ≡ None
  pub next : AreNext used core.servers.wanted
  pub reached : core.servers.used ≡ used + length core.servers.wanted
  pub limited : core.servers.used ≤ 2 ^ 62

-- What the loop keeps is that of these sockets, until `/quit` is run. What was heard is what the
-- sockets gave, with what the frames of WebSocket links came to.
pub record AgreesWithSockets (headless : Headless) (seen : Seen) : Type 0 where
  pub history : List Heard
  pub spells : IsTrue seen.tells → happenings history ≡ seen.taken
  pub among : AgreesOnLinks headless.links.opened.items headless.core headless.used
      headless.listening headless.refused.items seen
  pub told : IsTrue seen.tells → headless.core.quits ≡ false →
      AgreesWithHappenings headless.clock headless.links.opened.items headless.used
      headless.ran headless.refused.items headless.unlisted seen.taken
  pub hears : IsTrue seen.tells → headless.core.quits ≡ false →
      AgreesWithHeard headless.links.opened.items headless.used headless.ran seen.taken history
  -- what is kept as a WebSocket began as one
  pub sockets : IsTrue seen.tells → (link : ℕ) →
      is_socket_at (at_key link_number link headless.links.opened.items) ≡ true →
      socket_on link seen.taken ≡ true
  -- before the start no connection is to be asked for
  pub idle : headless.ran ≡ 0 → headless.core.servers.wanted ≡ []

-- what is seen at a moment
pub record Moment : Type 0 where
  pub taken : List Happening
  pub sent : ℕ → List ℕ
  pub choked : ℕ → Bool
  -- what the sockets were asked for, and what they are still to be asked for
  pub asked : List Asked
  pub used : ℕ
  pub core : CoreView

abbrev pub moment : Headless → Seen → Moment
moment headless seen = record {
  taken = seen.taken;
  sent = seen.sent;
  choked = seen.choked;
  asked = seen.asked ++ asks_of headless.core.servers.wanted;
  used = headless.used;
  core = headless.core;
}

-- whether a happening is the failure of a link, or the refusal of its connection
abbrev pub is_failure : ℕ → Happening → Bool
is_failure link (Failed other) = other.0 == link
is_failure link (Woke moment) = false
is_failure link (Accepted other nonce) = false
is_failure link (Read other bytes) = false
is_failure link (Ended other) = false
is_failure link (Connected other) = false
is_failure link (Refused other) = other.0 == link
is_failure link ListenFailed = false

-- whether a link failed, or was refused
abbrev pub has_failed : ℕ → List Happening → Bool
has_failed link taken = list_any (is_failure link) taken

-- what is seen of one link
abbrev pub point : ℕ → Moment → Point
point link m = record {
  sent = m.sent link;
  unsent = unsent_on link m.core;
  gone = nat_le link m.used && not (has_party link m.core);
  spoiled = m.choked link || has_failed link m.taken;
}

-- a link has a client, or its number is not used yet
abbrev pub IsClients : ℕ → CoreView → Type 0
IsClients link core = (is_some (at_key connection_link link core.connections) ≡ true)
    ⊎ (core.servers.used < link)

-- a link has a server, or its number is not used yet
abbrev pub IsServers : ℕ → CoreView → Type 0
IsServers link core = (is_some (at_key seat_link link core.servers.seats) ≡ true)
    ⊎ (core.servers.used < link)

-- what these acts owe to a link that has a client at the end is for that client, and the same of
-- servers
pub record OnOneSide (old new : CoreView) (acts : List Act) : Type 0 where
  pub clients : (link : ℕ) → IsClients link new →
      IsClients link old × (lines_to link (outs_of acts) ≡ [])
  pub servers : (link : ℕ) → IsServers link new → IsServers link old × (sent_to link acts ≡ [])

-- From one moment to another the core, where these rows were told before, takes these events, of
-- which none comes after `/quit`, what it owes is handed to each link that is no WebSocket, what it
-- wants connected is asked for, and it closes these links.
pub record MomentAdvances (told : Beside) (a b : Moment) (closed : List Closed)
    (events : List Event) : Type 0 where
  pub means : Means b.core (run (state_of a.core told) events).state
  pub oracle : (run (state_of a.core told) events).state.oracle ≡ told.oracle
  pub stops : EndsAtQuit (state_of a.core told) events
  pub hands : (link : ℕ) → socket_on link b.taken ≡ false → Delivers (point link a) (point link b)
      (owed_to link (run (state_of a.core told) events).acts)
  pub sides : OnOneSide a.core b.core (run (state_of a.core told) events).acts
  pub asks : b.asked ≡ a.asked ++ asks_in (run (state_of a.core told) events).acts
  pub closes : closings (run (state_of a.core told) events).acts ≡ closed
  pub quits : b.core.quits ≡ (a.core.quits || has_end (run (state_of a.core told) events).acts)

-- whether a happening gives bytes, a client, or a connection that stands
abbrev pub gives : Happening → Bool
gives (Read link bytes) = true
gives (Accepted link nonce) = true
gives (Woke moment) = false
gives (Ended link) = false
gives (Failed link) = false
gives (Connected link) = true
gives (Refused link) = false
gives ListenFailed = false

abbrev pub GivesNothing : List Happening → Type 0
GivesNothing more = list_any gives more ≡ false

-- one of these has the last of these events, and after it nothing is read and no client comes
pub record QuitsWithin (before more : List Heard) (events : List Event) : Type 0 where
  pub front : List Heard
  pub heard : Heard
  pub back : List Heard
  pub same : more ≡ front ++ heard ∷ back
  pub within : length (events_from before front) < length events
  pub silent : GivesNothing (happenings back)

-- from one moment to another the core takes the events that what is heard more adds, as far as they
-- are reached, unless some growth was refused; after the one that ran `/quit` nothing is read
pub record CoreTakes (history : List Heard) (a b : Moment) (ran ran' : ℕ) (closed : List Closed)
    (more : List Heard) : Type 0 where
  pub events : List Event
  pub reaches : ReachesEvents a.core.quits b.core.quits ran ran' (events_from history more) events
  pub rises : a.core.starved ≤ b.core.starved
  pub verdicts : Stay a.core.verdicts b.core.verdicts
  -- whatever memory is refused
  pub goes : Goes events a.core b.core
  pub advances : b.core.starved ≡ a.core.starved → a.core.starved < 2 ^ 64 - 1 → (told : Beside) →
      WereTold a.core told → Agrees told.oracle b.core.verdicts →
      MomentAdvances told a b closed events
  pub silent : a.core.quits ≡ true → GivesNothing (happenings more)
  -- a WebSocket link ends as its bytes have it
  pub ends : EndsEach history more
  pub last : b.core.starved ≡ a.core.starved → a.core.starved < 2 ^ 64 - 1 → (told : Beside) →
      WereTold a.core told → Agrees told.oracle b.core.verdicts → a.core.quits ≡ false →
      b.core.quits ≡ true → QuitsWithin history more events

-- between two moments this happened
pub record HasGained (before after : Seen) (happening : Happening) : Type 0 where
  pub front : List Happening
  pub rest : List Happening
  pub taken : after.taken ≡ before.taken ++ (front ++ happening ∷ rest)

-- bytes came on a WebSocket link between two moments
pub record GainsFrames (link : ℕ) (before after : Seen) : Type 0 where
  pub bytes : List ℕ
  pub gained : HasGained before after (Read (record { 0 = link }) bytes)
  pub socket : socket_on link after.taken ≡ true

-- A link is closed for a cause only where what happened between two moments has it. A WebSocket link
-- ends also by what came on it.
abbrev pub CausedBy : Cause → ℕ → Seen → Seen → Type 0
CausedBy CauseEnded link before after = IsTrue after.tells →
    HasGained before after (Ended (record { 0 = link })) ⊎ GainsFrames link before after
CausedBy CauseFailed link before after = Rose before.faults.links after.faults.links
    × (IsTrue after.tells → HasGained before after (Failed (record { 0 = link })))
CausedBy LoginFailed link before after = IsTrue after.tells → (bytes : List ℕ)
    × HasGained before after (Read (record { 0 = link }) bytes)
CausedBy Surplus link before after = IsTrue after.tells → (nonce : List ℕ)
    × HasGained before after (Accepted (record { 0 = link }) nonce)
CausedBy NoMemory link before after = Unit {0}
CausedBy CauseQuit link before after = IsTrue after.tells → (bytes : List ℕ)
    × HasGained before after (Read (record { 0 = link }) bytes)
CausedBy Disconnected link before after = ⊥
CausedBy NickTaken link before after = ⊥
CausedBy BadSocket link before after = IsTrue after.tells → socket_on link after.taken ≡ true

abbrev pub IsCaused : Seen → Seen → Closed → Type 0
IsCaused before after closed = CausedBy closed.cause closed.link.0 before after

-- a close may be that of a server: its link has one at the first of two moments, or its number came
-- to be drawn between them, and no client came on it
pub record IsOfServer (old new : Headless) (before after : Seen) (closed : Closed) : Type 0 where
  pub side : IsServers closed.link.0 old.core
  pub drawn : closed.link.0 ≤ new.core.servers.used
  pub uncome : IsTrue after.tells → (gained : List Happening) →
      after.taken ≡ before.taken ++ gained → has_come closed.link.0 gained ≡ false

-- A close has its cause between two moments, or it is that of a server. For what the link of a server
-- is closed is said by the closes of what is run, in order.
abbrev pub HasCause : Headless → Headless → Seen → Seen → Closed → Type 0
HasCause old new before after closed = IsCaused before after closed
    ⊎ IsOfServer old new before after closed

-- whether a happening is the return of a wait, or the failure of the listener
abbrev pub is_wake : Happening → ℕ
is_wake (Woke moment) = 1
is_wake (Accepted link nonce) = 0
is_wake (Read link bytes) = 0
is_wake (Ended link) = 0
is_wake (Failed link) = 0
is_wake (Connected link) = 0
is_wake (Refused link) = 0
is_wake ListenFailed = 0

abbrev pub is_listen_fault : Happening → ℕ
is_listen_fault (Woke moment) = 0
is_listen_fault (Accepted link nonce) = 0
is_listen_fault (Read link bytes) = 0
is_listen_fault (Ended link) = 0
is_listen_fault (Failed link) = 0
is_listen_fault (Connected link) = 0
is_listen_fault (Refused link) = 0
is_listen_fault ListenFailed = 1

-- how many waits returned, and how often the listener failed
abbrev pub wake_count : List Happening → ℕ
wake_count [] = 0
wake_count (happening ∷ happenings) = is_wake happening + wake_count happenings

abbrev pub listen_faults : List Happening → ℕ
listen_faults [] = 0
listen_faults (happening ∷ happenings) = is_listen_fault happening + listen_faults happenings

-- how often the listener failed, by what a call answers
abbrev pub faults_of : {A : Type 0} → Result A Fault → ℕ
faults_of (Ok done) = 0
faults_of (Err fault) = 1

-- how many waits returned in a turn, and how often the listener failed
abbrev pub waits_then : TurnEnd → ℕ
waits_then WaitFault = 0
waits_then GoOn = 1
waits_then Quit = 1
waits_then ListenFault = 1
waits_then KeeperFault = 1

abbrev pub faults_then : TurnEnd → ℕ
faults_then ListenFault = 1
faults_then GoOn = 0
faults_then Quit = 0
faults_then WaitFault = 0
faults_then KeeperFault = 0

-- the links that were closed in a turn so far, and those whose clients or servers are leaving
abbrev pub closed_so_far : Headless → List Closed
closed_so_far headless = headless.links.closed.items ++ closes_asked headless.core

-- a close is one of these
abbrev pub IsAmong : Closed → List Closed → Type 0
IsAmong closed [] = ⊥
IsAmong closed (one ∷ others) = (closed ≡ one) ⊎ IsAmong closed others

-- a close was there at the first of two moments, or what happened between has its cause
abbrev pub HasReason : Headless → Headless → Seen → Seen → Closed → Type 0
HasReason old new before after closed = IsAmong closed (closed_so_far old)
    ⊎ HasCause old new before after closed

-- a loop goes on over `waits` returned waits and `faults` failures of the listener: what it keeps
-- goes on standing for the happenings, and the core takes the events that they add. Within one turn
-- it lists what it closes, in order unless some growth was refused.
pub record LoopStep (within : Bool) (waits faults : ℕ) (old new : Headless) (before after : Seen) :
    Type 0 where
  pub turns : old.turns + waits < 2 ^ 64 → new.turns ≡ old.turns + waits
  pub counts : NeverFall before.faults after.faults
  pub told : IsTrue after.tells → IsTrue before.tells
  -- nothing but connections is asked for
  pub connects : List Address
  pub asked : IsTrue after.tells → after.asked ≡ before.asked ++ map Connect connects
  pub wakes : IsTrue after.tells → wake_count after.taken ≡ wake_count before.taken + waits
  pub listens : IsTrue after.tells → listen_faults after.taken ≡ listen_faults before.taken + faults
  pub gained : List Happening
  pub taken : IsTrue after.tells → after.taken ≡ before.taken ++ gained
  -- what is heard, with what the frames of WebSocket links came to
  pub heard : List Heard
  pub spells : happenings heard ≡ gained
  pub rises : old.core.starved ≤ new.core.starved
  pub closed : List Closed
  pub grows : within ≡ true → AgreesWithSockets old before →
      new.core.starved ≡ old.core.starved → old.core.starved < 2 ^ 64 - 1 →
      closed_so_far new ≡ closed_so_far old ++ closed
  -- each close was there before, or has its cause between
  pub causes : AgreesWithSockets old before →
      All (HasReason old new before after) (closed_so_far new)
  -- no server comes to a link whose number is used
  pub sides : AgreesWithSockets old before → (link : ℕ) → IsServers link new.core →
      IsServers link old.core
  -- a client that comes has a new number, and no server
  pub reached : AgreesWithSockets old before → old.core.servers.used ≤ new.core.servers.used
  pub comes : AgreesWithSockets old before → (link : ℕ) → has_come link gained ≡ true →
      (old.core.servers.used < link) × (IsServers link new.core → ⊥)
  pub quits : old.core.quits ≡ true → new.core.quits ≡ true
  pub saves : within ≡ true → AgreesWithSockets old before → KeepsSaved old.core new.core
  pub agrees : AgreesWithSockets old before → AgreesWithSockets new after
  -- it comes after what was heard before
  pub adds : (s : AgreesWithSockets old before) → (agrees s).history ≡ s.history ++ heard
  pub goes : IsTrue after.tells → (s : AgreesWithSockets old before) →
      CoreTakes s.history (moment old before) (moment new after) old.ran new.ran closed heard

-- how often the listener failed in a turn that ended so; where the keeper failed, it may have failed
-- before
abbrev pub FaultsIn : TurnEnd → ℕ → Type 0
FaultsIn KeeperFault faults = faults ≤ 1
FaultsIn end faults = faults ≡ faults_then end

-- a turn that ended so
pub record TurnStep (end : TurnEnd) (old new : Headless) (before after : Seen) : Type 0 where
  pub faults : ℕ
  pub fits : FaultsIn end faults
  pub step : LoopStep false (waits_then end) faults old new before after

-- One thing is heard, before which `/quit` was not run. Clients and servers may be leaving after it,
-- and connections are to be asked for after those that were.
pub record TakesHappening (old new : Headless) (heard : Heard) : Type 0 where
  pub turns : new.turns ≡ old.turns
  pub closed : new.links.closed.items ≡ old.links.closed.items
  pub used : new.used ≡ old.used
  pub listening : new.listening ≡ old.listening
  pub refused : new.refused.items ≡ old.refused.items
  pub numbers : map link_number new.links.opened.items ≡ map link_number old.links.opened.items
  pub undrained : (link : ℕ) → is_undrained (at_key link_number link new.links.opened.items)
      ≡ is_undrained (at_key link_number link old.links.opened.items)
  pub blocked : (link : ℕ) → is_blocked (at_key link_number link new.links.opened.items)
      ≡ is_blocked (at_key link_number link old.links.opened.items)
  pub there : (link : ℕ) → is_there (at_key link_number link new.links.opened.items)
      ≡ is_there (at_key link_number link old.links.opened.items)
  pub clients : map connection_link new.core.connections ≡ map connection_link old.core.connections
  pub servers : ServersKeep old.core.servers new.core.servers
  pub ended : Distinct (map connection_link old.core.connections) →
      LeavesWhereEnded old.links.opened.items old.core →
      LeavesWhereEnded new.links.opened.items new.core
  -- where no event was reached yet, no connection came to be wanted
  pub idle : new.ran ≡ 0 → new.core.servers.wanted ≡ old.core.servers.wanted
  pub told : (taken : List Happening) →
      ((link : ℕ) → old.used < link → at_key link_number link old.links.opened.items ≡ None) →
      new.core.quits ≡ false
      → AgreesWithHappenings old.clock old.links.opened.items old.used old.ran old.refused.items
      old.unlisted taken →
      AgreesWithHappenings new.clock new.links.opened.items new.used new.ran new.refused.items
      new.unlisted (taken ++ happened heard)
  pub hears : (taken : List Happening) (history : List Heard) → happenings history ≡ taken →
      ((link : ℕ) → old.used < link → at_key link_number link old.links.opened.items ≡ None) →
      new.core.quits ≡ false
      → AgreesWithHeard old.links.opened.items old.used old.ran taken history →
      AgreesWithHeard new.links.opened.items new.used new.ran (taken ++ happened heard)
      (history ++ heard ∷ [])
  pub takes : (taken : List Happening) (history : List Heard) → happenings history ≡ taken →
      AgreesWithHeard old.links.opened.items old.used old.ran taken history
      → MayTake old.core new.core old.ran new.ran (events_of history heard)
  pub ends : (taken : List Happening) (history : List Heard) → happenings history ≡ taken →
      AgreesWithHeard old.links.opened.items old.used old.ran taken history → EndsFor history heard
  -- what is kept as a WebSocket was so before, or began as one by now
  pub sockets : (taken : List Happening) (history : List Heard) → happenings history ≡ taken →
      AgreesWithHeard old.links.opened.items old.used old.ran taken history → (link : ℕ) →
      is_socket_at (at_key link_number link new.links.opened.items) ≡ true →
      socket_on link (taken ++ happened heard) ≡ true

-- what a read of a link gave is taken
pub record TakesRead (old new : Headless) (link : LinkId) (bytes : List ℕ) : Type 0 where
  pub heard : Heard
  pub read : happened heard ≡ Read link bytes ∷ []
  pub takes : TakesHappening old new heard

-- what is still to be sent on a link: the frames of a WebSocket, or what is owed to who is at it
abbrev pub left_as : Option (List ℕ) → List ℕ → List ℕ
left_as None unsent = unsent
left_as (Some frames) unsent = frames

abbrev pub left_on : ℕ → Headless → List ℕ
left_on link headless =
    left_as (frames_of (at_key link_number link headless.links.opened.items))
    (unsent_on link headless.core)

-- who is leaving is settled: what it is owed is sent, or there is no room for it, or its link failed
abbrev pub IsSettled : ℕ → Headless → Seen → Type 0
IsSettled link headless seen = IsTrue seen.tells → seen.blocked link ≡ false →
    has_failed link seen.taken ≡ false → left_on link headless ≡ []

-- the links that a turn closed are, in order, those that the core closes at the events that the
-- turn added, unless some growth was refused
pub record ClosesExactly (old new : Headless) (before after : Seen) : Type 0 where
  pub history : List Heard
  pub spells : IsTrue before.tells → happenings history ≡ before.taken
  pub heard : List Heard
  pub taken : IsTrue after.tells → after.taken ≡ before.taken ++ happenings heard
  -- a WebSocket link ends as its bytes have it
  pub ends : IsTrue after.tells → EndsEach history heard
  pub events : List Event
  pub reaches : IsTrue after.tells → ReachesEvents old.core.quits new.core.quits old.ran new.ran
      (events_from history heard) events
  pub closed : IsTrue after.tells → new.core.starved ≡ old.core.starved →
      old.core.starved < 2 ^ 64 - 1 → (told : Beside) → WereTold old.core told →
      Agrees told.oracle new.core.verdicts → new.links.closed.items ≡ closings (run (state_of old.core told) events).acts

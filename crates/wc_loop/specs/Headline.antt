-- What a whole run hands to its clients and its servers.
use Rattle.std.specs.Prelude.{ℕ, ◌≡◌, ◌≤◌, ◌||◌, Bool, true, false, not, List, [], ◌∷◌, ◌++◌}
use Rattle.std.specs.Prelude.{Option, Some, None, IfSome}
use Rattle.std.specs.Prelude.{IsTrue, is_some, IfOk, Ok}
use Rattle.wc_outside.specs.Seen.{Seen}
use Rattle.wc_turns.specs.declared.headless.Headless.{Headless}
use Rattle.wc_outside.specs.Keyed.{at_key}
use Rattle.wc_options.specs.Config.{config_of}
use Rattle.wc_options.specs.Options.{OptionsValue}
use Rattle.wc_core.specs.Limits.{most_lines, port_of}
use Rattle.wc_turns.specs.Hands.{IsFrontOf}
use Rattle.wc_turns.specs.Links.{link_number}
use Rattle.wc_turns.specs.Run.{up_to_quit}
use Rattle.wc_core.specs.Events.{Event}
use Rattle.wc_core.specs.Fitted.{AreShown}
use Rattle.wc_core.specs.State.{State, first_state, has_end}
use Rattle.wc_core.specs.Step.{client_link, run}
use Rattle.wc_core.specs.Served.{Means, state_of, sent_to, outs_of}
use Rattle.wc_servers.specs.Outs.{lines_to}
use Rattle.wc_servers.specs.Seats.{ServerSeat, server_link, unsent_on as server_unsent_on}
use Rattle.wc_servers.specs.Seats.{no_servers}
use Rattle.wc_outside.specs.declared.happening.Asked.TheVariants.{Listen}
use Rattle.wc_loop.specs.Words.{Opening}
use Rattle.wc_turns.specs.Parties.{owed_to, asks_in}
use Rattle.wc_board.specs.Connections.{unsent_on}
use Rattle.wc_session.specs.declared.client.Client.{Client}
use Rattle.wc_mirror_laws.specs.Held.{HeldPart}
use Rattle.wc_mirror_laws.specs.Bytes.{ShowsPart}
use Rattle.wc_mirror_laws.specs.Settled.{SettledBy, IsLimited}
use Rattle.wc_turns.specs.Events.{whole, socket_on}
use Rattle.wc_turns.specs.Heard.{Heard, happenings}
use Rattle.wc_turns.specs.Served.{ReachesEvents}
use Rattle.wc_turns.specs.Turns.{moment, point, QuitsWithin, EndsEach}
use Rattle.wc_core.specs.State.{beside}
use Rattle.wc_eval.specs.Verdicts.{Oracle, Agrees}
use Rattle.wc_core.specs.CoreView.{CoreView}
use Rattle.wc_turns.specs.Goes.{Goes}

-- the state before the start, where texts are judged so
abbrev pub state_before : Oracle → OptionsValue → Opening → State
state_before oracle options opening =
    record (first_state oracle options (most_lines options) opening.commands) {
      connects = not opening.holds;
    }

-- the state of a loop whose servers are not connected by themselves, where that is held back
abbrev pub held_if : Bool → Headless → Headless
held_if true headless = record headless { core = record headless.core { connects = false } }
held_if false headless = headless

-- whether a link has a client or a server
abbrev pub has_party_in : ℕ → State → Bool
has_party_in link state = is_some (at_key client_link link state.clients)
    || is_some (at_key server_link link state.servers)

-- The core means the state of the run over the events that were reached, from this one on; what is
-- sent and then unsent on each open link that is no WebSocket is what the run owes; what was sent on
-- a closed one is a front of that, all of it unless there was no room as it was closed, or it failed;
-- and the sockets were asked for what the run wants connected. The events are those of what was
-- heard: what the sockets gave, with what the frames of WebSocket links came to.
pub record HandsOut (first : State) (seen : Seen) (last : Headless) : Type 0 where
  pub history : List Heard
  pub spells : happenings history ≡ seen.taken
  pub events : List Event
  pub reaches : ReachesEvents false last.core.quits 0 last.ran (whole history) events
  -- a WebSocket link ends as its bytes have it
  pub sockets : EndsEach [] history
  -- they are all events, or end with the one that ran `/quit`
  pub ends : events ≡ up_to_quit first (whole history)
  -- after that one nothing is read, and no client comes
  pub silent : last.core.quits ≡ true → QuitsWithin [] history events
  pub means : Means last.core (run first events).state
  pub quits : last.core.quits ≡ has_end (run first events).acts
  pub links : (link : ℕ) → is_some (at_key link_number link last.links.opened.items)
      ≡ has_party_in link (run first events).state
  pub opened : (link : ℕ) (client : Client) → 1 ≤ link → socket_on link seen.taken ≡ false →
      at_key client_link link (run first events).state.clients ≡ Some client
      → seen.sent link ++ unsent_on link last.core.connections
      ≡ sent_to link (run first events).acts
  pub served : (link : ℕ) (seat : ServerSeat) → 1 ≤ link →
      at_key server_link link (run first events).state.servers ≡ Some seat
      → seen.sent link ++ server_unsent_on link last.core.servers.seats
      ≡ lines_to link (outs_of (run first events).acts)
  pub closed : (link : ℕ) → 1 ≤ link → link ≤ seen.used → socket_on link seen.taken ≡ false →
      has_party_in link (run first events).state ≡ false
      → IsFrontOf (owed_to link (run first events).acts) (point link (moment last seen))
  -- what was asked for is the listener, and then what the run wants connected
  pub port : ℕ
  pub asked : seen.asked ≡ Listen port ∷ asks_in (run first events).acts

-- The same of a run that begins so, where the sockets and the keeper tell what they hold and no growth
-- was refused: whatever is thought of texts that were not judged as patterns.
abbrev pub Headline : Opening → Option (List ℕ) → Seen → Headless → Type 0
Headline opening contents seen last =
    IfSome contents (λ configuration. IfOk (config_of configuration)
    (λ options. IsTrue seen.tells → last.core.starved ≡ 0 →
    (oracle : Oracle) → Agrees oracle last.core.verdicts →
    HandsOut (state_before oracle options opening) seen last))

-- Where that is so, each client whose link is no WebSocket and that settled by the dump of a part,
-- the lines of all buffers, the buffers in their groups or the nicklists, has exactly this part of
-- what the core holds, by the bytes that were sent to it and those that are unsent. Of nicklists it
-- has the rows that the run last told, which the core knows by what was touched since then. One that asked
-- for the events of lines that went keeps no limit of lines of its own; one that never did keeps that of
-- the world, and then the limit was never changed.
abbrev pub ClientsHoldDumps : Opening → Option (List ℕ) → Seen → Headless → Type 0
ClientsHoldDumps opening contents seen last =
    IfSome contents (λ configuration. IfOk (config_of configuration) (λ options.
    (oracle : Oracle) (handed : HandsOut (state_before oracle options opening) seen last) (which : HeldPart)
    (limit : Option ℕ) (link : ℕ) (id : List ℕ) → 1 ≤ link → socket_on link seen.taken ≡ false →
    SettledBy limit which link id (state_before oracle options opening) handed.events
    → IsLimited limit last.core.world
    → ShowsPart which limit id (seen.sent link ++ unsent_on link last.core.connections)
    (state_of last.core
    (beside (run (state_before oracle options opening) handed.events).state))))

-- There each line of each buffer has the flag that the filters of the end give it.
abbrev pub LinesAreShown : Opening → Option (List ℕ) → Seen → Headless → Type 0
LinesAreShown opening contents seen last =
    IfSome contents (λ configuration. IfOk (config_of configuration) (λ options.
    (oracle : Oracle) → HandsOut (state_before oracle options opening) seen last
    → AreShown last.core.filters last.core.world))

-- What the core came to, whatever memory was refused: the events that were reached were taken in
-- order, each done whole or cut short, and nothing else changed its state but losses that no event
-- tells of.
pub record CameBy (opening : Opening) (options : OptionsValue) (seen : Seen) (last : Headless) :
    Type 0 where
  pub first : CoreView
  pub means : (oracle : Oracle) → Means first (state_before oracle options opening)
  pub history : List Heard
  pub spells : happenings history ≡ seen.taken
  pub events : List Event
  pub reaches : ReachesEvents false last.core.quits 0 last.ran (whole history) events
  pub goes : Goes events first last.core

-- the same of a run that begins so, where the sockets and the keeper tell what they hold
abbrev pub TakesEach : Opening → Option (List ℕ) → Seen → Headless → Type 0
TakesEach opening contents seen last =
    IfSome contents (λ configuration. IfOk (config_of configuration)
    (λ options. IsTrue seen.tells → CameBy opening options seen last))

-- a state and a port that a configuration sets
pub record IsConfigured (opening : Opening) (headless : Headless) (port : ℕ)
    (configuration : List ℕ) : Type 0 where
  pub options : OptionsValue
  pub set : config_of configuration ≡ Ok options
  pub means : (oracle : Oracle) → Means headless.core (state_before oracle options opening)
  pub port_set : port ≡ port_of options

-- a state before the first turn
pub record IsFirst (headless : Headless) : Type 0 where
  pub connections : headless.core.connections ≡ []
  pub quits : headless.core.quits ≡ false
  pub links : headless.links.opened.items ≡ []
  pub starved : headless.core.starved ≡ 0
  pub clock : headless.clock ≡ None
  pub used : headless.used ≡ 0
  pub listening : headless.listening ≡ false
  pub ran : headless.ran ≡ 0
  pub turns : headless.turns ≡ 0
  pub closed : headless.links.closed.items ≡ []
  pub saved : headless.core.saved ≡ None
  pub unwritten : headless.core.unwritten ≡ false
  pub refused : headless.refused.items ≡ []
  pub unlisted : headless.unlisted ≡ 0
  pub servers : headless.core.servers ≡ no_servers

-- sockets of which nothing was taken
pub record NothingTaken (seen : Seen) : Type 0 where
  pub used : seen.used ≡ 0
  pub there : (link : ℕ) → seen.there link ≡ false
  pub undrained : (link : ℕ) → seen.undrained link ≡ false
  pub listening : seen.listening ≡ false
  pub blocked : (link : ℕ) → seen.blocked link ≡ false
  pub taken : IsTrue seen.tells → seen.taken ≡ []
  pub sent : IsTrue seen.tells → (link : ℕ) → seen.sent link ≡ []

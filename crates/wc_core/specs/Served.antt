-- How the core follows what it is to do.
use Rattle.std.specs.Prelude.{◌≡◌, ℕ, ◌-◌, ◌^◌, ◌<◌, ◌≤◌}
use Rattle.std.specs.Prelude.{true, false, ◌||◌, ◌⊎◌, IfSome, if◌then◌else◌, ◌==◌, List, []}
use Rattle.std.specs.Prelude.{◌∷◌, ◌++◌, map, Option, Some, None, IsSome}
use Rattle.wc_text.specs.declared.names.Cause.{Cause}
use Rattle.wc_text.specs.declared.names.Cause.TheVariants.{NoMemory}
use Rattle.wc_outside.specs.Keyed.{at_key}
use Rattle.wc_objects.specs.declared.object.WireMessage.{WireMessage}
use Rattle.std.specs.Str.{IsUtf8}
use Rattle.wc_session.specs.declared.outcome.Outcome.{Outcome}
use Rattle.wc_session.specs.declared.outcome.Outcome.TheVariants as outcome
use Rattle.wc_session.specs.declared.client.Client.{Client}
use Rattle.wc_session.specs.Sending.{spelling}
use Rattle.wc_core.specs.BoardSteps.{board_of, BoardSteps}
use Rattle.wc_core.specs.CoreView.{CoreView}
use Rattle.wc_board.specs.declared.connection.Connection.{Connection}
use Rattle.wc_board.specs.Connections.{connection_link, is_open, unsent_on, leaving_on}
use Rattle.wc_board.specs.Served.{StaysOrStarves}
use Rattle.wc_board.specs.Told.{told_of, AreTold}
use Rattle.wc_eval.specs.Verdicts.{Agrees, Stay}
use Rattle.wc_servers.specs.Outs.{ServersFollow}
use Rattle.wc_servers.specs.Seats.{open_of, used_up}
use Rattle.wc_core.specs.ServersKept.{ServersKeep, LeaveInOrder}
use Rattle.wc_core.specs.State.{State, Beside, beside, Act, Sends, Closes, Serves, Quits, Stepped}
use Rattle.wc_core.specs.State.{has_end}
pub use Rattle.wc_core.specs.State.{outs_by, outs_of}

abbrev pub links_of : CoreView → List ℕ
links_of core = map connection_link core.connections

-- the clients that are not leaving
abbrev pub clients_of : List Connection → List Client
clients_of [] = []
clients_of (connection ∷ connections) = if is_open connection
    then connection.session.client ∷ clients_of connections else clients_of connections

-- the state that the core means where these rows were told, and texts are judged so
abbrev pub state_of : CoreView → Beside → State
state_of core told = record {
  options = core.options;
  clients = clients_of core.connections;
  world = core.world;
  told = told.rows;
  moment = core.moment;
  commands = core.commands;
  saved = core.saved;
  hotlist = core.hotlist;
  filters = core.filters;
  servers = open_of core.servers.seats;
  used = core.servers.used;
  connects = core.connects;
  oracle = told.oracle;
}

-- what may be so of each core: its rows were told, and no text is a pattern
abbrev pub plain_beside : CoreView → Beside
plain_beside core = record { rows = core.world.nicks; oracle = λ text. false }

-- these rows were told, by what was touched since then
abbrev pub WereTold : CoreView → Beside → Type 0
WereTold core told = AreTold core.world core.pending (told_of told.rows)

-- The core means a state: but for the rows that were told and the oracle it has all of it, and the
-- rows are known by what was touched.
pub record Means (core : CoreView) (state : State) : Type 0 where
  pub same : state ≡ state_of core (beside state)
  pub told : WereTold core (beside state)

-- ---- what the acts do to a link

abbrev pub messages_by : ℕ → Act → List WireMessage
messages_by link (Sends to m) = if to == link then m ∷ [] else []
messages_by link (Closes to cause) = []
messages_by link (Serves out) = []
messages_by link Quits = []

-- the messages for the client of a link
abbrev pub messages_to : ℕ → List Act → List WireMessage
messages_to link [] = []
messages_to link (act ∷ acts) = messages_by link act ++ messages_to link acts

abbrev pub sent_by : ℕ → Act → List ℕ
sent_by link (Sends to m) = if to == link then spelling m else []
sent_by link (Closes to cause) = []
sent_by link (Serves out) = []
sent_by link Quits = []

-- the bytes for the client of a link
abbrev pub sent_to : ℕ → List Act → List ℕ
sent_to link [] = []
sent_to link (act ∷ acts) = sent_by link act ++ sent_to link acts

abbrev pub or_else : Option Cause → Option Cause → Option Cause
or_else None other = other
or_else (Some cause) other = Some cause

abbrev pub close_by : ℕ → Act → Option Cause
close_by link (Sends to m) = None
close_by link (Closes to cause) = if to == link then Some cause else None
close_by link (Serves out) = None
close_by link Quits = None

-- why the client of a link is first told to leave, if it is
abbrev pub close_of : ℕ → List Act → Option Cause
close_of link [] = None
close_of link (act ∷ acts) = or_else (close_by link act) (close_of link acts)

-- ---- what is done

-- no number of the list is this one
abbrev pub Absent : ℕ → List ℕ → Type 0
Absent n [] = Unit {0}
Absent n (m ∷ ms) = (m ≡ n → ⊥) × Absent n ms

abbrev pub Distinct : List ℕ → Type 0
Distinct [] = Unit {0}
Distinct (n ∷ ns) = Absent n ns × Distinct ns

-- The core after a step: it means the state that the step comes to, the oracle is the same, the bytes
-- for each client come after its unsent ones, the clients that the acts close are leaving, and what
-- goes out for servers is put where it waits, in order.
pub record Follows (told : Beside) (old new : CoreView) (stepped : Stepped) : Type 0 where
  pub means : Means new stepped.state
  pub oracle : stepped.state.oracle ≡ told.oracle
  pub bytes : (link : ℕ) → unsent_on link new.connections ≡ unsent_on link old.connections
      ++ sent_to link stepped.acts
  pub leaving : (link : ℕ) → leaving_on link new.connections
      ≡ or_else (leaving_on link old.connections) (close_of link stepped.acts)
  pub quits : new.quits ≡ (old.quits || has_end stepped.acts)
  pub servers : ServersFollow old.servers new.servers (outs_of stepped.acts)
  pub parts : LeaveInOrder old.servers new.servers (outs_of stepped.acts)

-- the same, or as the acts close it
abbrev pub LeavesBy : Option Cause → Option Cause → Option Cause → Type 0
LeavesBy before closes after = (after ≡ or_else before closes) ⊎ StaysOrStarves before after

-- nothing was saved, or the text that was saved last is to be written
abbrev pub KeepsSaved : CoreView → CoreView → Type 0
KeepsSaved old new = ((new.unwritten ≡ old.unwritten) × (new.saved ≡ old.saved))
    ⊎ ((new.unwritten ≡ true) × IsSome new.saved)

-- the text that is to be written, if one is
abbrev pub unwritten_of : CoreView → Option (List ℕ)
unwritten_of core = if core.unwritten then core.saved else None

-- what holds also where memory was refused: what became of the board are whole things, each change
-- told to all who stay, the same links have a client, a client that is leaving stays as it is, servers
-- come as they were begun and none goes, what was saved is not lost, and each verdict stays
pub record KeepsClients (old new : CoreView) : Type 0 where
  pub board : BoardSteps (board_of old) (board_of new)
  pub rises : old.starved ≤ new.starved
  pub links : links_of new ≡ links_of old
  pub kept : (link : ℕ) → IsSome (leaving_on link old.connections) →
      at_key connection_link link new.connections ≡ at_key connection_link link old.connections
  pub saves : KeepsSaved old new
  pub servers : ServersKeep old.servers new.servers
  pub verdicts : Stay old.verdicts new.verdicts

-- nothing but the buffers, the touches of their nicklists, clients, the hotlist, and the counts of want
-- of memory becomes another one
abbrev pub ChangesBuffers : CoreView → CoreView → Type 0
ChangesBuffers old new = new ≡ record old {
  world = new.world;
  pending = new.pending;
  connections = new.connections;
  hotlist = new.hotlist;
  starved = new.starved;
  cuts = new.cuts;
}

-- nor does anything but these and servers
abbrev pub ChangesServers : CoreView → CoreView → Type 0
ChangesServers old new = new ≡ record old {
  world = new.world;
  pending = new.pending;
  connections = new.connections;
  hotlist = new.hotlist;
  servers = new.servers;
  starved = new.starved;
  cuts = new.cuts;
}

-- The step of the state that the core meant where these rows were told is done, unless some growth
-- was refused: that of each oracle that agrees with the verdicts that the core holds after it. Who
-- begins to leave does so for the cause that the step's acts give, or for want of memory.
pub record FollowsUnlessStarved (told : Beside) (old new : CoreView) (stepped : Stepped) :
    Type 0 where
  pub keeps : KeepsClients old new
  pub causes : Distinct (links_of old) → (link : ℕ) → LeavesBy (leaving_on link old.connections)
      (close_of link stepped.acts) (leaving_on link new.connections)
  pub does : new.starved ≡ old.starved → old.starved < 2 ^ 64 - 1 → Distinct (links_of old) →
      WereTold old told → Agrees told.oracle new.verdicts → Follows told old new stepped

-- whatever state the core meant before, it means the step of it after, unless some growth was
-- refused
abbrev pub Does : CoreView → CoreView → (State → Stepped) → Type 0
Does old new step = (told : Beside) → FollowsUnlessStarved told old new (step (state_of old told))

-- a refused arrival has no connection
abbrev pub refusal : ℕ → Option Cause → List Act
refusal link None = []
refusal link (Some cause) = Closes link cause ∷ []

-- the core after an arrival, which may be refused
pub record AdmitsArrivalAt (link : ℕ) (old new : CoreView) (refused : Option Cause)
    (stepped : Stepped) : Type 0 where
  pub means : Means new stepped.state
  pub bytes : (other : ℕ) → unsent_on other new.connections ≡ unsent_on other old.connections
  pub leaving : (other : ℕ) → leaving_on other new.connections ≡ leaving_on other old.connections
  pub quits : new.quits ≡ old.quits
  pub acts : stepped.acts ≡ refusal link refused

abbrev pub connections_after : List Connection → List Connection → ℕ → Option Cause → Type 0
connections_after old new link None = map connection_link new ≡ map connection_link old ++ link ∷ []
connections_after old new link (Some cause) = new ≡ old

pub record AdmitsUnlessStarved (told : Beside) (link : ℕ) (old new : CoreView)
    (refused : Option Cause) (stepped : Stepped) : Type 0 where
  pub rises : old.starved ≤ new.starved
  pub oracle : stepped.state.oracle ≡ told.oracle
  pub connections : connections_after old.connections new.connections link refused
  pub servers : new.servers ≡ used_up link old.servers
  pub kept : (other : ℕ) → IsSome (leaving_on other old.connections) →
      at_key connection_link other new.connections ≡ at_key connection_link other old.connections
  -- it is refused for the cause that the step's acts give, or for want of memory
  pub cause : IfSome refused (λ why. (stepped.acts ≡ Closes link why ∷ []) ⊎ (why ≡ NoMemory))
  pub comes : new.starved ≡ old.starved → old.starved < 2 ^ 64 - 1 → WereTold old told →
      AdmitsArrivalAt link old new refused stepped

-- the text that was typed is UTF-8
abbrev pub OutcomeUtf8 : Outcome → Type 0
OutcomeUtf8 (outcome.Input buffer text) = IsUtf8 text
OutcomeUtf8 _ = Unit {0}

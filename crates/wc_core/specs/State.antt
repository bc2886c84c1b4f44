-- What the core is, seen flat.
use Rattle.std.specs.Prelude.{ℕ, Bool, true, false, ◌||◌, List, [], ◌∷◌, ◌++◌, Option, None}
use Rattle.wc_text.specs.declared.names.Cause.{Cause}
use Rattle.wc_options.specs.Options.{OptionsValue}
use Rattle.wc_filters.specs.declared.filter.Filter.{Filter}
use Rattle.wc_hotlist.specs.declared.row.HotRow.{HotRow}
use Rattle.wc_nicklist.specs.declared.item.Row.{Row}
use Rattle.wc_model.specs.World.{World, first_world}
use Rattle.wc_objects.specs.declared.object.WireMessage.{WireMessage}
use Rattle.wc_session.specs.declared.client.Client.{Client}
use Rattle.wc_board.specs.Told.{Told, told_of}
use Rattle.wc_eval.specs.Verdicts.{Oracle}
use Rattle.wc_servers.specs.Outs.{Out}
use Rattle.wc_servers.specs.Seats.{ServerSeat}

pub record State : Type 0 where
  -- the options and their values
  pub options : OptionsValue
  -- the clients that are open, in the order in which they came
  pub clients : List Client
  -- the buffers, with their lines and nicklists
  pub world : World
  -- the rows of each buffer's nicklist as they were when they were last pushed, and none before that
  pub told : Told
  -- the last moment, in milliseconds since 1970
  pub moment : ℕ
  -- what is run at the start, as if it were typed into the core buffer
  pub commands : List (List ℕ)
  -- the text of the options that was saved last, and none before the first time
  pub saved : Option (List ℕ)
  -- which buffers had lines that were displayed since the hotlist was last cleared
  pub hotlist : List HotRow
  -- the filters, in the order of adding
  pub filters : List Filter
  -- the servers that have a link, or are to have one, in the order in which they were begun
  pub servers : List ServerSeat
  -- link numbers up to this one are used
  pub used : ℕ
  -- whether servers are connected by themselves at the start
  pub connects : Bool
  -- whether each text is a pattern, which nothing changes
  pub oracle : Oracle

-- What a state has that the core has in part: the rows that were pushed last, which it knows by what
-- was touched since then, and whether each text is a pattern, which it knows of those that it judged.
pub record Beside : Type 0 where
  pub rows : Told
  pub oracle : Oracle

abbrev pub beside : State → Beside
beside state = record { rows = state.told; oracle = state.oracle }

-- what the core asks of the loop
pub data Act : Type 0 where
  -- a message for the client of a link
  Sends : ℕ → WireMessage → Act
  Closes : ℕ → Cause → Act
  -- what is to go out for servers
  Serves : Out → Act
  -- the run is to end
  Quits : Act

abbrev pub is_end : Act → Bool
is_end (Sends to m) = false
is_end (Closes to cause) = false
is_end (Serves out) = false
is_end Quits = true

-- whether the run is to end by these acts
abbrev pub has_end : List Act → Bool
has_end [] = false
has_end (act ∷ acts) = is_end act || has_end acts

abbrev pub outs_by : Act → List Out
outs_by (Sends to m) = []
outs_by (Closes to cause) = []
outs_by (Serves out) = out ∷ []
outs_by Quits = []

-- what is to go out for servers
abbrev pub outs_of : List Act → List Out
outs_of [] = []
outs_of (act ∷ acts) = outs_by act ++ outs_of acts

-- a state, and what went out for servers by then
pub record Stage : Type 0 where
  pub state : State
  pub outs : List Out

-- what a step comes to, and the stages that it comes through, one after each change and each line for
-- a server, up to the last
pub record Stepped : Type 0 where
  pub state : State
  pub acts : List Act
  pub way : List Stage

-- no client, and the core buffer alone, whose lines are bounded, before these commands are run
abbrev pub first_state : Oracle → OptionsValue → ℕ → List (List ℕ) → State
first_state oracle options limit commands = record {
  options = options;
  clients = [];
  world = first_world limit;
  told = (first_world limit).nicks;
  moment = 0;
  commands = commands;
  saved = None;
  hotlist = [];
  filters = [];
  servers = [];
  used = 0;
  connects = true;
  oracle = oracle;
}

abbrev pub told_at : State → ℕ → List Row
told_at state buffer = told_of state.told buffer

-- What contracts see of the core.
use Rattle.std.specs.Prelude.{ℕ, Bool, List, Option}
use Rattle.wc_filters.specs.declared.filter.Filter.{Filter}
use Rattle.wc_hotlist.specs.declared.row.HotRow.{HotRow}
use Rattle.wc_nickdiff.specs.Held.{OfBuffer}
use Rattle.wc_options.specs.Options.{OptionsValue}
use Rattle.wc_model.specs.World.{World}
use Rattle.wc_board.specs.declared.connection.Connection.{Connection}
use Rattle.wc_servers.specs.Seats.{ServersView}
use Rattle.wc_eval.specs.Verdicts.{VerdictsView}

pub record CoreView : Type 0 where
  pub options : OptionsValue
  pub world : World
  -- what is kept of the rows that were touched since the last push
  pub pending : List OfBuffer
  -- the clients that are open and those that are leaving, in the order in which they came
  pub connections : List Connection
  -- the last moment, in milliseconds since 1970
  pub moment : ℕ
  -- what is run at the start
  pub commands : List (List ℕ)
  -- the text of the options that was saved last, and whether it is still to be written
  pub saved : Option (List ℕ)
  pub unwritten : Bool
  -- which buffers had lines that were displayed
  pub hotlist : List HotRow
  -- the filters, in the order of adding
  pub filters : List Filter
  -- the servers that have a link, or are to have one
  pub servers : ServersView
  -- the texts that were judged as patterns
  pub verdicts : VerdictsView
  -- whether servers are connected by themselves at the start
  pub connects : Bool
  -- how many clients were dropped, links refused and inputs cut short for want of memory
  pub starved : ℕ
  -- how many inputs were cut short for want of memory
  pub cuts : ℕ
  -- whether the run is to end
  pub quits : Bool

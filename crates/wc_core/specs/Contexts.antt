-- What requests are answered from, beside the world.
use Rattle.std.specs.Prelude.{List}
use Rattle.wc_hotlist.specs.declared.row.HotRow.{HotRow}
use Rattle.wc_options.specs.Options.{OptionsValue}
use Rattle.wc_session.specs.RequestContext.{Context}
use Rattle.wc_core.specs.CoreView.{CoreView}
use Rattle.wc_core.specs.Forms.{command_names}
use Rattle.wc_core.specs.State.{State}

-- the names of the commands are the same at all times
abbrev pub context_with : OptionsValue → List HotRow → Context
context_with options rows = record {
  options = options;
  hotlist = rows;
  commands = command_names;
}

abbrev pub context_of : State → Context
context_of state = context_with state.options state.hotlist

abbrev pub context_in : CoreView → Context
context_in core = context_with core.options core.hotlist

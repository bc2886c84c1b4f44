-- What requests are answered from, beside the world.
use Rattle.std.specs.Prelude.{ℕ, List}
use Rattle.wc_options.specs.Options.{OptionsValue}
use Rattle.wc_hotlist.specs.declared.row.HotRow.{HotRow}
use Rattle.wc_session.specs.declared.request_context.RequestContext.{RequestContext}

-- the options, the rows of the hotlist, and the names of commands without a slash
pub record Context : Type 0 where
  pub options : OptionsValue
  pub hotlist : List HotRow
  pub commands : List (List ℕ)

-- what the code is lent, as it
abbrev pub context_seen : RequestContext → Context
context_seen context = record {
  options = context.options.now;
  hotlist = context.hotlist.now;
  commands = context.commands.now;
}

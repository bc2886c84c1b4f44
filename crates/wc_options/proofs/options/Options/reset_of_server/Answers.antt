use Rattle.std.proofs.Common.{◌∙◌, sym, ap, Option, List, ℕ}
use Rattle.wc_options.specs.Kept.{Fits}
use Rattle.wc_options.specs.Options.{OptionsValue, own_at_first, with_own, no_server}
use Rattle.wc_options.specs.Table.{of_server, row_at}
use Rattle.wc_options.proofs.KeptLemmas.{first_fits}
use Rattle.wc_options.proofs.ReadLemmas.{put_reset, value_there, value_not_found}
use Rattle.wc_options.proofs.options.Options.reset_of_server.Goals as goal

pub put_own-requires-clause-fits : goal.put_own-requires-clause-fits
put_own-requires-clause-fits c = rw c.own_at_first.ensures (first_fits c.args.place c.requires)

pub returns-in-Some-clause-after : goal.returns-in-Some-clause-after
returns-in-Some-clause-after c =
    c.put_own.ensures ∙ put_reset c.args.self.now c.args.name.now c.in-Some.found c.args.place c.own_at_first.result c.own_at_first.ensures c.in-Some.ensures

pub returns-in-Some-clause-known : goal.returns-in-Some-clause-known
returns-in-Some-clause-known c none = value_there c.args.self.now c.args.name.now c.in-Some.found c.args.place c.in-Some.ensures none

pub returns-in-None-clause-unknown : goal.returns-in-None-clause-unknown
returns-in-None-clause-unknown c = sym (value_not_found c.args.self.now c.args.name.now c.args.place c.in-None.ensures)

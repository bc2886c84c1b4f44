use Rattle.std.proofs.Common.{sym, ◌∙◌, ap}
use Rattle.wc_options.proofs.TableLemmas.{place_in_globals}
use Rattle.wc_options.proofs.ReadLemmas.{server_value-none}
use Rattle.wc_options.proofs.options.Options.server_value.Goals as goal

pub global_value-requires : goal.global_value-requires
global_value-requires c = place_in_globals _ _ (sym c.in-Some-stands_for.ensures)

pub returns-in-None-stands_for : goal.returns-in-None-stands_for
returns-in-None-stands_for c =
    server_value-none c.args.self.now c.args.server.now c.args.place c.self.inside.no_address c.requires c.in-None.ensures c.in-None-stands_for.ensures c.self.invariant.no_address_is

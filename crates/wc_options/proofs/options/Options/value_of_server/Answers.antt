use Rattle.std.proofs.Common.{◌≡◌, get_or, subst}
use Rattle.wc_options.specs.Options.{OptionsValue}
use Rattle.wc_options.proofs.ReadLemmas.{value_found, value_not_found}
use Rattle.wc_options.proofs.options.Options.value_of_server.Goals as goal

pub returns-in-Some : goal.returns-in-Some
returns-in-Some c =
    let read : c.index.result.now ≡ get_or c.args.self.now.servers c.in-Some.found c.index.result.now =
    subst (λ (o : OptionsValue). c.index.result.now ≡ get_or o.servers c.in-Some.found c.index.result.now) c.self.view_is c.index.ensures in
    value_found c.args.self.now c.args.name.now c.in-Some.found c.args.place c.index.result.now c.server_value.result.now c.in-Some.ensures read c.server_value.ensures

pub returns-in-None : goal.returns-in-None
returns-in-None c = value_not_found c.args.self.now c.args.name.now c.args.place c.in-None.ensures

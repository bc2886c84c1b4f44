use Rattle.std.proofs.Common.{◌∙◌, List, sym, ap}
use Rattle.wc_options.specs.Options.{OptionsValue, ServerOptions}
use Rattle.wc_options.proofs.ReadLemmas.{made-some, made-none, removed_there, removed_none}
use Rattle.wc_options.proofs.options.Options.del_server.Goals as goal

pub returns-in-Some-clause-found : goal.returns-in-Some-clause-found
returns-in-Some-clause-found c = sym (made-some c.args.self.now c.args.name.now c.in-Some.found c.in-Some.ensures)

pub returns-in-Some-clause-after : goal.returns-in-Some-clause-after
returns-in-Some-clause-after c =
    c.remove_server.ensures
    ∙ ap (λ (servers : List ServerOptions). let o : OptionsValue = record { set = c.args.self.now.set; servers = servers } in o) (sym (removed_there c.args.self.now c.args.name.now c.in-Some.found c.in-Some.ensures))

pub returns-in-None-clause-found : goal.returns-in-None-clause-found
returns-in-None-clause-found c = sym (made-none c.args.self.now c.args.name.now c.in-None.ensures)

pub returns-in-None-clause-after : goal.returns-in-None-clause-after
returns-in-None-clause-after c =
    ap (λ (servers : List ServerOptions). let o : OptionsValue = record { set = c.args.self.now.set; servers = servers } in o) (sym (removed_none c.args.self.now c.args.name.now c.in-None.ensures))

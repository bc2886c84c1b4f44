use Rattle.wc_options.specs.Options.{OptionsValue}
use Rattle.wc_options.proofs.KeptLemmas.{stored-remove}
use Rattle.wc_options.proofs.options.Options.remove_server.Goals as goal

pub invariant_of-self : goal.invariant_of-self
invariant_of-self c =
    let options : OptionsValue = record { set = c.self.inside.set.items; servers = c.self.inside.servers.items } in
    rw (c.remove-server.ensures.items, c.remove-name.ensures.items) (stored-remove options _ _ _ c.args.found c.self.invariant)

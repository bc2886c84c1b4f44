use Rattle.std.proofs.Common.{None}
use Rattle.std.specs.Option.{option_copied}
use Rattle.wc_core.proofs.AskedLemmas.{disconnects-as}
use Rattle.wc_core.proofs.FoundLemmas.{ends-found}
use Rattle.wc_core.proofs.core_state.Core.disconnect.Goals as goal

pub returns-in-Some : goal.returns-in-Some
returns-in-Some c =
    ends-found c.args.self.now c.run_found.new.self c.args.buffer (option_copied c.args.name) c.in-Some.seat.now c.link-link.result.0 c.server.result.now c.on_disconnect-acts.result c.in-Some.ensures c.link-link.ensures c.server.ensures c.on_disconnect-acts.ensures
    c.run_found.ensures.found c.run_found.ensures.starves

pub returns-in-None : goal.returns-in-None
returns-in-None c = disconnects-as c.args.self.now c.refuse_unlinked.new.self c.args.buffer (option_copied c.args.name) None c.in-None.ensures c.refuse_unlinked.ensures

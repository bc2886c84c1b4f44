use Rattle.wc_core.proofs.NamesLaw.{known_named}
use Rattle.wc_core.proofs.laws.known_commands_are_named.Goals as goal

pub returns : goal.returns
returns c = known_named

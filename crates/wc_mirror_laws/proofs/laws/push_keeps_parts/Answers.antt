use Rattle.std.proofs.Common.{refl}
use Rattle.wc_mirror_laws.specs.Held.{Lines, Buffers, Nicks}
use Rattle.wc_mirror_laws.proofs.PushLemmas.{push_mirrors, lists_fit}
use Rattle.wc_mirror_laws.proofs.laws.push_keeps_parts.Goals as goal

pub returns-clause-lines : goal.returns-clause-lines
returns-clause-lines c = λ limit link id state part kept free follows had. push_mirrors Lines limit link id state part kept free follows had

pub returns-clause-buffers : goal.returns-clause-buffers
returns-clause-buffers c = λ limit link id state part kept free follows had. push_mirrors Buffers limit link id state part kept free follows had

pub returns-clause-nicks : goal.returns-clause-nicks
returns-clause-nicks c = λ limit link id state part kept free follows had. push_mirrors Nicks limit link id state part kept free follows had

pub returns-clause-tick : goal.returns-clause-tick
returns-clause-tick c = λ state moment. refl

pub returns-clause-fits : goal.returns-clause-fits
returns-clause-fits c = λ link state kept. lists_fit link state kept

use Rattle.wc_mirror_laws.specs.Held.{Lines, Buffers, Nicks}
use Rattle.wc_mirror_laws.proofs.ChangeLemmas.{change_mirrors}
use Rattle.wc_mirror_laws.proofs.laws.change_keeps_parts.Goals as goal

pub returns-clause-lines : goal.returns-clause-lines
returns-clause-lines c = λ limit link id state change part kept free told good plain follows before then had. change_mirrors Lines limit link id state change part kept free told good plain follows before then had

pub returns-clause-buffers : goal.returns-clause-buffers
returns-clause-buffers c = λ limit link id state change part kept free told good plain follows before then had. change_mirrors Buffers limit link id state change part kept free told good plain follows before then had

pub returns-clause-nicks : goal.returns-clause-nicks
returns-clause-nicks c = λ limit link id state change part kept free told good plain follows before then had. change_mirrors Nicks limit link id state change part kept free told good plain follows before then had

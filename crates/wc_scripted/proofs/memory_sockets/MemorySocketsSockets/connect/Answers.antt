use Rattle.std.proofs.Common.{inr}
use Rattle.wc_scripted.proofs.FaultLemmas.{tells_then}
use Rattle.wc_scripted.proofs.memory_sockets.MemorySocketsSockets.connect.Goals as goal

pub returns-then-fails-clause-goes_on : goal.returns-then-fails-clause-goes_on
returns-then-fails-clause-goes_on c = tells_then _ _ _ _ _ _ c.note.ensures.goes_on c.note.ensures.stops c.fail.ensures.silent c.fail.ensures.goes_on

pub returns-in_default-clause-goes_on : goal.returns-in_default-clause-goes_on
returns-in_default-clause-goes_on c = λ told. inr c.starve_noted.ensures.refused

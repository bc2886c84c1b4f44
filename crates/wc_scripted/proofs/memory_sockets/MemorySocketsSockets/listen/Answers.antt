use Rattle.wc_scripted.proofs.FaultLemmas.{once_then, tells_then}
use Rattle.wc_scripted.proofs.memory_sockets.MemorySocketsSockets.listen.Goals as goal

pub returns-then-fails-clause-refused : goal.returns-then-fails-clause-refused
returns-then-fails-clause-refused c = once_then _ _ _ _ c.note.ensures.refused c.note.ensures.stops c.fail.ensures.silent c.fail.ensures.refused

pub returns-then-fails-clause-goes_on : goal.returns-then-fails-clause-goes_on
returns-then-fails-clause-goes_on c = tells_then _ _ _ _ _ _ c.note.ensures.goes_on c.note.ensures.stops c.fail.ensures.silent c.fail.ensures.goes_on

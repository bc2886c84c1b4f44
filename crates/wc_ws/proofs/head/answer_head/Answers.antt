use Rattle.std.proofs.Common.{refl}
use Rattle.wc_ws.proofs.head.answer_head.Goals as goal

pub returns-in-None-clause-refused : goal.returns-in-None-clause-refused
returns-in-None-clause-refused c = c.in-None.ensures.none refl

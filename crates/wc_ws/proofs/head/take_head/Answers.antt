use Rattle.wc_ws.proofs.HeadLemmas.{waits_at, too_long_at}
use Rattle.wc_ws.proofs.head.take_head.Goals as goal

pub returns-in-None-clause-waits : goal.returns-in-None-clause-waits
returns-in-None-clause-waits c =
    λ _. waits_at _ _ _ _ c.as_slice.ensures c.in-None.ensures.first
    c.len.ensures.value c.if-len-lt-HEAD_LIMIT.true

pub returns-in-None-2-clause-refused : goal.returns-in-None-2-clause-refused
returns-in-None-2-clause-refused c =
    too_long_at _ _ _ c.as_slice.ensures c.in-None-2.ensures.first
    c.len.ensures.value c.if-len-lt-HEAD_LIMIT.false

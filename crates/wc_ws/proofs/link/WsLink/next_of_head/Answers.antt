use Rattle.std.proofs.Common.{refl}
use Rattle.wc_ws.proofs.HeadLemmas.{goes_by, waits_by, refused_by}
use Rattle.wc_ws.proofs.link.WsLink.next_of_head.Goals as goal

pub returns-in-Ok-true : goal.returns-in-Ok-true
returns-in-Ok-true c =
    rw (← c.self.view_is)
    (goes_by _ _ _ _ refl refl refl (c.in-Ok-true.ensures.taken c.in-Ok-true.field-0-test)
    c.next_of_frames.ensures)

pub returns-in-Ok-false : goal.returns-in-Ok-false
returns-in-Ok-false c =
    rw (← c.self.view_is)
    (waits_by _ _ refl refl refl (c.in-Ok-false.ensures.waits c.in-Ok-false.field-0-test))

pub returns-in-Err : goal.returns-in-Err
returns-in-Err c =
    rw (← c.self.view_is)
    (refused_by _ _ _ c.in-Err.ensures.refused (record { stage = refl; output = c.in-Err.ensures.output }))

use Rattle.wc_view.proofs.BufferLaw.{notice_shows}
use Rattle.wc_view.proofs.laws.notice_shows_buffers.Goals as goal

pub returns : goal.returns
returns c = λ id part world change are free accepted had. notice_shows id part world change are free accepted had

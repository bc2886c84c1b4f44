use Rattle.wc_view.proofs.NoticeLaw.{notice_shows}
use Rattle.wc_view.proofs.laws.notice_shows_world.Goals as goal

pub returns : goal.returns
returns c = λ limit id part world change stands limited still free accepted apart had buffer. notice_shows limit id part world change stands limited still free accepted apart had buffer

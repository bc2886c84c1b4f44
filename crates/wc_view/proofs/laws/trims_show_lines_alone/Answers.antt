use Rattle.wc_view.proofs.BufferLaw.{trim_shows}
use Rattle.wc_view.proofs.NickNotice.{trim_shows as trim_shows_nicks}
use Rattle.wc_view.proofs.laws.trims_show_lines_alone.Goals as goal

pub returns-clause-buffers : goal.returns-clause-buffers
returns-clause-buffers c = λ id part world trim free. trim_shows id part world trim free

pub returns-clause-nicks : goal.returns-clause-nicks
returns-clause-nicks c = λ id part world trim free. trim_shows_nicks id part world trim free

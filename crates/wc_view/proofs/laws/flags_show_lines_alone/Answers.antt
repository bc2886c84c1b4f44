use Rattle.wc_view.proofs.BufferLaw.{flag_shows}
use Rattle.wc_view.proofs.NickNotice.{flag_shows as flag_shows_nicks}
use Rattle.wc_view.proofs.laws.flags_show_lines_alone.Goals as goal

pub returns-clause-buffers : goal.returns-clause-buffers
returns-clause-buffers c = λ id part world flips buffer free. flag_shows id part world flips buffer free

pub returns-clause-nicks : goal.returns-clause-nicks
returns-clause-nicks c = λ id part world flips buffer free. flag_shows_nicks id part world flips buffer free

use Rattle.wc_mirror_laws.proofs.ExampleLemmas.{three_lines_settle, three_lines_settle_buffers, three_lines_settle_nicks}
use Rattle.wc_mirror_laws.proofs.laws.three_lines_settle.Goals as goal

pub returns-clause-lines : goal.returns-clause-lines
returns-clause-lines c = λ limit oracle lines. three_lines_settle limit oracle lines

pub returns-clause-buffers : goal.returns-clause-buffers
returns-clause-buffers c = λ limit oracle lines. three_lines_settle_buffers limit oracle lines

pub returns-clause-nicks : goal.returns-clause-nicks
returns-clause-nicks c = λ limit oracle lines. three_lines_settle_nicks limit oracle lines

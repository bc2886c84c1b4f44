use Rattle.wc_hdata.proofs.DumpVisits.{buffers_accepted, lines_accepted}
use Rattle.wc_hdata.proofs.laws.dumps_give_few_pointers.Goals as goal

pub returns-clause-buffers : goal.returns-clause-buffers
returns-clause-buffers c = λ world are. buffers_accepted world are.few

pub returns-clause-lines : goal.returns-clause-lines
returns-clause-lines c = λ world are. lines_accepted world are.few

use Rattle.wc_hdata.proofs.DumpWalks.{buffers_read, lines_read}
use Rattle.wc_hdata.proofs.laws.dump_paths.Goals as goal

pub returns-clause-buffers : goal.returns-clause-buffers
returns-clause-buffers c = buffers_read

pub returns-clause-lines : goal.returns-clause-lines
returns-clause-lines c = lines_read

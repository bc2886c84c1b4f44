use Rattle.wc_hdata.proofs.DumpWalks.{lines_walked}
use Rattle.wc_hdata.proofs.laws.line_dump_is_walk.Goals as goal

pub returns : goal.returns
returns c = λ world are. lines_walked world are.once

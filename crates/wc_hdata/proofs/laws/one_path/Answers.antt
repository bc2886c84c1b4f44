use Rattle.wc_hdata.proofs.PathLemmas.{one_path_of}
use Rattle.wc_hdata.proofs.laws.one_path.Goals as goal

pub returns : goal.returns
returns c = one_path_of

use Rattle.wc_turns.proofs.CutLaws.{cut_anywhere}
use Rattle.wc_loop.proofs.CutLemmas.{runs-alike}
use Rattle.wc_loop.proofs.laws.cuts_change_nothing.Goals as goal

pub returns-clause-alike : goal.returns-clause-alike
returns-clause-alike c = runs-alike

pub returns-clause-cut : goal.returns-clause-cut
returns-clause-cut c = cut_anywhere

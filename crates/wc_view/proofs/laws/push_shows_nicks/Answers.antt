use Rattle.wc_view.proofs.NickPushed.{push_shows}
use Rattle.wc_view.proofs.laws.push_shows_nicks.Goals as goal

pub returns : goal.returns
returns c = λ id told root buffer before now free held old new. push_shows id told root buffer before now free held old new

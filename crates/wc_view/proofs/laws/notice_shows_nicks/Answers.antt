use Rattle.wc_view.proofs.NickNotice.{notice_shows}
use Rattle.wc_view.proofs.laws.notice_shows_nicks.Goals as goal

pub returns : goal.returns
returns c = λ id told world change lists same free accepted. notice_shows id told world change lists same free accepted

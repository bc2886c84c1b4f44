use Rattle.wc_mirror_laws.proofs.BytesLemmas.{nicks_show}
use Rattle.wc_mirror_laws.proofs.laws.sent_bytes_show_nicks.Goals as goal

pub returns : goal.returns
returns c = λ limit oracle options lines commands connects events link id most texts short settled limited. nicks_show limit oracle options lines commands connects events link id most texts short settled limited

use Rattle.wc_mirror_laws.proofs.BytesLemmas.{buffers_show}
use Rattle.wc_mirror_laws.proofs.laws.sent_bytes_show_buffers.Goals as goal

pub returns : goal.returns
returns c = λ limit oracle options lines commands connects events link id most texts short settled limited. buffers_show limit oracle options lines commands connects events link id most texts short settled limited

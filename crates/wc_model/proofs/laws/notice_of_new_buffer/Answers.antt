use Rattle.std.proofs.Common.{refl}
use Rattle.wc_model.proofs.laws.notice_of_new_buffer.Goals as goal

pub returns : goal.returns
returns c = λ world buffer spec. refl

use Rattle.wc_objects.proofs.Messages.{one_message}
use Rattle.wc_objects.proofs.laws.one_message.Goals as goal

pub returns : goal.returns
returns c = λ m n bytes u v p q. one_message m n bytes u v p q

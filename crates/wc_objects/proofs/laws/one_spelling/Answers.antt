use Rattle.wc_objects.proofs.Spellings.{one_spelling}
use Rattle.wc_objects.proofs.laws.one_spelling.Goals as goal

pub returns : goal.returns
returns c = λ message a b p q. one_spelling message a b p q

use Rattle.wc_objects.proofs.Spellings.{no_front}
use Rattle.wc_objects.proofs.laws.no_spelling_begins_another.Goals as goal

pub returns : goal.returns
returns c = λ m n a b rest p q e. no_front m n a b rest p q e

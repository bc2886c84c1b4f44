use Rattle.wc_eval.proofs.PartLemmas.{parts_start}
use Rattle.wc_eval.proofs.parts.Parts.new.Goals as goal

pub returns-clause-texts : goal.returns-clause-texts
returns-clause-texts c = parts_start c.args.byte c.new.result c.args.text.now c.new.ensures.pieces

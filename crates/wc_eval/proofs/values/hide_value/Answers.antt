use Rattle.wc_eval.specs.Values.{copies_of}
use Rattle.wc_eval.proofs.CopyLemmas.{copies_utf8}
use Rattle.wc_eval.proofs.KindValues.{makes_utf8}
use Rattle.wc_eval.proofs.values.hide_value.Goals as goal

pub returns-clause-utf8 : goal.returns-clause-utf8
returns-clause-utf8 c =
    makes_utf8 (copies_of c.character_count.result c.args.cover.now) c.copies_of.result
    c.copies_of.ensures (copies_utf8 c.character_count.result c.args.cover.now c.requires.cover)

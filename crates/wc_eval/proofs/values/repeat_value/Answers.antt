use Rattle.wc_eval.specs.Values.{copies_of}
use Rattle.wc_eval.proofs.CopyLemmas.{copies_utf8}
use Rattle.wc_eval.proofs.KindValues.{makes_utf8}
use Rattle.wc_eval.proofs.values.repeat_value.Goals as goal

pub returns-in-Some-clause-utf8 : goal.returns-in-Some-clause-utf8
returns-in-Some-clause-utf8 c =
    makes_utf8 (copies_of c.in-Some.count c.args.text.now) c.copies_of.result c.copies_of.ensures
    (copies_utf8 c.in-Some.count c.args.text.now c.requires)

use Rattle.wc_eval.proofs.KindLemmas.{kind_first, kind_second, kind_third, kind_last}
use Rattle.wc_eval.proofs.kind.Kind.cut.Goals as goal

pub returns-in-Some : goal.returns-in-Some
returns-in-Some c = kind_first c.args.inside.now _ c.in-Some.ensures

pub returns-in-Some-cut_letter_word : goal.returns-in-Some-cut_letter_word
returns-in-Some-cut_letter_word c =
    kind_second c.args.inside.now c.in_default.ensures _ c.in-Some-cut_letter_word.ensures

pub returns-in-Some-cut_comma_word : goal.returns-in-Some-cut_comma_word
returns-in-Some-cut_comma_word c =
    kind_third c.args.inside.now c.in_default.ensures c.in_default-cut_letter_word.ensures _
    c.in-Some-cut_comma_word.ensures

pub returns-in-None : goal.returns-in-None
returns-in-None c =
    kind_last c.args.inside.now c.in_default.ensures c.in_default-cut_letter_word.ensures
    c.in-None.ensures

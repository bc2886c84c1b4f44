use Rattle.std.proofs.Common.{◌<◌, ◌∙◌, length, ap, sym, arith}
use Rattle.std.proofs.lemmas.Bool.{eqb-false}
use Rattle.std.specs.Str.{encode_utf8_all}
use Rattle.wc_eval.specs.Cuts.{is_among}
use Rattle.wc_eval.proofs.CharacterLemmas.{part_spelled, part_none, ok_maps}
use Rattle.wc_eval.proofs.split.part_at.Goals as goal

pub returns-in_default-clause-text : goal.returns-in_default-clause-text
returns-in_default-clause-text c = λ of known.
    let cs = c.args.characters.now in
    let none = eqb-false (length cs) 0 (sym c.if-is_empty.ensures) in
    let some : 0 < length cs = omega (arith, none) in
    c.new-in_default.ensures
    ∙ part_none (is_among of) cs c.args.place some (c.in_default.ensures of known)

pub returns-clause-text : goal.returns-clause-text
returns-clause-text c =
    let cs = c.args.characters.now in
    let none = eqb-false (length cs) 0 (sym c.if-is_empty.ensures) in
    let some : 0 < length cs = omega (arith, none) in
    ok_maps c.spelled.result _ _ (λ text is of known.
    is ∙ ap encode_utf8_all c.split_at.ensures.front
    ∙ part_spelled (is_among of) cs c.in-Some.rest.now c.args.place c.part_length.result some
    (c.in-Some.ensures of known) (c.part_length.ensures.length of known)) c.spelled.ensures.text

use Rattle.std.proofs.Common.{◌<◌, ◌+◌, ◌∙◌, length, ap, sym, arith}
use Rattle.std.proofs.lemmas.Bool.{eqb-false}
use Rattle.wc_eval.specs.Cuts.{is_among}
use Rattle.wc_eval.proofs.CharacterLemmas.{part_count}
use Rattle.wc_eval.proofs.split.part_count.Goals as goal

pub returns : goal.returns
returns c = λ of known.
    let cs = c.args.characters.now in
    let none = eqb-false (length cs) 0 (sym c.if-is_empty.ensures) in
    let some : 0 < length cs = omega (arith, none) in
    ap (λ n. n + 1) (c.separator_count.ensures.count of known) ∙ sym (part_count (is_among of) cs some)

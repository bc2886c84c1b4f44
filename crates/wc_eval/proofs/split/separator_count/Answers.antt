use Rattle.std.proofs.Common.{true, false, ◌∙◌, arith}
use Rattle.wc_eval.specs.Cuts.{is_among}
use Rattle.wc_eval.proofs.CharacterLemmas.{counted}
use Rattle.wc_eval.proofs.split.separator_count.Goals.{then-contains, else-contains}
use Rattle.wc_eval.proofs.split.separator_count.Goals as goal

pub loop-character-preserved : goal.loop-character-preserved
loop-character-preserved c =
    let i = c.loop-character.character-index in
    let cs = c.args.characters.now in
    let x = c.character-item.result in
    let n = c.loop-character.count in
    let known = c.loop-character.invariant in
    let within = c.loop-character-test.true in
    elim c.if-contains.branch [
      | then-contains w ↦ record {
        count = λ of are. w.count-is ∙ counted (is_among of) cs i x n true within c.character-item.is
            (known.count of are) (w.if-contains.ensures ∙ are x);
        most = omega (arith, w.count-is, known.most);
      }
      | else-contains w ↦ record {
        count = λ of are. w.count-is ∙ counted (is_among of) cs i x n false within c.character-item.is
            (known.count of are) (w.if-contains.ensures ∙ are x);
        most = omega (arith, w.count-is, known.most);
      }
    ]

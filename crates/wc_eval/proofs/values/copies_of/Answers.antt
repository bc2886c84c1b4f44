use Rattle.std.proofs.Common.{◌<◌, ◌∙◌, length, sym, arith}
use Rattle.std.proofs.lemmas.Bool.{eqb-true, eqb-false}
use Rattle.wc_eval.proofs.CopyLemmas.{copies_empty, copies_more, copies_over}
use Rattle.wc_eval.proofs.values.copies_of.Goals as goal

pub returns-then-is_empty : goal.returns-then-is_empty
returns-then-is_empty c =
    c.new-value.ensures ∙ sym (copies_empty c.args.count c.args.text.now
    (eqb-true (length c.args.text.now) 0 (sym c.if-is_empty.ensures)))

pub returns-then-count-text : goal.returns-then-count-text
returns-then-count-text c =
    let none = eqb-false (length c.args.text.now) 0 (sym c.if-is_empty.ensures) in
    let some : 0 < length c.args.text.now = omega (arith, none) in
    copies_over c.args.count c.args.text.now some c.if-count-text.true

pub loop-turn-preserved : goal.loop-turn-preserved
loop-turn-preserved c =
    c.in_ok-append.ensures.ok ∙ copies_more c.loop-turn._turn c.args.text.now c.loop-turn.value
    c.loop-turn.invariant

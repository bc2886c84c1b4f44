use Rattle.std.proofs.Common.{◌==◌, length, ap, sym, ◌∙◌, option_map}
use Rattle.wc_eval.specs.Walks.{meant}
use Rattle.wc_eval.proofs.PartLemmas.{blocks_start, whole_none, whole_more, whole_last}
use Rattle.wc_eval.proofs.parts.whole_group.Goals as goal

pub returns-in_err-block : goal.returns-in_err-block
returns-in_err-block c =
    let text = c.args.text.now in
    ap (option_map (λ inside. inside.now)) c.from_residual.ensures
    ∙ sym (whole_none text (sym (blocks_start c.new.result text c.new.ensures.pieces)
    ∙ c.in_err-block.ensures.steps))

pub returns-then-not-is_empty : goal.returns-then-not-is_empty
returns-then-not-is_empty c =
    let text = c.args.text.now in
    let after = c.in_ok-block.after in
    sym (whole_more text (meant c.in_ok-block.block) after
    (sym (blocks_start c.new.result text c.new.ensures.pieces) ∙ c.in_ok-block.ensures.steps)
    (c.if-not-is_empty.ensures ∙ ap (λ l. length l == 0) c.rest.ensures))

pub returns : goal.returns
returns c =
    let text = c.args.text.now in
    let after = c.in_ok-block.after in
    c.inside_of.ensures ∙ sym (whole_last text (meant c.in_ok-block.block) after
    (sym (blocks_start c.new.result text c.new.ensures.pieces) ∙ c.in_ok-block.ensures.steps)
    (c.if-not-is_empty.ensures ∙ ap (λ l. length l == 0) c.rest.ensures))

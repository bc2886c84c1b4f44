use Rattle.std.proofs.Common.{◌-◌, ◌∙◌, ap, sym, length, take, option_map}
use Rattle.wc_eval.proofs.FormLemmas.{same_pair}
use Rattle.wc_eval.proofs.BranchLemmas.{block_none, block_some}
use Rattle.wc_eval.proofs.branches.split_at_block.Goals as goal

pub returns-in_err-end : goal.returns-in_err-end
returns-in_err-end c =
    ap (option_map (λ parts. (parts.0.now, parts.1.now))) c.from_residual.ensures
    ∙ sym (block_none c.args.byte c.args.text.now c.new.result c.new.ensures.pieces
    c.requires.opening c.requires.closing c.in_err-end.ensures)

pub returns : goal.returns
returns c =
    let text = c.args.text.now in
    let left = c.rest.result.now in
    same_pair c.up_to.result.now (take (length text - length left - 1) text) c.rest-2.result.now left
    c.up_to.ensures (c.rest-2.ensures ∙ sym c.rest.ensures)
    ∙ sym (block_some c.args.byte text c.new.result c.new.ensures.pieces c.requires.opening
    c.requires.closing c.in_ok-end.end left c.rest.ensures c.in_ok-end.ensures)

use Rattle.std.proofs.Common.{◌-◌, ◌∙◌, ap, sym, length, take, option_map}
use Rattle.wc_eval.proofs.FormLemmas.{byte_none, byte_some, same_pair}
use Rattle.wc_eval.proofs.forms.split_at_byte.Goals as goal

pub returns-in_err-end-clause-found : goal.returns-in_err-end-clause-found
returns-in_err-end-clause-found c =
    ap (option_map (λ parts. (parts.0.now, parts.1.now))) c.from_residual.ensures
    ∙ sym (byte_none c.args.byte c.args.text.now c.new.result c.new.ensures.pieces
    c.in_err-end.ensures.found)

pub returns-clause-found : goal.returns-clause-found
returns-clause-found c =
    let text = c.args.text.now in
    let left = c.rest.result.now in
    same_pair c.before-2.result.now (take (length text - length left - 1) text) c.rest-2.result.now left
    c.before-2.ensures (c.rest-2.ensures ∙ sym c.rest.ensures)
    ∙ sym (byte_some c.args.byte text c.new.result c.new.ensures.pieces c.in_ok-end.end left
    c.rest.ensures c.in_ok-end.ensures.found)

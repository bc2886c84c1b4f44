use Rattle.std.proofs.Common.{sym}
use Rattle.std.proofs.lemmas.Result.{err_from_is_err_and}
use Rattle.wc_nickdiff.proofs.diff.item_applied.Goals as goal

pub returns-in_err-apply_each-clause-refused : goal.returns-in_err-apply_each-clause-refused
returns-in_err-apply_each-clause-refused c =
    let p = err_from_is_err_and c.from_residual-in_err-apply_each.result c.from_residual-in_err-apply_each.ensures.1 in
    rw (p.1, p.2, sym c.in_ok-next.ensures.rows, sym c.as_slice.ensures) c.in_err-apply_each.ensures.refused

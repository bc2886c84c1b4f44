use Rattle.std.proofs.Common.{◌≡◌, length, rules, vec_len}
use Rattle.wc_scripted.proofs.report.report_turn.Goals as goal

pub returns-clause-tokens : goal.returns-clause-tokens
returns-clause-tokens c =
    let t = rw c.deref_mut.ensures.value at c.report_rows.ensures.tokens in
    let n : length c.args.rows.now.items ≡ vec_len c.args.rows.now = search rules in
    rw n at t

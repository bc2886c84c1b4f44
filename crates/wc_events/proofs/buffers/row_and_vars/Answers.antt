use Rattle.std.proofs.Common.{rules, ◌≡◌, Some}
use Rattle.wc_buffers.specs.Calls.{entry_of}
use Rattle.wc_events.proofs.buffers.row_and_vars.Goals as goal

pub returns-clause-kept : goal.returns-clause-kept
returns-clause-kept c =
    let there : entry_of c.args.buffer c.args.buffers.now ≡ Some (record { row = c.in_ok-row.row.now; vars = c.in_ok-vars.vars.now }) = search rules in
    c.groups.ensures.held.fit c.args.buffer _ there

use Rattle.std.proofs.Common.{◌≡◌, drop}
use Rattle.wc_session.specs.Sync.{at_each, without_options}
use Rattle.wc_session.proofs.sync.take_each.Given as goal

-- what is left is still to be done to the sets so far
abbrev pub invariant-loop-name : goal.invariant-loop-name
invariant-loop-name l =
    at_each l.buffers (without_options l.options) l.sets (drop l.name-index l.names) ≡ at_each l.buffers (without_options l.options) l.fn.sets l.names

use Rattle.std.proofs.Common.{◌≡◌, ◌++◌, drop}
use Rattle.wc_irc.proofs.everyday.put_names.Given as goal

abbrev pub invariant-loop-name : goal.invariant-loop-name
invariant-loop-name l = l.params ++ drop l.name-index l.names ≡ l.fn.params ++ l.names

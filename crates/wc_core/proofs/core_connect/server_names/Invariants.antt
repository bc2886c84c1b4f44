use Rattle.std.proofs.Common.{◌≡◌, take}
use Rattle.wc_core.proofs.core_connect.server_names.Given as goal

abbrev pub invariant-loop-name : goal.invariant-loop-name
invariant-loop-name l = l.names ≡ take l.name-index l.name-items

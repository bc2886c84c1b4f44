use Rattle.std.proofs.Common.{◌≡◌, List, ℕ, drop, bytes_eq}
use Rattle.std.specs.List.{list_any}
use Rattle.wc_options.specs.Options.{has_server}
use Rattle.wc_core.proofs.core_typed.has_server.Given as goal

abbrev pub invariant-loop-server : goal.invariant-loop-server
invariant-loop-server l = list_any (λ (other : List ℕ). bytes_eq other l.name) (drop l.server-index l.server-items) ≡ has_server l.name l.options.servers

use Rattle.std.proofs.Common.{◌≡◌, List, ℕ, drop, bytes_eq}
use Rattle.std.specs.List.{list_any}
use Rattle.wc_options.specs.Options.{has_server}
use Rattle.wc_irc.proofs.server_options.has_server.Given as goal

abbrev pub invariant-loop-name : goal.invariant-loop-name
invariant-loop-name l = list_any (λ (name : List ℕ). bytes_eq name l.server) (drop l.name-index l.name-items) ≡ has_server l.server l.options.servers

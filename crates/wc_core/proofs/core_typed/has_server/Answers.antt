use Rattle.std.proofs.Common.{List, ℕ, ap, ◌∙◌, bytes_eq}
use Rattle.std.specs.List.{list_any}
use Rattle.wc_irc.proofs.ServerNameLemmas.{server_named}
use Rattle.wc_core.proofs.core_typed.has_server.Goals as goal

pub loop-server-init : goal.loop-server-init
loop-server-init c =
    ap (list_any (λ (other : List ℕ). bytes_eq other c.args.name.now)) c.servers-server-items.ensures ∙ server_named c.args.name.now c.args.options.now.servers

use Rattle.std.proofs.Common.{List, ℕ, ap, ◌∙◌, bytes_eq}
use Rattle.std.specs.List.{list_any}
use Rattle.wc_irc.proofs.ServerNameLemmas.{server_named}
use Rattle.wc_irc.proofs.server_options.has_server.Goals as goal

pub loop-name-init : goal.loop-name-init
loop-name-init c =
    ap (list_any (λ (name : List ℕ). bytes_eq name c.args.server.now)) c.servers-name-items.ensures ∙ server_named c.args.server.now c.args.options.now.servers

use Rattle.std.proofs.Common.{ap, ◌∙◌}
use Rattle.std.specs.Prelude.{option_map}
use Rattle.wc_servers.specs.Seats.{ServersView, seat_of, open_of, server_named}
use Rattle.wc_servers.proofs.SeatLemmas.{named_open}
use Rattle.wc_servers.proofs.servers.Servers.named.Goals as goal

pub returns : goal.returns
returns c =
    ap (option_map seat_of) c.named.ensures ∙ named_open c.args.name.now c.deref.result.now ∙ ap (λ seats. server_named c.args.name.now (open_of seats)) c.deref.ensures.value
    ∙ ap (λ (v : ServersView). server_named c.args.name.now (open_of v.seats)) c.self.view_is

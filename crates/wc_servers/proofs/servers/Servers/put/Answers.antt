use Rattle.std.proofs.Common.{◌+◌, ap, sym, ◌∙◌}
use Rattle.wc_servers.specs.Seats.{ServersView, seat_link}
use Rattle.wc_servers.proofs.SeatLemmas.{seats_push}
use Rattle.wc_servers.proofs.servers.Servers.put.Goals as goal

pub invariant_of-self-2 : goal.invariant_of-self-2
invariant_of-self-2 c =
    seats_push _ _ c.new-seat.result c.self.invariant c.in_ok-push_both.ensures.seats (ap seat_link c.new-seat.ensures)
    (c.requires.next ∙ ap (λ n. n + 1) (sym (ap (λ (v : ServersView). v.used) c.self.view_is)))

use Rattle.std.proofs.Common.{ap, ◌∙◌}
use Rattle.wc_turns.proofs.serve.next_party.Goals as goal
use Rattle.wc_turns.proofs.LeastLemmas.{least-above, next-between, next-none}
use Rattle.wc_turns.specs.Sources.{has_flag, may_write, may_write_seat}
use Rattle.wc_outside.specs.Keyed.{at_key}
use Rattle.wc_board.specs.Connections.{connection_link}
use Rattle.wc_servers.specs.Seats.{ServersView, seat_link}

pub returns-clause-above : goal.returns-clause-above
returns-clause-above c = least-above c.lesser_of.result c.next_client-client.result c.next_seat-server.result c.args.last c.lesser_of.ensures.one c.next_client-client.ensures.above c.next_seat-server.ensures.above

pub returns-clause-between : goal.returns-clause-between
returns-clause-between c =
    next-between c.lesser_of.result c.next_client-client.result c.next_seat-server.result c.args.last
    (λ k. has_flag (may_write c.args.links.now.opened.items) (at_key connection_link k c.args.core.now.connections))
    (λ k. has_flag (may_write_seat c.args.links.now.opened.items) (at_key seat_link k c.args.core.now.servers.seats))
    c.lesser_of.ensures.first c.lesser_of.ensures.second
    (rw c.connections.ensures at c.next_client-client.ensures.between) (λ e k low. rw c.connections.ensures at (c.next_client-client.ensures.none e k low))
    (rw (c.seats.ensures.seats ∙ ap (λ (v : ServersView). v.seats) c.servers.ensures) at c.next_seat-server.ensures.between) (λ e k low. rw (c.seats.ensures.seats ∙ ap (λ (v : ServersView). v.seats) c.servers.ensures) at (c.next_seat-server.ensures.none e k low))

pub returns-clause-none : goal.returns-clause-none
returns-clause-none c = λ e k low.
    let none = c.lesser_of.ensures.none e in
    next-none
    (has_flag (may_write c.args.links.now.opened.items) (at_key connection_link k c.args.core.now.connections))
    (has_flag (may_write_seat c.args.links.now.opened.items) (at_key seat_link k c.args.core.now.servers.seats))
    (rw c.connections.ensures at (c.next_client-client.ensures.none none.0 k low)) (rw (c.seats.ensures.seats ∙ ap (λ (v : ServersView). v.seats) c.servers.ensures) at (c.next_seat-server.ensures.none none.1 k low))

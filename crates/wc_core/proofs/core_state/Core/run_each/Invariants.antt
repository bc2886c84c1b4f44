use Rattle.std.proofs.Common.{◌≡◌, false}
use Rattle.std.specs.Vec.Iter.{into_iter_items}
use Rattle.wc_outside.specs.Keyed.{at_key}
use Rattle.wc_servers.specs.Seats.{seat_link, is_open_at}
use Rattle.wc_core.specs.CoreView.{CoreView}
use Rattle.wc_core.specs.Served.{ChangesServers}
use Rattle.wc_core.specs.ServerSteps.{acts_step}
use Rattle.wc_core.proofs.core_state.Core.run_each.Given as goal
use Rattle.wc_core.specs.Contained.{Runs}

-- what runs the acts that are left has run all of them
abbrev pub invariant-loop-act : goal.invariant-loop-act
invariant-loop-act l = record {
  onward : (final : CoreView) → Runs l.self final (λ state. acts_step l.tells l.link.0 state (into_iter_items l.act-iterator)) → Runs l.fn.self final (λ state. acts_step l.tells l.link.0 state l.fn.acts.items);
  stays : ChangesServers l.fn.self l.self;
  shut : is_open_at (at_key seat_link l.link.0 l.fn.self.servers.seats) ≡ false → l.self.servers ≡ l.fn.self.servers;
}

use Rattle.wc_turns.proofs.serve.next_seat.Given as goal
use Rattle.std.proofs.Common.{◌≡◌, ℕ, ◌<◌, false, None, IfSome, take}
use Rattle.wc_outside.specs.Keyed.{at_key}
use Rattle.wc_servers.specs.Seats.{seat_link}
use Rattle.wc_turns.specs.Sources.{has_flag, may_write_seat}

abbrev pub invariant-loop-seat : goal.invariant-loop-seat
invariant-loop-seat l = record {
  above : IfSome l.next (λ link. l.last < link.0);
  between : IfSome l.next (λ link. (other : ℕ) → l.last < other → other < link.0 → has_flag (may_write_seat l.links.opened.items) (at_key seat_link other (take l.seat-index l.seats)) ≡ false);
  none : l.next ≡ None → (other : ℕ) → l.last < other → has_flag (may_write_seat l.links.opened.items) (at_key seat_link other (take l.seat-index l.seats)) ≡ false;
}

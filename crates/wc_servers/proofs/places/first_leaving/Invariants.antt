use Rattle.std.proofs.Common.{◌≡◌, drop}
use Rattle.std.specs.Option.{option_copied}
use Rattle.wc_servers.specs.Seats.{first_leaving}
use Rattle.wc_servers.proofs.LeavingLemmas.{found_or}
use Rattle.wc_servers.proofs.places.first_leaving.Given as goal

abbrev pub invariant-loop-seat : goal.invariant-loop-seat
invariant-loop-seat l = found_or (option_copied l.first) (first_leaving (drop l.seat-index l.seats)) ≡ first_leaving l.seats

use Rattle.std.proofs.Common.{◌≡◌, ◌++◌, true, map, take, drop}
use Rattle.wc_servers.specs.Seats.{quitting, QuitFront}
use Rattle.wc_servers.proofs.places.quit_all.Given as goal

abbrev pub invariant-loop-seat : goal.invariant-loop-seat
invariant-loop-seat l = record {
  told : l.told ≡ true → l.seats ≡ map quitting (take l.seat-index l.initial.seats) ++ drop l.seat-index l.initial.seats;
  front : QuitFront l.initial.seats l.seats;
}

use Rattle.std.proofs.Common.{◌≡◌, length}
use Rattle.wc_board.specs.Connections.{departure_of}
use Rattle.wc_board.proofs.connection.first_departure.Given as goal

abbrev pub invariant-loop-rest : goal.invariant-loop-rest
invariant-loop-rest l = departure_of l.rest ≡ departure_of l.connections

abbrev pub decreases-loop-rest : goal.decreases-loop-rest
decreases-loop-rest l = length l.rest

use Rattle.std.proofs.Common.{◌≡◌, ◌++◌, map, take, drop}
use Rattle.wc_board.specs.Served.{noted_connection}
use Rattle.wc_board.proofs.connection.note_all.Given as goal

abbrev pub invariant-loop-connection : goal.invariant-loop-connection
invariant-loop-connection l = l.connections ≡ map (noted_connection l.kind l.buffer.0) (take l.connection-index l.initial.connections) ++ drop l.connection-index l.initial.connections

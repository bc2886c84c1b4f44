use Rattle.std.proofs.Common.{◌≡◌, length}
use Rattle.wc_outside.specs.Keyed.{without}
use Rattle.wc_board.specs.Connections.{connection_link}
use Rattle.wc_board.proofs.clients.Clients.forget.Given as goal

abbrev pub invariant-loop-place : goal.invariant-loop-place
invariant-loop-place l = without connection_link l.link.0 l.self ≡ without connection_link l.link.0 l.fn.self

abbrev pub decreases-loop-place : goal.decreases-loop-place
decreases-loop-place l = length l.self

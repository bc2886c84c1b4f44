use Rattle.wc_outside.proofs.KeyedLemmas.{PlaceOf-position}
use Rattle.wc_board.specs.Connections.{connection_link}
use Rattle.wc_board.proofs.connection.connection_place.Goals as goal

pub returns : goal.returns
returns c = PlaceOf-position connection_link c.args.link.0 c.args.connections.now c.position_of.result c.position_of.ensures

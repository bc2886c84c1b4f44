use Rattle.wc_outside.proofs.KeyedLemmas.{PlaceOf-position}
use Rattle.wc_servers.specs.Seats.{seat_link}
use Rattle.wc_servers.proofs.places.seat_place.Goals as goal

pub returns : goal.returns
returns c = PlaceOf-position seat_link c.args.link.0 c.args.seats.now c.position_of.result c.position_of.ensures

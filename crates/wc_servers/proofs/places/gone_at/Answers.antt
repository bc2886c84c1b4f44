use Rattle.std.proofs.Common.{ap}
use Rattle.wc_servers.specs.Seats.{seat_link}
use Rattle.wc_servers.proofs.SeatLemmas.{placed_links}
use Rattle.wc_servers.proofs.places.gone_at.Goals as goal

pub returns-in-Some-clause-links : goal.returns-in-Some-clause-links
returns-in-Some-clause-links c = placed_links c.args.link.0 c.in-Some.place c.args.seats.now c.index-seats-place.result c.gone.new.self c.in-Some.ensures (ap seat_link c.gone.ensures)

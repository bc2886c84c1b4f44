use Rattle.wc_servers.proofs.SeatLemmas.{placed_links}
use Rattle.wc_servers.proofs.places.tell_at.Goals as goal

pub returns-clause-links : goal.returns-clause-links
returns-clause-links c = placed_links c.args.link.0 c.in-Some.place c.args.seats.now c.index-seats-place-2.result c.tell.new.self c.in-Some.ensures c.tell.ensures.link

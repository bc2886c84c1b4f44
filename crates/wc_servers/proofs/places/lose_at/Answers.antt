use Rattle.std.proofs.Common.{◌≡◌, rules, true}
use Rattle.std.specs.Prelude.{slice_index_or}
use Rattle.wc_servers.specs.Seats.{is_open}
use Rattle.wc_servers.proofs.SeatLemmas.{placed_links, placed_lost, placed_shut}
use Rattle.wc_servers.proofs.places.lose_at.Goals as goal

pub returns-clause-links : goal.returns-clause-links
returns-clause-links c = placed_links c.args.link.0 c.in-Some.place c.args.seats.now c.index-seats-place-2.result c.lose.new.self c.in-Some.ensures c.lose.ensures.link

pub returns-clause-shut : goal.returns-clause-shut
returns-clause-shut c = placed_shut c.args.link.0 c.in-Some.place c.args.seats.now c.index-seats-place-2.result c.lose.new.self c.args.cause c.in-Some.ensures c.lose.ensures.link c.lose.ensures.leaving

pub returns-clause-lost : goal.returns-clause-lost
returns-clause-lost c =
    let opened : is_open (slice_index_or c.args.seats.now c.in-Some.place c.index-seats-place.result) ≡ true = search rules in
    placed_lost c.args.link.0 c.in-Some.place c.args.buffers.now c.args.cause c.args.rank c.args.seats.now c.index-seats-place-2.result c.index-seats-place.result c.lose.new.self c.lose.result c.in-Some.ensures opened c.lose.ensures.acts c.lose.ensures.lost c.lose.ensures.left

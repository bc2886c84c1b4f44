use Rattle.std.proofs.Common.{None, set, arith}
use Rattle.wc_nicklist.specs.Index.{at_long}
use Rattle.wc_ircmsg.specs.CaseMaps.{folded_name}
use Rattle.wc_irc_nicks.specs.Seats.{is_named}
use Rattle.wc_irc_nicks.proofs.KeptLemmas.{seat_inside, place_index, one_named, others_named, filled_take, filled_fewer, kept_take, set_here, set_there}
use Rattle.wc_irc_nicks.proofs.places.take_out.Goals as goal

pub index_mut-requires : goal.index_mut-requires
index_mut-requires c =
    let ps = c.args.places.now.items in
    let seat = one_named c.args.case_map ps (at_long c.args.index.now) c.args.nick.now c.args.place c.requires.kept c.requires.found in
    omega (arith, seat_inside ps c.args.place seat.0 seat.1)

pub returns-clause-kept : goal.returns-clause-kept
returns-clause-kept c =
    let ps = c.args.places.now.items in
    let f = at_long c.args.index.now in
    let n = c.args.place in
    let seat = one_named c.args.case_map ps f c.args.nick.now n c.requires.kept c.requires.found in
    kept_take c.args.case_map ps (set ps n None) f (at_long c.forget.new.index) n (folded_name c.args.case_map c.args.nick.now) c.requires.kept
    (place_index c.args.case_map f c.args.nick.now n c.requires.found) (set_there ps n None) (set_here ps n None (seat_inside ps n seat.0 seat.1)) c.forget.ensures.places

pub returns-clause-seats : goal.returns-clause-seats
returns-clause-seats c =
    let ps = c.args.places.now.items in
    let seat = one_named c.args.case_map ps (at_long c.args.index.now) c.args.nick.now c.args.place c.requires.kept c.requires.found in
    filled_take (is_named c.args.case_map c.args.nick.now) ps c.args.place seat.0 seat.1 seat.2 (others_named c.args.case_map ps (at_long c.args.index.now) c.args.nick.now c.args.place c.requires.kept c.requires.found)

pub returns-clause-fewer : goal.returns-clause-fewer
returns-clause-fewer c =
    let ps = c.args.places.now.items in
    let seat = one_named c.args.case_map ps (at_long c.args.index.now) c.args.nick.now c.args.place c.requires.kept c.requires.found in
    filled_fewer ps c.args.place seat.0 seat.1

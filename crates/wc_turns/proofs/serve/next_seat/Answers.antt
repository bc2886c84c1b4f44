use Rattle.wc_turns.proofs.serve.next_seat.Goals as goal
use Rattle.std.proofs.Common.{sym, ◌∙◌, arith}
use Rattle.wc_servers.specs.Seats.{seat_link}
use Rattle.wc_turns.specs.Sources.{may_write_seat}
use Rattle.wc_turns.proofs.LeastLemmas.{least_between, passed_between, other_between, none_more}
use Rattle.wc_turns.proofs.serve.next_seat.Goals.{then-may_write_seat, else-may_write_seat}

pub loop-seat-preserved : goal.loop-seat-preserved
loop-seat-preserved c =
    let i = c.loop-seat.invariant in
    let at = c.loop-seat.seat-index in
    let inside = c.loop-seat-test.true in
    let here = sym c.seat-item.is in
    elim c.if-may_write_seat.branch [
      | then-may_write_seat w ↦ rw w.next-is (
          let lesser = rw w.link.ensures at w.lesser-next.ensures in
          record {
            above = lesser.above i.above;
            between = least_between seat_link (may_write_seat c.args.links.now.opened.items) c.args.last at c.args.seats.now _ c.seat-item.result c.loop-seat.next w.lesser-next.result here inside (other_between seat_link (may_write_seat c.args.links.now.opened.items) c.args.last c.seat-item.result w.lesser-next.result lesser.other) lesser.before i.between i.none;
            none = λ e o low. (let known = lesser.none e in none_more seat_link (may_write_seat c.args.links.now.opened.items) o at c.args.seats.now _ c.seat-item.result here inside (λ same. absurd (let q = known.1 in omega arith)) (i.none known.0 o low));
          })
      | else-may_write_seat w ↦ rw w.next-is (
          let quiet = sym c.may_write_seat.ensures ∙ w.if-may_write_seat.false in
          record {
            above = i.above;
            between = passed_between seat_link (may_write_seat c.args.links.now.opened.items) c.args.last at c.args.seats.now _ c.seat-item.result c.loop-seat.next here inside quiet i.between;
            none = λ e o low. none_more seat_link (may_write_seat c.args.links.now.opened.items) o at c.args.seats.now _ c.seat-item.result here inside (λ same. quiet) (i.none e o low);
          })
    ]

use Rattle.std.proofs.Common.{sym, ◌∙◌, arith}
use Rattle.wc_board.specs.Connections.{connection_link}
use Rattle.wc_turns.specs.Sources.{may_write}
use Rattle.wc_turns.proofs.LeastLemmas.{least_between, passed_between, other_between, none_more}
use Rattle.wc_turns.proofs.serve.next_client.Goals as goal
use Rattle.wc_turns.proofs.serve.next_client.Goals.{then-may_write, else-may_write}

pub loop-connection-preserved : goal.loop-connection-preserved
loop-connection-preserved c =
    let i = c.loop-connection.invariant in
    let at = c.loop-connection.connection-index in
    let inside = c.loop-connection-test.true in
    let here = sym c.connection-item.is in
    elim c.if-may_write.branch [
      | then-may_write w ↦ rw w.next-is (
          let lesser = rw w.link.ensures at w.lesser-next.ensures in
          record {
            above = lesser.above i.above;
            between = least_between connection_link (may_write c.args.links.now.opened.items) c.args.last at c.args.connections.now _ c.connection-item.result c.loop-connection.next w.lesser-next.result here inside (other_between connection_link (may_write c.args.links.now.opened.items) c.args.last c.connection-item.result w.lesser-next.result lesser.other) lesser.before i.between i.none;
            none = λ e o low. (let known = lesser.none e in none_more connection_link (may_write c.args.links.now.opened.items) o at c.args.connections.now _ c.connection-item.result here inside (λ same. absurd (let q = known.1 in omega arith)) (i.none known.0 o low));
          })
      | else-may_write w ↦ rw w.next-is (
          let quiet = sym c.may_write.ensures ∙ w.if-may_write.false in
          record {
            above = i.above;
            between = passed_between connection_link (may_write c.args.links.now.opened.items) c.args.last at c.args.connections.now _ c.connection-item.result c.loop-connection.next here inside quiet i.between;
            none = λ e o low. none_more connection_link (may_write c.args.links.now.opened.items) o at c.args.connections.now _ c.connection-item.result here inside (λ same. quiet) (i.none e o low);
          })
    ]

use Rattle.wc_turns.proofs.serve.next_framed.Goals as goal
use Rattle.std.proofs.Common.{sym, ◌∙◌, arith}
use Rattle.wc_turns.specs.Links.{link_number}
use Rattle.wc_turns.specs.Sources.{may_write_frames}
use Rattle.wc_turns.proofs.LeastLemmas.{least_between, passed_between, other_between, none_more}
use Rattle.wc_turns.proofs.serve.next_framed.Goals.{then-may_write_frames, else-may_write_frames}

pub loop-state-preserved : goal.loop-state-preserved
loop-state-preserved c =
    let i = c.loop-state.invariant in
    let at = c.loop-state.state-index in
    let inside = c.loop-state-test.true in
    let here = sym c.state-item.is in
    elim c.if-may_write_frames.branch [
      | then-may_write_frames w ↦ rw w.next-is (
          let lesser = w.lesser-next.ensures in
          record {
            above = lesser.above i.above;
            between = least_between link_number may_write_frames c.args.last at c.args.states.now _ c.state-item.result c.loop-state.next w.lesser-next.result here inside (other_between link_number may_write_frames c.args.last c.state-item.result w.lesser-next.result lesser.other) lesser.before i.between i.none;
            none = λ e o low. (let known = lesser.none e in none_more link_number may_write_frames o at c.args.states.now _ c.state-item.result here inside (λ same. absurd (let q = known.1 in omega arith)) (i.none known.0 o low));
          })
      | else-may_write_frames w ↦ rw w.next-is (
          let quiet = sym c.may_write_frames.ensures ∙ w.if-may_write_frames.false in
          record {
            above = i.above;
            between = passed_between link_number may_write_frames c.args.last at c.args.states.now _ c.state-item.result c.loop-state.next here inside quiet i.between;
            none = λ e o low. none_more link_number may_write_frames o at c.args.states.now _ c.state-item.result here inside (λ same. quiet) (i.none e o low);
          })
    ]

use Rattle.std.proofs.Common.{sym, ◌∙◌, arith}
use Rattle.wc_turns.specs.Links.{link_number}
use Rattle.wc_turns.specs.Sources.{is_left_over}
use Rattle.wc_turns.proofs.LeastLemmas.{least_between, passed_between, other_between, none_more}
use Rattle.wc_turns.proofs.ServeLemmas.{unnamed-by, one-of}
use Rattle.wc_turns.proofs.serve.next_undrained.Goals as goal
use Rattle.wc_turns.proofs.serve.next_undrained.Goals.{then-is_left_over, else-is_left_over}

pub loop-state-preserved : goal.loop-state-preserved
loop-state-preserved c =
    let i = c.loop-state.invariant in
    let at = c.loop-state.state-index in
    let inside = c.loop-state-test.true in
    let here = sym c.state-item.is in
    elim c.if-is_left_over.branch [
      | then-is_left_over w ↦ rw w.next-is (
          let lesser = w.lesser-next.ensures in
          record {
            above = lesser.above i.above;
            between = least_between link_number (is_left_over c.args.tokens.now) c.args.last at c.args.states.now _ c.state-item.result c.loop-state.next w.lesser-next.result here inside (other_between link_number (is_left_over c.args.tokens.now) c.args.last c.state-item.result w.lesser-next.result lesser.other) lesser.before i.between i.none;
            none = λ e o low. (let known = lesser.none e in none_more link_number (is_left_over c.args.tokens.now) o at c.args.states.now _ c.state-item.result here inside (λ same. absurd (let q = known.1 in omega arith)) (i.none known.0 o low));
            unnamed = one-of c.args.tokens.now c.loop-state.next c.state-item.result.link w.lesser-next.result lesser.one i.unnamed (unnamed-by c.state-item.result.undrained _ (sym c.is_left_over.ensures ∙ w.if-is_left_over.true));
          })
      | else-is_left_over w ↦ rw w.next-is (
          let quiet = sym c.is_left_over.ensures ∙ w.if-is_left_over.false in
          record {
            above = i.above;
            between = passed_between link_number (is_left_over c.args.tokens.now) c.args.last at c.args.states.now _ c.state-item.result c.loop-state.next here inside quiet i.between;
            none = λ e o low. none_more link_number (is_left_over c.args.tokens.now) o at c.args.states.now _ c.state-item.result here inside (λ same. quiet) (i.none e o low);
            unnamed = i.unnamed;
          })
    ]

use Rattle.std.proofs.Common.{◌≡◌, ◌∷◌}
use Rattle.std.specs.Vec.Iter.{into_iter_items}
use Rattle.wc_irc.proofs.FourLemmas.{first_writable, next_line}
use Rattle.wc_irc.proofs.errand_acts.put_lines.Goals as goal

pub loop-params-preserved : goal.loop-params-preserved
loop-params-preserved c =
    let left = into_iter_items c.loop-params.params-iterator in
    let rest = into_iter_items c.next.new.self in
    let first : left ≡ c.in-Some.params ∷ rest = c.in-Some.ensures.steps.0 in
    record {
      may = (first_writable c.args.command.now c.in-Some.params left rest first c.loop-params.invariant.may).1;
      same = next_line c.args.buffers.now c.args.command.now c.in_ok-line.line c.in-Some.params left rest c.loop-params.acts c.put_line.new.acts _ first c.in_ok-line.ensures c.in_ok-put_line.ensures c.loop-params.invariant.same;
    }

use Rattle.wc_core.proofs.FilterLemmas.{takes-filters, flips-lines, took, none-are, some-are}
use Rattle.wc_core.proofs.core_state.Core.refilter.Goals as goal

pub returns-then-is_empty : goal.returns-then-is_empty
returns-then-is_empty c =
    takes-filters c.args.self.now _ c.args.plan c.args.flips (none-are c.args.flips c.as_slice.result.now c.is_empty.result c.is_empty.ensures c.if-is_empty.true c.as_slice.ensures)
    (took c.args.self.now _ c.take.new.self c.args.plan c.self.view_is c.take.ensures)

pub returns : goal.returns
returns c =
    flips-lines c.args.self.now c.flip_lines.new.self c.args.plan c.args.flips (some-are c.args.flips c.as_slice.result.now c.is_empty.result c.is_empty.ensures c.if-is_empty.false c.as_slice.ensures) c.flip_lines.ensures

use Rattle.std.proofs.Common.{◌+◌, ◌-◌, ◌/◌, arith}
use Rattle.wc_edge.specs.Rows.{no_row}
use Rattle.wc_edge.proofs.RowLemmas.{placed_at, missing_between, below_middle, above_middle}
use Rattle.wc_edge.proofs.rows.place_of.Goals as goal

pub returns-then-number-link : goal.returns-then-number-link
returns-then-number-link c =
    let m = c.loop-low.low + (c.loop-low.high - c.loop-low.low) / 2 in
    placed_at c.args.rows.now m c.args.link.0 no_row c.requires (omega arith) (omega arith)

pub loop-low-preserved-then-number-link-2 : goal.loop-low-preserved-then-number-link-2
loop-low-preserved-then-number-link-2 c =
    let m = c.loop-low.low + (c.loop-low.high - c.loop-low.low) / 2 in
    (omega arith, omega arith, below_middle c.args.rows.now m c.args.link.0 no_row c.requires (omega arith) (omega arith), c.loop-low.invariant.3)

pub loop-low-preserved : goal.loop-low-preserved
loop-low-preserved c =
    let m = c.loop-low.low + (c.loop-low.high - c.loop-low.low) / 2 in
    (omega arith, omega arith, c.loop-low.invariant.2, above_middle c.args.rows.now m c.args.link.0 no_row c.requires (omega arith) (omega arith))

pub returns : goal.returns
returns c = missing_between c.args.rows.now c.loop-low.low c.loop-low.high c.args.link.0 (omega arith) c.loop-low.invariant.2 c.loop-low.invariant.3

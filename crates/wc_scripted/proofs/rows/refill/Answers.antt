use Rattle.std.proofs.Common.{ap, get_or}
use Rattle.std.proofs.lemmas.List.Edits.{map_over_more}
use Rattle.wc_scripted.specs.Rows.{refilled}
use Rattle.wc_scripted.specs.declared.rows.Row.{Row}
use Rattle.wc_scripted.proofs.rows.refill.Goals as goal

pub loop-row-preserved : goal.loop-row-preserved
loop-row-preserved c =
    let read = ap (λ (row : Row). get_or c.loop-row.rows c.loop-row.row-index row) c.row-item.is in
    map_over_more refilled c.args.rows.now c.loop-row.rows c.loop-row.row-index (get_or c.loop-row.rows c.loop-row.row-index c.row-item.result) c.loop-row-test.true c.loop-row.invariant read

use Rattle.std.proofs.Common.{◌∙◌, get_or, set, ap, sym}
use Rattle.wc_triggers.specs.Kept.{with_flag}
use Rattle.wc_lines.proofs.FlagLemmas.{next}
use Rattle.wc_triggers.proofs.triggers.enable.Goals as goal

pub loop-row-preserved : goal.loop-row-preserved
loop-row-preserved c =
    let F = with_flag c.args.name.now c.args.on in
    let at = c.loop-row.row-index in
    let row = c.row-item.result in
    let inside = c.loop-row-test.true in
    ap (set c.loop-row.rows at) (c.enable.ensures ∙ ap F (sym c.row-item.is))
    ∙ ap (λ rows. set rows at (F row)) c.loop-row.invariant
    ∙ next F at c.args.rows.now row inside (c.row-item.is ∙ ap (λ rows. get_or rows at row) c.loop-row.invariant)

use Rattle.std.proofs.Common.{◌∙◌, get_or, set, ap, sym}
use Rattle.std.specs.Option.{option_copied}
use Rattle.wc_filters.specs.Kept.{with_switch}
use Rattle.wc_lines.proofs.FlagLemmas.{next}
use Rattle.wc_filters.proofs.filters.switch_rows.Goals as goal

pub loop-row-preserved : goal.loop-row-preserved
loop-row-preserved c =
    let F = with_switch (option_copied c.args.name) c.args.switch in
    let at = c.loop-row.row-index in
    let row = c.row-item.result in
    let inside = c.loop-row-test.true in
    ap (set c.loop-row.rows at) (c.switch.ensures ∙ ap F (sym c.row-item.is))
    ∙ ap (λ rows. set rows at (F row)) c.loop-row.invariant
    ∙ next F at c.args.rows.now row inside (c.row-item.is ∙ ap (λ rows. get_or rows at row) c.loop-row.invariant)

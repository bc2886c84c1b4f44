use Rattle.std.proofs.Common.{◌≡◌, ◌<◌, ◌∙◌, ap, arith, length, get_or, set}
use Rattle.std.proofs.lemmas.List.{get_or_default}
use Rattle.std.proofs.lemmas.List.Edits.{map_over_more}
use Rattle.wc_view.specs.Parts.{flagged_line}
use Rattle.wc_view.proofs.buffer_lines.flag_lines.Goals as goal

pub loop-line-preserved : goal.loop-line-preserved
loop-line-preserved c =
    let inside : c.loop-line.line-index < length c.loop-line.lines = omega arith in
    let x = get_or c.loop-line.lines c.loop-line.line-index c.line-item.result in
    let at : x ≡ get_or c.loop-line.lines c.loop-line.line-index x = get_or_default c.loop-line.lines c.loop-line.line-index c.line-item.result x inside in
    let one : c.flag_line.new.line ≡ flagged_line c.args.flag x = c.flag_line.ensures in
    ap (λ s. set c.loop-line.lines c.loop-line.line-index s) one
    ∙ map_over_more (flagged_line c.args.flag) c.args.lines.now c.loop-line.lines c.loop-line.line-index x (omega arith) c.loop-line.invariant at

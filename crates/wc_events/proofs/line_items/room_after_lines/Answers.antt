use Rattle.std.proofs.Common.{◌≡◌, List, ◌∷◌, [], length, ap, sym, subst}
use Rattle.wc_lines.specs.declared.line.Line.{Line}
use Rattle.wc_events.specs.LinesTold.{Leaves, lines_of, lines_spelled}
use Rattle.wc_events.proofs.LinesTold.{one_leaves}
use Rattle.wc_events.proofs.line_items.room_after_lines.Goals as goal

pub returns-in-New : goal.returns-in-New
returns-in-New c =
    let same : lines_of c.args.told ≡ c.in-New.line.now ∷ [] = ap lines_of c.in-New.is in
    subst (λ (ls : List Line). Leaves c.room_after_item.result c.args.left (lines_spelled c.args.buffer c.args.keys.now ls) (length ls)) (sym same)
    (one_leaves c.room_after_item.result c.args.left c.args.buffer c.args.keys.now c.in-New.line.now c.room_after_item.ensures)

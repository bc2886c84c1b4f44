use Rattle.std.proofs.Common.{◌≡◌, ℕ, List, ap, sym, subst, ◌∙◌}
use Rattle.wc_objects.specs.Spelling.{HasRoomFor, Puts}
use Rattle.wc_events.specs.LinesTold.{line_spelled, lines_of, lines_spelled}
use Rattle.wc_events.proofs.LinesTold.{one_line}
use Rattle.wc_events.proofs.line_items.put_lines.Goals as goal

pub put_item-requires : goal.put_item-requires
put_item-requires c =
    let same : lines_spelled c.args.buffer c.args.keys.now (lines_of c.args.told) ≡ line_spelled c.args.buffer c.args.keys.now c.in-New.line.now =
    ap (λ told. lines_spelled c.args.buffer c.args.keys.now (lines_of told)) c.in-New.is ∙ one_line c.args.buffer c.args.keys.now c.in-New.line.now in
    subst (λ (b : List ℕ). HasRoomFor c.args.out.now b) same c.requires

pub returns-in-New : goal.returns-in-New
returns-in-New c =
    let same : lines_spelled c.args.buffer c.args.keys.now (lines_of c.args.told) ≡ line_spelled c.args.buffer c.args.keys.now c.in-New.line.now =
    ap (λ told. lines_spelled c.args.buffer c.args.keys.now (lines_of told)) c.in-New.is ∙ one_line c.args.buffer c.args.keys.now c.in-New.line.now in
    subst (λ (b : List ℕ). Puts c.args.out.now c.put_item.new.out b) (sym same) c.put_item.ensures

use Rattle.std.proofs.Common.{◌≡◌, IfOk, subst}
use Rattle.wc_lines.specs.declared.line.Line.{Line}
use Rattle.wc_lines.specs.PackedLines.{line_with}
use Rattle.wc_model.specs.LineCuts.{line_of}
use Rattle.wc_world.proofs.cut.line_of.Goals as goal

pub returns : goal.returns
returns c =
    let whole : Line = line_of c.args.printed c.args.handle c.args.spec in
    let marks = c.marks_of-marks.ensures in
    let tags = c.cut_texts-texts.ensures.tags in
    let prefix = c.cut_texts-texts.ensures.prefix in
    let message = c.cut_texts-texts.ensures.message in
    subst (λ line. IfOk c.new.result (λ l. l ≡ line)) (λ i. line_with (marks i) (tags i) (prefix i) (message i)) c.new.ensures

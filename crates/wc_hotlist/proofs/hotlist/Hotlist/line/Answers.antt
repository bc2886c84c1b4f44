use Rattle.std.proofs.Common.{true, ap, ◌∙◌}
use mir.Syntax.{w8}
use Rattle.std.proofs.lemmas.Int.{to_z-of_z}
use Rattle.wc_hotlist.specs.Kept.{rows_with}
use Rattle.wc_hotlist.proofs.KeptLaws.{line_keeps}
use Rattle.wc_hotlist.proofs.hotlist.Hotlist.line.Goals as goal

pub returns-then-displayed-clause-model : goal.returns-then-displayed-clause-model
returns-then-displayed-clause-model c =
    let rows = c.count_displayed.ensures.rows ∙ ap (λ n. rows_with c.self.inside.rows.items c.args.buffer n true) (to_z-of_z w8 c.args.notify c.ranges.notify) in
    line_keeps c.args.self.now c.self.inside.rows.items c.count_displayed.new.rows.items c.args.buffer c.args.notify c.args.displayed c.self.view_is rows c.if-displayed.true

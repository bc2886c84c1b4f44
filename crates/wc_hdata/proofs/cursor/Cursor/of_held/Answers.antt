use Rattle.std.proofs.Common.{sym, ◌∙◌}
use Rattle.wc_hdata.specs.Reached.{Line_at, held_lines}
use Rattle.wc_hdata.proofs.AlongMap.{along_map}
use Rattle.wc_hdata.proofs.cursor.Cursor.of_held.Goals as goal

pub returns : goal.returns
returns c = c.along.ensures ∙ sym (along_map Line_at c.args.count c.args.at (held_lines c.args.lines.now))

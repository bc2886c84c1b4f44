use Rattle.std.proofs.Common.{sym, ◌∙◌, map}
use Rattle.wc_hdata.specs.Lists.{held_by}
use Rattle.wc_hdata.specs.Reached.{Line_at}
use Rattle.wc_hdata.proofs.AlongMap.{along_map}
use Rattle.wc_hdata.proofs.cursor.Cursor.of_own.Goals as goal

pub returns : goal.returns
returns c = c.along.ensures ∙ sym (along_map Line_at c.args.count c.args.at (map (held_by c.args.buffer) c.args.lines.now.lines))

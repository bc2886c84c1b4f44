use Rattle.std.proofs.Common.{sym, ◌∙◌}
use Rattle.wc_hdata.specs.Reached.{Buffer}
use Rattle.wc_hdata.proofs.AlongMap.{along_map}
use Rattle.wc_hdata.proofs.cursor.Cursor.of_buffers.Goals as goal

pub returns : goal.returns
returns c = c.along.ensures ∙ sym (along_map Buffer c.args.count c.args.at c.args.buffers.now)

use Rattle.wc_options.specs.Table.{globals}
use Rattle.wc_options.proofs.table.global_row.Goals as goal

pub returns : goal.returns
unfolding globals
returns c = c.row_in.ensures

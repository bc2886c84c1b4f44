use Rattle.wc_options.specs.Table.{of_server}
use Rattle.wc_options.proofs.table.server_row.Goals as goal

pub returns : goal.returns
unfolding of_server
returns c = c.row_in.ensures

use Rattle.wc_options.specs.Table.{of_server}
use Rattle.wc_options.proofs.table.server_place.Goals as goal

pub returns : goal.returns
unfolding of_server
returns c = c.place_in.ensures
